pub mod Sessions
pub mod Same
pub mod Completed
pub mod Given
pub mod CodeSessions
pub mod Cases
pub mod Uses
