pub mod Pages
pub mod Sessions
pub mod Streams
pub mod Completed
pub mod Given
pub mod CodeSessions
pub mod Cases
pub mod Uses
