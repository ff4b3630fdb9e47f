pub mod Puts
pub mod Texts
pub mod Messages
pub mod Labels
pub mod Starting
pub mod Watching
pub mod Taken
pub mod Short
