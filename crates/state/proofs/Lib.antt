pub mod Tests
pub mod Lists
mod Plain
pub mod Segments
pub mod Gathered
