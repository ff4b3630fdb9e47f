pub mod Segments
pub mod Ranges
