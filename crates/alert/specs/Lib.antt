pub mod Cells
pub mod Room
pub mod Message
pub mod Guarded
pub mod Watch
