pub mod Settling
pub mod Went
pub mod Carrying
pub mod Guards
pub mod Touched
