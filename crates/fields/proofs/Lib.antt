pub mod Texts
pub mod Reading
pub mod Fields
pub mod Pieces
pub mod Uses
