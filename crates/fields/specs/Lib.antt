pub mod Theorems
pub mod Uses
pub mod Given
