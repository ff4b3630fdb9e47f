pub mod Mend
pub mod Theorems
pub mod Cases
