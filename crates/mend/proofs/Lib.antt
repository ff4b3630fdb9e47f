pub mod Judging
pub mod Mending
pub mod Call
pub mod Theorems
pub mod Cases
