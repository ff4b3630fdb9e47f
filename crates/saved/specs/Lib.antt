pub mod SetupBytes
pub mod Settings
pub mod Store
pub mod Calls
pub mod SavedSetups
pub mod Cases
pub mod Put
pub mod Uses
