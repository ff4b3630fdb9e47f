pub mod Bills
pub mod Uses
