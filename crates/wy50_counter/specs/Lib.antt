pub mod Raw
pub mod Uses
