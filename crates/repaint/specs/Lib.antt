pub mod Spans
pub mod Pass
pub mod Bytes
pub mod Proposal
pub mod Theorems
pub mod Cases
pub mod Forward
pub mod Uses
