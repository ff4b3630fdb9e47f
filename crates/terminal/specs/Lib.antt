pub mod Promise
pub mod Loop
pub mod FastPath
pub mod Sequence
pub mod Rows
pub mod Noninterference
pub mod RowNoninterference
