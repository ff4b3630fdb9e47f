pub mod Moved
pub mod Room
pub mod Text
pub mod RowList
pub mod Kind
