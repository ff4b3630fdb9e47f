pub mod Loop
pub mod Changes
mod Converting
pub mod Moved
pub mod Room
pub mod Sends
pub mod RowList
pub mod RowSearch
mod OpenSearch
mod KindLaws
