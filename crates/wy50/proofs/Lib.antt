mod Loops
mod Options
mod Gathered
mod Calls
mod RowCalls
mod Next
mod SavedCalls
mod ConvertCalls
mod MendCalls
mod RepaintCalls
pub mod RoundTrip
pub mod Kept
pub mod Noninterference
pub mod RowNoninterference
pub mod Sessions
pub mod Repainting
pub mod Cases
pub mod Uses
