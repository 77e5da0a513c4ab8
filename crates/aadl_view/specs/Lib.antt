pub mod View
pub mod WellFormed
pub mod Codes
pub mod Parts
