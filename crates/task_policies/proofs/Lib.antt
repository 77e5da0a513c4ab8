pub mod Filters
pub mod Foremost
pub mod Ranks
pub mod Rows
pub mod Sums
