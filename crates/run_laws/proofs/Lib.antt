pub mod Sums
pub mod Credit
pub mod Plans
pub mod Paid
