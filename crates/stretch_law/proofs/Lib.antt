pub mod Sums
pub mod Credit
pub mod Steady
pub mod Keeps
pub mod Counted
pub mod Laws
pub mod Grows
