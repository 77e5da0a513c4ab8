pub mod Arrivals
pub mod Reached
pub mod HasFacts
pub mod Named
pub mod Bounded
