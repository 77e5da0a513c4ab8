pub mod Counts
pub mod Machine
pub mod Demand
pub mod Rules
pub mod Facts
pub mod Laws
