pub mod Costs
pub mod Enough
pub mod WorkedCosts
