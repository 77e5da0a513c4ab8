pub mod ByPolicy
pub mod Ceilings
