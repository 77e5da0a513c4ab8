pub mod Priorities
pub mod Short
pub mod Listed
