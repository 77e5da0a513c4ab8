pub mod Rules
pub mod Lawful
pub mod Worked
pub mod Sums
