pub mod Elements
pub mod Ended
