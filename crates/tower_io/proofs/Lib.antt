pub mod Adding
pub mod Counting
mod Finding
pub mod Taking
