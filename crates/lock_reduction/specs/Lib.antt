pub mod Sound
pub mod Shaped
pub mod Reduce
pub mod Wrong
pub mod Consequences
