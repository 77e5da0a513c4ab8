pub mod Seen
pub mod Moves
pub mod Timed
pub mod Bounds
