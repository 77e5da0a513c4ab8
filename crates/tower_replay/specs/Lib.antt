pub mod Pieces
pub mod Trial
