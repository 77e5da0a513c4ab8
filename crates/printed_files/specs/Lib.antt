pub mod Bare
pub mod Capped
pub mod Fit
pub mod Right
