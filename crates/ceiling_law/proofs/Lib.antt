pub mod Places
pub mod Foremost
pub mod Due
pub mod Held
pub mod Named
pub mod Waits
pub mod Raised
