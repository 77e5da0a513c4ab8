pub mod Lists
pub mod Printable
pub mod Own
pub mod Apart
pub mod Accepted
