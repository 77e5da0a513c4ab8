pub mod Lists
pub mod Rules
pub mod Visits
pub mod Adequate
