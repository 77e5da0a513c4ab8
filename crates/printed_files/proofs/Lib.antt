pub mod Sieved
pub mod TypesSame
pub mod FileSame
pub mod Alike
pub mod NamesSame
pub mod FitClean
pub mod Accepted
pub mod Capped
