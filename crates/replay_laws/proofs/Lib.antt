pub mod Confirmed
