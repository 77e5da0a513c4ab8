pub mod Words
pub mod Draws
pub mod File
pub mod Worked
pub mod System
pub mod Rows
pub mod Made
