pub mod Ty
pub mod Value
pub mod Arithmetic
pub mod View
pub mod Codes
pub mod Records
pub mod Laws
pub mod WorkedValues
