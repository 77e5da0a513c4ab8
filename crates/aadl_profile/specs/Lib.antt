pub mod Strings
pub mod Pieces
pub mod Lines
pub mod Profile
pub mod Tokens
pub mod WorkedTexts
