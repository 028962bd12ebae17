pub mod Faultless
pub mod Assertions
pub mod Turns
pub mod Begun
pub mod NameBounds
pub mod ImportCases
