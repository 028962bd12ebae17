pub mod Signed
pub mod KindCodes
pub mod Doubling
