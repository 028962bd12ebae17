-- Laws of records, and those that the proofs of reading and writing share.
pub mod Found
pub mod Bounds
pub mod Codes
pub mod Shapes
pub mod Due
pub mod Checks
