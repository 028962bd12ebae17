-- Laws that the proofs cite.
pub mod Keeping
pub mod Telling
pub mod Listing
pub mod Signing
pub mod Commanding
