-- Laws that the proofs cite.
pub mod Steps
pub mod Trying
