-- Laws that the proofs of the copying loops cite.
pub mod Copies
