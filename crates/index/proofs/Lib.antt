-- Laws on plain values, for the proofs of this crate.
mod Cells
mod Four
