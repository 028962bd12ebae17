-- Laws that the proofs of writing cite.
mod Sweeps
mod Checking
mod Lengths
mod Walks
mod Placing
mod Outcomes
