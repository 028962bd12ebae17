-- Laws that the proofs of an atom's numbers cite, and those of stores that writing cites too.
mod Bodies
mod Answered
pub mod Stores
