-- Laws that the proofs of the loop cite.
mod Going
