-- Laws that the proofs of reading cite.
mod Framed
mod Taken
mod Noting
mod Turns
mod Ends
