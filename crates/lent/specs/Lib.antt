-- What the exported calls answer.
pub mod Lent
pub mod Told
