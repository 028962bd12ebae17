-- What judging asks of its parts.
pub mod Sums
pub mod Atoms
