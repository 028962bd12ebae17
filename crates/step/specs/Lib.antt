-- What a letter does to a key row, and what the row's atoms are worth.
pub mod Eight
pub mod Cells
pub mod Atoms
pub mod Laws
