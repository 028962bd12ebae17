-- The machine that the code explores, a row as it is loaded, that the machine does what a question's machine does, and how the numbering moves on.
pub mod Machine
pub mod Loaded
pub mod Simulated
pub mod Moves
