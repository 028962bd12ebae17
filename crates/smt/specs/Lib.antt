-- What the program smt prints of a text, and what it says.
pub mod Solved
pub mod Room
pub mod Printed
pub mod Examples
