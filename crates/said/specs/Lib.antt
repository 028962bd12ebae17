-- What the program smt prints.
pub mod Said
