-- The laws that the proofs cite: a list's faults by its head, and the formulas of a list one by one.
pub mod Faults
pub mod Reading
