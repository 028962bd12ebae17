-- The laws that the proofs cite: an atom's numbers, one node, formulas without fault, lists and their parts in the text, and those laid.
pub mod AtomNumbers
pub mod OneNode
pub mod Clauses
pub mod ListParts
pub mod LaidLists
