-- The word that a path area spells, and the answer by how exploring ended.
pub mod Path
pub mod Answering
