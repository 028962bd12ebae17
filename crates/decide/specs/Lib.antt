-- What deciding leaves, and how exploring a question comes to its answer.
pub mod Decides
pub mod Start
pub mod Lends
pub mod Explores
pub mod Handed
