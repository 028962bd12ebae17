-- The words of the contracts.
pub mod Steps
pub mod Spots
