-- Lines of outside vectors against the definitions.
pub mod Vectors
pub mod Imports
