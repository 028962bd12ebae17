-- The words of the contracts: what an import gives, and how far the commands of a text are laid.
pub mod Given
pub mod Underway
