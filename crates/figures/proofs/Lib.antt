-- What the answers of `told` cite.
pub mod Refused
