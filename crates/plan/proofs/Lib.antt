-- Laws of the letters' bits: those that are tried next, and those that are passed over.
mod Freshness
pub mod Skipping
