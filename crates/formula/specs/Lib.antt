-- The formula's truths as the code settles them, and that worths which read alike settle alike.
pub mod Truths
pub mod Parts
pub mod Alike
