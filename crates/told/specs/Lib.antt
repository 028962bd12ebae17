-- The text of an answer, byte by byte, and what a writer of text leaves.
pub mod Decimal
pub mod Text
pub mod Writers
pub mod Values
pub mod Told
pub mod Examples
