-- The words of the contracts: a term's numbers and sums of them, the names as the code has them, heads as codes, the parts of a list as they are
-- gathered, and what a term that was read says.
pub mod Seven
pub mod Names
pub mod Heads
pub mod Gathered
pub mod Gathering
pub mod Read
