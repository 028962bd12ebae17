-- The lent areas, where the loop stands, and what it leaves.
pub mod Areas
pub mod Standing
pub mod Outcome
pub mod Stages
pub mod Ends
pub mod Question
