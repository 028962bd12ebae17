-- The words of the contracts: the forms from a place on, and what a form that was read says of them; and the laws for those who read on.
pub mod Places
pub mod Read
pub mod Following
-- what one byte does, and where blanks, words and lists end
pub mod Moves
pub mod Levels
pub mod FirstBytes
pub mod NextBytes
pub mod SkippedBytes
pub mod Stretches
pub mod Blanks
pub mod TokenEnds
pub mod Standing
pub mod Closing
-- which word it is
pub mod Numerals
pub mod WordKinds
pub mod WordRead
