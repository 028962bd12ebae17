-- a formula is true where the text says so
pub mod Truths
-- the script of a text: its names, their signs, what is asserted
pub mod Scripts
-- every atom has six coefficients
pub mod Rows
-- what is held of an accepted text is a question
pub mod Accepted
-- and it says what the text says
pub mod Means
