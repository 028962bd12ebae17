-- Document 02, E2, as definitions that run: SMT-LIB text into a held question, from the bytes up; and, apart from it, what the text says.
pub mod Spelling
pub mod Lexicon
pub mod Forms
pub mod Terms
pub mod Formulas
pub mod Script
pub mod Imported
pub mod Meaning
pub mod Running
-- laws of the lists that are collected: places, numbers, faults
pub mod Laws
-- the lowest place, and the fault that is told
pub mod Lowest
-- each answer of the import exactly in its case
pub mod Cases
pub mod Edges
-- a term is worth what the text says
pub mod Values
-- names and their values
pub mod Names
-- what a sign assertion says
pub mod Signs
-- what a command does to the script
pub mod Steps
-- six coefficients in every atom
pub mod Rows
-- what passes its checks is within the limits of a question
pub mod Within
-- what is said of an accepted text
pub mod Accepted
