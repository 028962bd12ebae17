-- What the proofs share.
mod Lanes
mod Sevens
mod HeadWords
mod HeadCodes
pub mod Opened
mod HeadForms
mod NameIndex
mod WordTerms
mod Gatherings
mod Settling
mod Collecting
mod SettledSays
mod TermsRead
mod ListsRead
