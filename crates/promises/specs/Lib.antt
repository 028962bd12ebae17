-- What the contracts of the calls promise together: the demands, sentence by sentence.
pub mod Calls
pub mod Tied
pub mod Once
pub mod Demand1
pub mod Left
pub mod Demand2
pub mod Demand3
pub mod Told
pub mod Shams
pub mod Places
pub mod Exported
