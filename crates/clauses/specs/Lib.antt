-- The words of the contracts: what a formula that was read says.
pub mod Read
