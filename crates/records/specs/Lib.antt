-- What a record is to the code, the walk along a formula, and what looking at a node of a held question answers.
pub mod Headers
pub mod Bodies
pub mod Formula
pub mod Parts
