-- The words of the contracts: a question as far as its nodes are laid, and formulas of the text laid.
pub mod Laid
pub mod Noted
pub mod Deeper
pub mod Texts
-- laws of what is laid: nodes behind others, one node more, joined parts, and the tree of a formula
pub mod Appended
pub mod More
pub mod Joins
pub mod LaidTree
