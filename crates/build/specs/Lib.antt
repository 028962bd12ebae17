-- Building: the answer with the lent areas afterwards, how filling the areas comes to it, and what a question hands over.
pub mod Builds
pub mod Filling
pub mod Asked
