pub mod Values
pub mod Spelling
pub mod Tables
pub mod Running
