pub mod Opened
pub mod Depths
pub mod Broken
pub mod Same
pub mod Lengths
