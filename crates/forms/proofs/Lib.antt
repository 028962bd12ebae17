pub mod Scanning
pub mod Wording
pub mod Reading
