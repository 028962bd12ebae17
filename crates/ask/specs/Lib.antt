-- What the asking program answers, by the definitions.
pub mod Asked
pub mod Room
pub mod Printed
pub mod Examples
