-- What `run` asks of its parts.
pub mod Tables
