-- What reading answers on its way, and at its end.
pub mod Steps
pub mod Answers
