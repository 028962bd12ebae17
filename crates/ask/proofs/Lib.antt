-- What the contract of `answer_to` promises.
pub mod Text
