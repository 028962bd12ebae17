-- What the calls leave, and what the contract of `answer_to` promises.
pub mod Laws
pub mod Text
