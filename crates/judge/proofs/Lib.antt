pub mod Products
pub mod AtomKinds
pub mod Noting
pub mod Judging
