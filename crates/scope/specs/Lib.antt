-- Document 01 as definitions that run, a file for each of its headings and in its order. Nothing is proved here but that the
-- worked examples (Cases) and the edges worked by hand (Edges) come out as they should; samples tries outside vectors.
pub mod Whole
pub mod Sizes
pub mod Question
pub mod Refusals
pub mod Wire
pub mod Writing
pub mod Words
pub mod States
pub mod Tree
pub mod Bound
pub mod Numbering
pub mod Deciding
pub mod Building
pub mod Running
pub mod Judging
pub mod Outcomes
pub mod Cases
pub mod Edges
