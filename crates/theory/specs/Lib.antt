-- Theorems on the definitions of `scope`, before there is any code. docs/PROMISES.md says which theorem meets which demand.
-- The head of each group names what is used outside the group, with its meaning.

-- whole numbers, tests and lists: what the kit lacks
pub mod Numbers
-- words: their order, and what they spell
pub mod Words
-- the numbering of any machine, by first words, and its verdicts
pub mod Machine
-- entries of states: what they mean, their range, the bound, their key cells
pub mod Entries
-- the wire: one step of reading and of writing; both ways round; where each is refused
pub mod Wire
-- questions as trees, apart from any reader: their limits and held values, the bytes that are theirs, and what they mean
pub mod Trees
-- what each answer of deciding, building, running and judging says, and what each lent buffer holds after
pub mod Calls
