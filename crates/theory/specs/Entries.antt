-- Entries of states: what they mean, their range, the bound, their key cells.
--
-- Names used outside this group, file by file.

-- what a state says of the digits still to come, and what a word's state says of the values that it spells
--   word_means           a word leads to an accepting state exactly if the values that it spells satisfy the question
--   AcceptedWord         a word over the question's letters that its machine accepts and that spells the values xs
--   accepted_satisfies   the values that an accepted word spells satisfy the question
--   satisfied_accepted   n values that satisfy the question are spelled by an accepted word
--   values_mean          n values below 2 ^ k satisfy the question exactly if their word of k letters is accepted
pub mod Meaning
-- the range of an entry
--   EntryIn       the entry is dead and its atom an equation, or it is from `lowest` to `highest` of its atom
--   in_dead       a dead entry of an equation is in range
--   in_live       a number from `lowest` to `highest` of the atom is in range
--   StateIn       a state has an entry in range for each atom
--   length_in     a state in range has as many entries as there are atoms
--   entry_in      entry i of a state in range is in the range of atom i
--   start_of_in   the start is in range
--   step_of_in    a step from a state in range leads to one in range
pub mod Range
-- the bound: states in range that differ are no more than it
--   rows_in         where the word of each row leads to the row's state, the states of the rows are in range
--   rows_in_bound   where besides these states differ, the rows are at most the bound
pub mod Bounded
-- key cells tell states apart; and the sizes that the code's signed numbers hold
--   AtomFits             an atom has at most 6 coefficients, and each of its numbers is within its limit
--   AtomsFit             every atom of the list fits
--   fits_at_lem          atom i of a list of atoms that fit does
--   numbers_fit_lem      an atom of at most 6 coefficients whose numbers pass `numbers_fit` fits
--   atoms_fit            the atoms of a question fit, where n is at most 6 and the numbers of each pass `numbers_fit`
--   most_sum             the most that a letter's sum is, either way: 24,576
--   sum_size             any letter's sum of an atom that fits is at most `most_sum` in size
--   live_size            a number in the range of an atom that fits is at most 1,000,000 in size
--   live_not_dead        such a number is not the cell of a dead entry
--   cells_of_injective   states in the range of atoms that fit are equal if their key cells are
pub mod KeyCells
