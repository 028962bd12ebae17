-- `search::edges::Edges::word_of` is safe and ends: a state comes from an earlier one. Assumes nothing.
use Rattle.search.proofs.edges.Edges.word_of.Given as goal

abbrev pub decreases-loop-at : goal.decreases-loop-at
decreases-loop-at l = l.at
