use lib.IntN.{pos}
use lib.ListN.{get_or}
use Rattle.fields.proofs.Stores.{RowLeft}
use Rattle.fields.proofs.held.put_atom.Given as goal

abbrev pub invariant-loop-j : goal.invariant-loop-j
invariant-loop-j l = RowLeft l.question.coefficients (get_or l.question.constants l.atom (pos 0)) l.row l.n l.at l.initial.bytes l.bytes l.j
