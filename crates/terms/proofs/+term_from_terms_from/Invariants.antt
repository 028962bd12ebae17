use Prim.Native.Nat.{◌+◌, ◌-◌}
use lib.ListN.{length}
use Rattle.smtlib.specs.Lexicon.{most_nesting}
use Rattle.terms.specs.Names.{names_in}
use Rattle.terms.proofs.ListsRead.{Sofar}
use Rattle.terms.proofs.+term_from_terms_from.Given as goal

abbrev pub decreases-term_from : goal.decreases-term_from
decreases-term_from l = l.nesting + l.nesting

abbrev pub decreases-terms_from : goal.decreases-terms_from
decreases-terms_from l = l.nesting + l.nesting + 1

abbrev pub invariant-terms_from-loop-term : goal.invariant-terms_from-loop-term
invariant-terms_from-loop-term l =
    Sofar l.text l.at (most_nesting - l.nesting) (names_in l.text l.names l.count) l.gathering l.next

abbrev pub decreases-terms_from-loop-term : goal.decreases-terms_from-loop-term
decreases-terms_from-loop-term l = length l.text - l.next
