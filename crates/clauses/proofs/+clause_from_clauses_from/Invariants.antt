use Prim.Native.Nat.{◌+◌, ◌-◌, ◌≤◌}
use lib.ListN.{length}
use Rattle.smtlib.specs.Lexicon.{most_nesting}
use Rattle.terms.specs.Names.{names_in}
use Rattle.clauses.proofs.Reading.{ClausesSofar}
use Rattle.clauses.proofs.+clause_from_clauses_from.Given as goal

abbrev pub decreases-clause_from : goal.decreases-clause_from
decreases-clause_from l = l.nesting + l.nesting

abbrev pub decreases-clauses_from : goal.decreases-clauses_from
decreases-clauses_from l = l.nesting + l.nesting + 1

abbrev pub invariant-clauses_from-loop-found : goal.invariant-clauses_from-loop-found
invariant-clauses_from-loop-found l =
    (l.at + l.number ≤ l.next) × ((l.next ≤ length l.text) × ClausesSofar l.text l.at (most_nesting - l.nesting) (names_in l.text l.names l.count) l.fault l.number l.next)

abbrev pub decreases-clauses_from-loop-found : goal.decreases-clauses_from-loop-found
decreases-clauses_from-loop-found l = length l.text - l.next
