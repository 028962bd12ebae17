use Prim.Native.Nat.{◌+◌, ◌-◌, ◌≤◌}
use lib.ListN.{length}
use Rattle.smtlib.specs.Lexicon.{most_nesting}
use Rattle.terms.specs.Names.{names_in}
use Rattle.laying.proofs.LaidLists.{PartsOnward}
use Rattle.laying.proofs.+lay_into_lay_joined.Given as goal

abbrev pub decreases-lay_into : goal.decreases-lay_into
decreases-lay_into l = l.nesting + l.nesting

abbrev pub decreases-lay_joined : goal.decreases-lay_joined
decreases-lay_joined l = l.nesting + l.nesting + 1

abbrev pub invariant-lay_joined-loop-laying : goal.invariant-lay_joined-loop-laying
invariant-lay_joined-loop-laying l =
    (l.at ≤ l.next) × ((l.next ≤ length l.text) × PartsOnward l.text l.at (most_nesting - l.nesting) (names_in l.text l.names l.count) l.code l.place l.initial.laying l.next l.join l.laying)

abbrev pub decreases-lay_joined-loop-laying : goal.decreases-lay_joined-loop-laying
decreases-lay_joined-loop-laying l = length l.text - l.next
