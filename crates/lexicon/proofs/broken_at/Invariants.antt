use mathlib.Core.Path.{◌≡◌}
use Prim.Native.Nat.{◌≤◌}
use lib.ListN.{drop}
use Rattle.smtlib.specs.Lexicon.{most_nesting, broken_from, broken_at}
use Rattle.lexicon.specs.Steps.{hand_of}
use Rattle.lexicon.proofs.broken_at.Given as goal

abbrev pub invariant-loop-i : goal.invariant-loop-i
invariant-loop-i l = (l.depth ≤ most_nesting) × (broken_at l.text ≡ broken_from (drop l.i l.text) (hand_of l.state) l.depth l.i)
