use Prim.Native.Nat.{◌-◌, ◌≤◌}
use mathlib.Core.Path.{◌≡◌}
use Rattle.smtlib.specs.Terms.{index_from}
use Rattle.lexicon.specs.Spots.{stretch}
use Rattle.terms.specs.Names.{names_from, names_in}
use Rattle.terms.proofs.words.name_index.Given as goal

abbrev pub invariant-loop-i : goal.invariant-loop-i
invariant-loop-i l =
    (l.i ≤ l.count) × (index_from l.i (stretch l.text l.from l.to) (names_from l.text l.names l.i (l.count - l.i)) ≡ index_from 0 (stretch l.text l.from l.to) (names_in l.text l.names l.count))
