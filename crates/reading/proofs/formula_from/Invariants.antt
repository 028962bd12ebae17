-- What is still to be read leads to the whole reading.
use Prim.Native.Nat.{◌+◌, ◌-◌}
use Rattle.scope.specs.Sizes.{most_nodes}
use Rattle.reading.proofs.Turns.{Left}
use Rattle.reading.proofs.formula_from.Given as goal

abbrev pub invariant-loop-depth : goal.invariant-loop-depth
invariant-loop-depth l =
    Left l.bytes l.initial.question l.initial.shape l.initial.place l.question l.shape l.place

abbrev pub decreases-loop-depth : goal.decreases-loop-depth
decreases-loop-depth l = most_nodes + 1 - l.shape.nodes
