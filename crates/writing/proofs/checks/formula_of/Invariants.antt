use Prim.Native.Nat.{◌+◌, ◌-◌}
use Rattle.scope.specs.Sizes.{most_nodes}
use Rattle.writing.proofs.Walks.{Walking}
use Rattle.writing.proofs.checks.formula_of.Given as goal

abbrev pub invariant-loop-depth : goal.invariant-loop-depth
invariant-loop-depth l = Walking l.question l.shape l.len

abbrev pub decreases-loop-depth : goal.decreases-loop-depth
decreases-loop-depth l = most_nodes + 1 - l.shape.nodes
