use Prim.Native.Nat.{◌-◌}
use lib.ListN.{length}
use Rattle.importing.specs.Underway.{LaidSoFar}
use Rattle.importing.proofs.commands.lay_commands.Given as goal

abbrev pub invariant-loop-progress : goal.invariant-loop-progress
invariant-loop-progress l = LaidSoFar l.text l.n l.progress

abbrev pub decreases-loop-progress : goal.decreases-loop-progress
decreases-loop-progress l = length l.text - l.progress.next
