use Prim.Native.Nat.{◌-◌}
use lib.ListN.{length}
use Rattle.script.specs.Walking.{ScriptSoFar}
use Rattle.script.proofs.script_of.Given as goal

abbrev pub invariant-loop-form : goal.invariant-loop-form
invariant-loop-form l = ScriptSoFar l.text l.next l.kept

abbrev pub decreases-loop-form : goal.decreases-loop-form
decreases-loop-form l = length l.text - l.next
