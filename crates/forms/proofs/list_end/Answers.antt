-- `forms::list_end` meets its contract. Assumes nothing.
use native.Mathlib.Omega.{arith}
use mathlib.Core.Path.{sym, ◌∙◌}
use Rattle.lexicon.specs.Steps.{hand_of, move_said}
use Rattle.forms.proofs.Scanning.{counting_starts, counting_ends, counting_stops, counting_on}
use Rattle.forms.proofs.list_end.Goals as goal

pub loop-i-init : goal.loop-i-init
loop-i-init c = counting_starts _ _ c.requires

pub left_after-requires : goal.left_after-requires
left_after-requires c = omega (arith, c.loop-i.invariant.few)

pub returns-in_default : goal.returns-in_default
returns-in_default c =
    let p = counting_stops _ _ c.loop-i.i (hand_of c.loop-i.state) c.loop-i.left c.loop-i.invariant c.loop-i-test.true (move_said c.move_of-step.result) c.move_of-step.ensures (sym c.left_after.ensures ∙ c.in_default.is) in record { stands = p.0; closed = p.1 }

pub loop-i-preserved : goal.loop-i-preserved
loop-i-preserved c =
    rw c.state-state.ensures (counting_on _ _ c.loop-i.i (hand_of c.loop-i.state) c.loop-i.left c.loop-i.invariant c.loop-i-test.true (move_said c.move_of-step.result) c.move_of-step.ensures c.in-Some.more (sym c.left_after.ensures ∙ c.in-Some.is))

pub returns : goal.returns
returns c =
    let p = counting_ends _ _ c.loop-i.i (hand_of c.loop-i.state) c.loop-i.left c.loop-i.invariant c.loop-i-test.false in record { stands = p.0; closed = p.1 }
