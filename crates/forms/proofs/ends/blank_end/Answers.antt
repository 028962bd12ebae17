-- `forms::ends::blank_end` meets its contract. Assumes nothing.
use mathlib.Core.Path.{sym, ap, ◌∙◌}
use Rattle.lexicon.specs.Steps.{hand_of, move_said}
use Rattle.forms.proofs.Scanning.{no_skip, skipping_starts, skipping_ends, skipping_stops, skipping_on}
use Rattle.forms.proofs.ends.blank_end.Goals as goal

pub loop-i-init : goal.loop-i-init
loop-i-init c = skipping_starts _ _ c.requires

pub returns-in_default : goal.returns-in_default
returns-in_default c =
    skipping_stops _ _ c.loop-i.i (hand_of c.loop-i.state) c.loop-i.invariant c.loop-i-test.true
    (λ after e. no_skip c.move_of.result c.in_default.not-Skips after (c.move_of.ensures ∙ e))

pub loop-i-preserved : goal.loop-i-preserved
loop-i-preserved c =
    skipping_on _ _ c.loop-i.i (hand_of c.loop-i.state) c.loop-i.invariant c.loop-i-test.true (hand_of c.in-Skips.after) (sym c.move_of.ensures ∙ ap move_said c.in-Skips.is)

pub returns : goal.returns
returns c = skipping_ends _ _ c.loop-i.i (hand_of c.loop-i.state) c.loop-i.invariant c.loop-i-test.false
