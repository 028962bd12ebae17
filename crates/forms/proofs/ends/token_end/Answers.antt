-- `forms::ends::token_end` meets its contract. Assumes nothing.
use mathlib.Core.Path.{sym, ap, ◌∙◌}
use Rattle.lexicon.specs.Steps.{hand_of, move_said}
use Rattle.forms.proofs.Scanning.{no_onward, spelling_starts, spelling_ends, spelling_stops, spelling_on}
use Rattle.forms.proofs.ends.token_end.Goals as goal

pub loop-i-init : goal.loop-i-init
loop-i-init c = spelling_starts _ _ _ c.requires

pub returns-in_default : goal.returns-in_default
returns-in_default c =
    spelling_stops _ _ _ c.loop-i.i (hand_of c.loop-i.state) c.loop-i.invariant c.loop-i-test.true
    (λ after e. no_onward c.move_of.result c.in_default.not-GoesOn after (c.move_of.ensures ∙ e))

pub loop-i-preserved : goal.loop-i-preserved
loop-i-preserved c =
    spelling_on _ _ _ c.loop-i.i (hand_of c.loop-i.state) c.loop-i.invariant c.loop-i-test.true (hand_of c.in-GoesOn.after) (sym c.move_of.ensures ∙ ap move_said c.in-GoesOn.is)

pub returns : goal.returns
returns c = spelling_ends _ _ _ c.loop-i.i (hand_of c.loop-i.state) c.loop-i.invariant c.loop-i-test.false
