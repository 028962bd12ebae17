-- `forms::form_end` meets its contract. Assumes nothing.
use native.Mathlib.Omega.{arith}
use Rattle.forms.proofs.Reading.{list_behind, word_behind}
use Rattle.forms.proofs.form_end.Goals as goal

pub returns-then-form-ne-OPEN : goal.returns-then-form-ne-OPEN
returns-then-form-ne-OPEN c =
    record { stands = (omega arith, c.requires); behind = word_behind _ _ c.if-form-ne-OPEN.true }

pub returns : goal.returns
returns c =
    record { stands = c.list_end.ensures.stands; behind = list_behind _ _ _ c.if-form-ne-OPEN.false c.list_end.ensures.closed }
