-- `laying::lists::part_end` meets its contract.
use Rattle.laying.proofs.ListParts.{last_ends, another_ends}
use Rattle.laying.proofs.lists.part_end.Goals as goal

pub returns-then-form-eq-CLOSE : goal.returns-then-form-eq-CLOSE
returns-then-form-eq-CLOSE c =
    record { inside = c.form_at-form.ensures.stands.inside; ends = last_ends c.args.text.now c.args.at _ c.form_at-part.result c.form_at-form.result c.form_at-part.ensures.stands c.form_at-part.ensures.read c.form_end-after.ensures.stands.0 c.form_end-after.ensures.behind c.form_at-form.ensures.stands c.form_at-form.ensures.read c.if-form-eq-CLOSE.true }

pub returns-else-form-eq-CLOSE : goal.returns-else-form-eq-CLOSE
returns-else-form-eq-CLOSE c =
    record { inside = c.form_at-form.ensures.stands.inside; ends = another_ends c.args.text.now c.args.at _ c.form_at-part.result c.form_at-form.result c.form_at-part.ensures.stands c.form_at-part.ensures.read c.form_end-after.ensures.stands.0 c.form_end-after.ensures.behind c.form_at-form.ensures.stands c.form_at-form.ensures.read c.if-form-eq-CLOSE.false }
