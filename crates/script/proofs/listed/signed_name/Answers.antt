-- `script::listed::signed_name` meets its contract. Assumes nothing.
use Rattle.script.proofs.Signing.{list_inside, no_list_signs, list_alone, list_not_alone}
use Rattle.script.proofs.listed.signed_name.Goals as goal

pub returns-then-form-ne-OPEN : goal.returns-then-form-ne-OPEN
returns-then-form-ne-OPEN c = no_list_signs _ _ _ _ c.form_at-form.ensures.read c.requires.0.unbroken _ c.if-form-ne-OPEN.true

pub returns-then-rest-ge-OPEN : goal.returns-then-rest-ge-OPEN
returns-then-rest-ge-OPEN c =
    list_not_alone _ _ _ _ c.form_at-form.ensures.read c.requires.0.unbroken _ c.if-form-ne-OPEN.false _ c.form_end.ensures.behind _ c.form_at-rest.ensures.read c.if-rest-ge-OPEN.true

pub signed_in-requires : goal.signed_in-requires
signed_in-requires c = (list_inside _ _ _ _ c.form_at-form.ensures.read c.requires.0.unbroken c.form_at-form.ensures.stands c.if-form-ne-OPEN.false, c.requires.1)

pub returns : goal.returns
returns c =
    rw (list_alone _ _ _ _ c.form_at-form.ensures.read c.requires.0.unbroken _ c.if-form-ne-OPEN.false _ c.form_end.ensures.behind _ c.form_at-rest.ensures.read c.if-rest-ge-OPEN.false) c.signed_in.ensures
