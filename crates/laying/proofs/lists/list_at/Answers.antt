-- `laying::lists::list_at` meets its contract.
use Rattle.laying.proofs.ListParts.{list_starts}
use Rattle.laying.proofs.lists.list_at.Goals as goal

pub returns : goal.returns
returns c =
    record { inside = c.head_at-head.ensures.stands.1; starts = list_starts c.args.text.now c.args.at _ _ c.form_at-form.ensures.stands c.form_at-form.ensures.read c.head_at-head.ensures.stands.0 c.head_at-head.ensures.read }
