-- `script::commands::check_sat` meets its contract. Assumes nothing.
use Rattle.script.proofs.Commanding.{none_by_kind, checked_on}
use Rattle.script.proofs.commands.check_sat.Goals as goal

pub returns : goal.returns
returns c = checked_on _ _ _ _ _ _ _ (none_by_kind _ _ _ _ c.form_at-first.ensures.read c.requires.unbroken) c.unless.ensures c.moved.ensures
