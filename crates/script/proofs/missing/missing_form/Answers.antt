-- `script::missing::missing_form` meets its contract. Assumes nothing.
use Rattle.script.proofs.Telling.{check_sat_missing, assertion_missing}
use Rattle.script.proofs.missing.missing_form.Goals as goal

pub returns-in-Checked : goal.returns-in-Checked
returns-in-Checked c = rw c.unless.ensures (assertion_missing _ _ c.in-Checked.is _)

pub returns-in_default : goal.returns-in_default
returns-in_default c = rw c.unless-in_default.ensures (check_sat_missing _ c.in_default.not-Checked _)
