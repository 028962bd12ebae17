-- `script::missing::missing_name` meets its contract. Assumes nothing.
use Rattle.script.proofs.Telling.{name_missing, names_not_due}
use Rattle.script.proofs.missing.missing_name.Goals as goal

pub returns-in-Checked : goal.returns-in-Checked
returns-in-Checked c = rw c.unless.ensures (name_missing _ _ c.in-Checked.is)

pub returns-in_default : goal.returns-in_default
returns-in_default c = rw c.unless-in_default.ensures (names_not_due _ c.in_default.not-Checked)
