-- `script::commands::command` meets its contract. Assumes nothing.
use Rattle.script.proofs.Commanding.{start_on, under_on, behind_check_sat}
use Rattle.script.proofs.commands.command.Goals as goal

pub returns-in-Start : goal.returns-in-Start
returns-in-Start c = start_on _ _ _ _ _ _ _ c.head_of-head.ensures.says c.in-Start.is c.logic_due.ensures

pub returns-in-Under : goal.returns-in-Under
returns-in-Under c = under_on _ _ _ _ _ _ _ c.head_of-head.ensures.says c.in-Under.is c.under_logic.ensures

pub returns-in-Checked : goal.returns-in-Checked
returns-in-Checked c = behind_check_sat _ _ _ _ _ _ _ c.head_of-head.ensures.says _ c.in-Checked.is c.with_fault.ensures
