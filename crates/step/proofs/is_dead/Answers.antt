-- `step::is_dead` meets its contract. Assumes nothing.
use Rattle.step.proofs.Signed.{dead_test}
use Rattle.step.proofs.is_dead.Goals as goal

pub returns : goal.returns
returns c = dead_test _ c.ranges.cell
