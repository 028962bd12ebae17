-- `plan::Plan::accepts` meets its contract: the truth at the row's worths. Assumes nothing.
use Rattle.plan.proofs.Plan.accepts.Goals as goal

pub returns : goal.returns
returns c = rw c.worths_of.ensures at c.truth_at.ensures
