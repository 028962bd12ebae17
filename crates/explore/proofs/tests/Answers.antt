-- `explore::tests` meets its contract: by whether it is asked. Assumes nothing.
use Rattle.explore.proofs.tests.Goals as goal

pub returns-then-plan : goal.returns-then-plan
returns-then-plan c = rw c.if-plan.true c.accepts.ensures

pub returns : goal.returns
returns c = rw c.if-plan.false
