-- `ask::variables` meets its contract: what was read says n, or is refused.
use Rattle.std.proofs.Common.{ap, ◌∙◌}
use Rattle.scope.specs.Wire.{question_held}
use Rattle.ask.specs.Asked.{variables}
use Rattle.ask.proofs.variables.Goals as goal

pub returns-in-Ok : goal.returns-in-Ok
unfolding variables
returns-in-Ok c = c.from.ensures ∙ ap (λ h. (question_held h).n) c.in-Ok.ensures

pub returns-in-Err : goal.returns-in-Err
unfolding variables
returns-in-Err c = ap (λ h. (question_held h).n) c.in-Err.ensures
