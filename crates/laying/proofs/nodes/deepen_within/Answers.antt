-- `laying::nodes::deepen_within` meets its contract.
use mathlib.Core.Path.{refl, sym, ◌∙◌}
use mathlib.Core.Bool.{true≢false}
use Rattle.laying.proofs.OneNode.{asked_deeper}
use Rattle.laying.proofs.nodes.deepen_within.Goals as goal

pub returns-then-asked : goal.returns-then-asked
returns-then-asked c = asked_deeper _ _ _ _ c.if-asked.true c.deepen.ensures

pub returns : goal.returns
returns c = record { asked_for = λ e. absurd (true≢false (sym e ∙ c.if-asked.false)); as_before = λ e. refl }
