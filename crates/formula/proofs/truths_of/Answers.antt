-- `formula::truths_of` meets its contract: the formula is the part at the first node, 16 deep. Assumes nothing.
use mathlib.Core.Path.{sym, ap}
use Rattle.scope.specs.States.{Settled, formula_worth}
use Rattle.formula.proofs.truths_of.Goals as goal

pub returns : goal.returns
unfolding formula_worth
returns c =
    let whole = c.settle.ensures in
    record { four = whole.four; says = λ ws e. sym (ap (λ (s : Settled). s.truth) (whole.part ws e)) }
