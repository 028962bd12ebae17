-- `reading::part_into` meets its contract: the head, and then the formula.
use native.Mathlib.Omega.{arith}
use mathlib.Core.Path.{◌≡◌, sym, ap}
use Rattle.std.proofs.Common.{Ok}
use Rattle.std.proofs.lemmas.Result.{err_from_is_err_and}
use Rattle.scope.specs.declared.Question.{Question}
use Rattle.reading.specs.Steps.{head_answer}
use Rattle.reading.proofs.Ends.{head_stops, head_within, head_few, head_goes}
use Rattle.reading.proofs.part_into.Goals as goal
use Rattle.reading.proofs.part_into.Goals.{In_ok-question}

head : (c : goal.In_ok-question) → head_answer c.args.bytes.now c.args.at ≡ Ok c.in_ok-question.field-0
head c = sym c.in_ok-question.ensures

pub returns-in_err-question : goal.returns-in_err-question
returns-in_err-question c =
    let p = err_from_is_err_and c.from_residual.result c.from_residual.ensures.1 in
    rw (p.1, p.2) (sym (head_stops c.args.bytes.now c.args.at _ (sym c.in_err-question.ensures)))

pub overflow_add-at : goal.overflow_add-at
overflow_add-at c = omega (arith, head_within c.args.bytes.now c.args.at _ (head (goal.at.overflow_add-at c).In_ok-question))

pub formula_from-requires : goal.formula_from-requires
formula_from-requires c =
    let b = c.args.bytes.now in
    let h = head (goal.at.formula_from-requires c).In_ok-question in
    (ap (λ (q : Question). record { n = c.in_ok-question.field-0; codes = q.codes; coefficients = q.coefficients; constants = q.constants }) c.requires, (head_few b c.args.at _ h, omega (arith, head_within b c.args.at _ h)))

pub returns : goal.returns
returns c = rw (head_goes c.args.bytes.now c.args.at _ (head (goal.at.returns c).In_ok-question)) at c.formula_from.ensures
