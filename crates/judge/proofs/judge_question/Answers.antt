-- `judge::judge_question` meets its contract: each answer is that of the first check that fails. Assumes nothing.
use Rattle.std.proofs.Common.{refl, ap, Ok, Err, sym, ◌∙◌}
use Rattle.judge.proofs.Judging.{values_tested, judged_miscounted, judged_large, judged_truth, judgeable}
use Rattle.judge.proofs.judge_question.Goals as goal
use Rattle.judge.proofs.judge_question.Goals.{then-values-from-via-then-values-from, then-values-from-via-else-values-from+then-not-values_fit}

pub returns-then-values-from : goal.returns-then-values-from
returns-then-values-from c =
    elim c.then-values-from.branch [
      | then-values-from-via-then-values-from w ↦ ap Err c.at.ensures ∙ sym (judged_miscounted c.args.question.now c.args.values.now (λ e. w.if-values-from.true (e ∙ sym c.from.ensures)))
      | then-values-from-via-else-values-from+then-not-values_fit w ↦
          ap Err c.at.ensures ∙ sym (judged_large c.args.question.now c.args.values.now (w.if-values-from.false ∙ c.from.ensures) (values_tested c.args.values.now w.values_fit.ensures w.if-not-values_fit.true))
    ]

pub satisfies-requires : goal.satisfies-requires
satisfies-requires c =
    judgeable c.args.question.now c.args.values.now c.requires (c.if-values-from.false ∙ c.from.ensures) (values_tested c.args.values.now c.values_fit.ensures c.if-not-values_fit.false)

pub returns : goal.returns
returns c =
    ap Ok c.satisfies.ensures ∙
    sym (judged_truth c.args.question.now c.args.values.now _ (c.if-values-from.false ∙ c.from.ensures) (values_tested c.args.values.now c.values_fit.ensures c.if-not-values_fit.false) refl)
