-- `judge::satisfies` meets its contract.
use Rattle.std.proofs.Common.{◌∙◌}
use Rattle.judge.proofs.Noting.{worths_satisfy}
use Rattle.judge.proofs.satisfies.Goals as goal

pub returns : goal.returns
returns c =
    c.truth_at.ensures ∙
    c.truths_of.ensures.says c.worths_of.result c.worths_of.ensures.whole ∙
    worths_satisfy c.args.question.now c.args.values.now c.worths_of.result c.worths_of.ensures
