-- `plan::plan_of` meets its contract: each part is what its call gives. Assumes nothing.
use mathlib.Core.Path.{refl}
use Rattle.scope.specs.Question.{nodes_of}
use Rattle.plan.proofs.plan_of.Goals as goal

pub returns : goal.returns
unfolding nodes_of
returns c =
    let p = c.requires in
    record {
      planned = record {
        tables = record { limits = p.limits; kinds_are = p.kinds_are; count = p.count; sums_are = p.sums_are };
        letters_are = rw c.from.ensures at c.letters-letters.ensures.0;
        truths_are = c.truths_of-truths.ensures;
        bits = c.fresh_letters.ensures;
      };
      rows_are = refl;
      notes = refl;
      tests = refl;
    }
