-- `place::next_record` meets its contract: what `record_at` answered says where the place goes, and what its body is.
use mathlib.Core.Path.{refl, ap, ◌∙◌}
use Rattle.records.specs.Bodies.{body_there_lem}
use Rattle.place.specs.Laws.{within}
use Rattle.place.specs.Steps.{moved_by}
use Rattle.place.proofs.next_record.Goals as goal

pub returns : goal.returns
returns c =
    let p = c.args.place in
    let e = c.record_at-answer.ensures in
    record {
      same_bytes = refl;
      moved = c.moved-at.ensures ∙ ap (λ r. moved_by r p.at) e;
      answered = e;
      handed = body_there_lem p.bytes _ _ _ (within p.bytes.now p.at) (rw e at c.body_of-body.ensures);
    }
