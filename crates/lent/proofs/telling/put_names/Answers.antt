-- `lent::telling::put_names` meets its contract. The invariant: the first names are put.
use Rattle.std.proofs.Common.{◌∙◌, sym, arith, add-one, ◌≡◌, ◌<◌, take, length}
use lib.Seq.{length-take-le, get_or-take}
use Rattle.lent.proofs.Copies.{sets_first, sets_more}
use Rattle.lent.proofs.telling.put_names.Goals as goal
use Rattle.lent.proofs.telling.put_names.Goals.{After-min-count}

counted : (c : goal.After-min-count) → length (take c.min-count.result c.args.names.now) ≡ c.min-count.result
counted c = length-take-le c.min-count.result c.args.names.now (omega (arith, c.min-count.ensures))

pub loop-i-preserved : goal.loop-i-preserved
loop-i-preserved c =
    let names = c.args.names.now in
    let long = counted (goal.at.loop-i-preserved c).After-min-count in
    let in_count : c.loop-i.i < c.min-count.result = omega (arith, c.loop-i-test.true, long) in
    rw (add-one c.loop-i.i, get_or-take c.min-count.result names c.loop-i.i 0 in_count, c.loop-i.invariant)
    (sym (sets_more c.args.told.now names 2 c.loop-i.i 0 (omega (arith, in_count, c.min-count.ensures))))

pub returns : goal.returns
returns c =
    let long = counted (goal.at.returns c).After-min-count in
    c.loop-i.invariant ∙ sets_first c.args.told.now c.args.names.now 2 c.loop-i.i (omega (arith, long, c.min-count.ensures, c.saturating_sub.ensures))
