-- `terms::sums::added_lane` meets its contract: what it computes on the way fits, and each way carries what is over. Assumes nothing.
use mir.ValLaws.{to_z-of_z}
use Rattle.terms.proofs.Lanes.{LaneSizes, lane_sizes, carried_up, carried_down, carried_none}
use Rattle.terms.proofs.sums.added_lane.Goals as goal
use Rattle.terms.proofs.sums.added_lane.Goals.{Start}

sizes : (c : goal.Start) → LaneSizes c.args.low c.args.high c.args.part
sizes c = lane_sizes c.args.low c.args.high c.args.part c.requires

pub overflow_add-sum : goal.overflow_add-sum
overflow_add-sum c = let z = sizes c in simp (to_z-of_z, z.low_fits, z.part_fits) z.sum_fits

pub overflow_sub-result : goal.overflow_sub-result
overflow_sub-result c = let z = sizes (goal.at.overflow_sub-result c).Start in simp (to_z-of_z, z.low_fits, z.part_fits, z.sum_fits) z.less_fits

pub overflow_add-result : goal.overflow_add-result
overflow_add-result c = let z = sizes (goal.at.overflow_add-result c).Start in simp (to_z-of_z, z.high_fits) z.next_fits

pub returns-then-sum-gt-MOST_LOW : goal.returns-then-sum-gt-MOST_LOW
returns-then-sum-gt-MOST_LOW c =
    let z = sizes (goal.at.returns-then-sum-gt-MOST_LOW c).Start in
    let t = simp (to_z-of_z, z.low_fits, z.part_fits, z.sum_fits) at c.if-sum-gt-MOST_LOW.true in
    simp (to_z-of_z, z.low_fits, z.part_fits, z.sum_fits, z.less_fits, z.high_fits, z.next_fits) (carried_up c.args.low c.args.high c.args.part c.requires t)

pub overflow_add-result-then-sum-lt-LEAST_LOW : goal.overflow_add-result-then-sum-lt-LEAST_LOW
overflow_add-result-then-sum-lt-LEAST_LOW c =
    let z = sizes (goal.at.overflow_add-result-then-sum-lt-LEAST_LOW c).Start in simp (to_z-of_z, z.low_fits, z.part_fits, z.sum_fits) z.more_fits

pub overflow_sub-result-then-sum-lt-LEAST_LOW : goal.overflow_sub-result-then-sum-lt-LEAST_LOW
overflow_sub-result-then-sum-lt-LEAST_LOW c = let z = sizes (goal.at.overflow_sub-result-then-sum-lt-LEAST_LOW c).Start in simp (to_z-of_z, z.high_fits) z.back_fits

pub returns-then-sum-lt-LEAST_LOW : goal.returns-then-sum-lt-LEAST_LOW
returns-then-sum-lt-LEAST_LOW c =
    let z = sizes (goal.at.returns-then-sum-lt-LEAST_LOW c).Start in
    let t = simp (to_z-of_z, z.low_fits, z.part_fits, z.sum_fits) at c.if-sum-lt-LEAST_LOW.true in
    simp (to_z-of_z, z.low_fits, z.part_fits, z.sum_fits, z.more_fits, z.high_fits, z.back_fits) (carried_down c.args.low c.args.high c.args.part c.requires t)

pub returns : goal.returns
returns c =
    let z = sizes (goal.at.returns c).Start in
    let t = simp (to_z-of_z, z.low_fits, z.part_fits, z.sum_fits) at c.if-sum-gt-MOST_LOW.false in
    let u = simp (to_z-of_z, z.low_fits, z.part_fits, z.sum_fits) at c.if-sum-lt-LEAST_LOW.false in
    simp (to_z-of_z, z.low_fits, z.part_fits, z.sum_fits, z.high_fits) (carried_none c.args.low c.args.high c.args.part c.requires t u)
