-- `terms::sums::multiple` meets its contract. The invariant: the first i products stand there. Assumes nothing.
use Prim.Native.Nat.{◌≤◌}
use mathlib.Core.Path.{◌≡◌, refl, ◌∙◌}
use lib.ListN.{length}
use lib.IntN.{ℤ, nat_abs}
use mir.ValLaws.{to_z-of_z}
use borrow.Author.Rules.{rules}
use Rattle.smtlib.specs.Terms.{most_collected, scaled}
use Rattle.terms.specs.Seven.{lane}
use Rattle.terms.proofs.Lanes.{number_fits, multiple_fits}
use Rattle.terms.proofs.Sevens.{filled_none, filled_next, filled_is, lane_scaled, scaled_long, fit_each}
use Rattle.terms.proofs.sums.multiple.Goals as goal
use Rattle.terms.proofs.sums.multiple.Goals.{In-loop-i}

module _ (c : goal.In-loop-i) where
  abbrev number : ℤ
  number = lane c.args.of c.loop-i.i

  number_small : nat_abs number ≤ most_collected
  number_small = fit_each c.args.of c.loop-i.i c.requires.1

pub overflow_mul-numbers : goal.overflow_mul-numbers
overflow_mul-numbers c =
    let k = (goal.at.overflow_mul-numbers c).In-loop-i in
    simp (to_z-of_z, c.ranges.factor, number_fits (number k) (number_small k)) (multiple_fits c.args.factor (number k) c.requires.0 (number_small k))

pub loop-i-preserved : goal.loop-i-preserved
loop-i-preserved c =
    let k = (goal.at.loop-i-preserved c).In-loop-i in
    let p = multiple_fits c.args.factor (number k) c.requires.0 (number_small k) in
    simp (to_z-of_z, c.ranges.factor, number_fits (number k) (number_small k), p)
    (filled_next (simp (to_z-of_z, c.ranges.factor) at c.loop-i.invariant) c.loop-i-test.true refl)

pub returns : goal.returns
returns c =
    let e : length c.args.of ≡ 7 = search rules in
    filled_is (scaled c.args.factor c.args.of) (simp (to_z-of_z, c.ranges.factor) at c.loop-i.invariant) c.loop-i-test.false
    (scaled_long c.args.factor c.args.of ∙ e) (λ k h. lane_scaled c.args.factor c.args.of k)

pub loop-i-init : goal.loop-i-init
loop-i-init c = filled_none
