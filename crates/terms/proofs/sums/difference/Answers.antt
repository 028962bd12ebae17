-- `terms::sums::difference` meets its contract. The invariant: the first i differences stand there. Assumes nothing.
use Prim.Native.Nat.{◌≤◌}
use mathlib.Core.Path.{◌≡◌, refl, sym, ◌∙◌}
use lib.ListN.{length}
use lib.IntN.{ℤ, nat_abs}
use mir.ValLaws.{to_z-of_z}
use borrow.Author.Rules.{rules}
use Rattle.smtlib.specs.Terms.{most_collected, less}
use Rattle.smtlib.specs.Laws.{less_seven}
use Rattle.terms.specs.Seven.{lane}
use Rattle.terms.proofs.Lanes.{number_fits, difference_fits}
use Rattle.terms.proofs.Sevens.{filled_none, filled_next, filled_is, lane_less, fit_each}
use Rattle.terms.proofs.sums.difference.Goals as goal
use Rattle.terms.proofs.sums.difference.Goals.{In-loop-i}

module _ (c : goal.In-loop-i) where
  abbrev first : ℤ
  first = lane c.args.first c.loop-i.i

  abbrev second : ℤ
  second = lane c.args.second c.loop-i.i

  first_small : nat_abs first ≤ most_collected
  first_small = fit_each c.args.first c.loop-i.i c.requires.0

  second_small : nat_abs second ≤ most_collected
  second_small = fit_each c.args.second c.loop-i.i c.requires.1

pub overflow_sub-numbers : goal.overflow_sub-numbers
overflow_sub-numbers c =
    let k = (goal.at.overflow_sub-numbers c).In-loop-i in
    simp (to_z-of_z, number_fits (first k) (first_small k), number_fits (second k) (second_small k)) (difference_fits (first k) (second k) (first_small k) (second_small k))

pub loop-i-preserved : goal.loop-i-preserved
loop-i-preserved c =
    let k = (goal.at.loop-i-preserved c).In-loop-i in
    let d = difference_fits (first k) (second k) (first_small k) (second_small k) in
    simp (to_z-of_z, number_fits (first k) (first_small k), number_fits (second k) (second_small k), d)
    (filled_next c.loop-i.invariant c.loop-i-test.true refl)

pub returns : goal.returns
returns c =
    let e : length c.args.first ≡ 7 = search rules in
    let f : length c.args.second ≡ 7 = search rules in
    filled_is (less c.args.first c.args.second) c.loop-i.invariant c.loop-i-test.false (less_seven c.args.first c.args.second e f) (λ k h. lane_less c.args.first c.args.second k (e ∙ sym f))

pub loop-i-init : goal.loop-i-init
loop-i-init c = filled_none
