-- `whole::floor_half` meets its contract. A signed local holds bits, so what the machine computes with is `to_z w (of_z w z)`; the record Sizes
-- has that each value on the way fits, and `simp to_z-of_z` takes every such pair away. Assumes nothing.
use mathlib.Core.Path.{◌≡◌, sym, subst}
use Prim.Native.Nat.{◌≤◌}
use native.Mathlib.Omega.{arith}
use mathlib.Core.Bool.{true, false}
use lib.Dec.{T, lit<}
use lib.IntN.{ℤ, pos, ◌-ℤ◌, nat_abs}
use lib.Signed.{quot_z}
use mir.Syntax.{w32}
use mir.Val.{SFits}
use mir.ValLaws.{to_z-of_z}
use Rattle.scope.specs.Whole.{even}
use Rattle.scope.specs.Sizes.{most_constant}
use Rattle.theory.specs.Entries.KeyCells.{most_sum}
use Rattle.theory.specs.Numbers.Magnitude.{abs_sub, abs_half, fits_abs, quot_even, quot_odd, rem_even, rem_odd}
use Rattle.whole.proofs.floor_half.Reads as reads
use Rattle.whole.proofs.floor_half.Lts as lts
use Rattle.whole.proofs.floor_half.Goals as goal
use Rattle.whole.proofs.floor_half.Goals.{Start}

record Sizes (e s : ℤ) : Type 0 where
  entry : SFits w32 e
  sum : SFits w32 s
  difference : SFits w32 (e -ℤ s)
  quotient : SFits w32 (quot_z (e -ℤ s) (pos 2))
  below : SFits w32 ((e -ℤ s) -ℤ pos 1)
  lower : SFits w32 (quot_z ((e -ℤ s) -ℤ pos 1) (pos 2))

sizes : (e s : ℤ) → nat_abs e ≤ most_constant → nat_abs s ≤ most_sum → Sizes e s
sizes e s he hs =
    let d : ℤ = e -ℤ s in
    let b : ℤ = d -ℤ pos 1 in
    record {
      entry = fits_abs w32 e (omega arith);
      sum = fits_abs w32 s (omega arith);
      difference = fits_abs w32 d (omega (arith, abs_sub e s));
      quotient = fits_abs w32 (quot_z d (pos 2)) (omega (arith, abs_half d, abs_sub e s));
      below = fits_abs w32 b (omega (arith, abs_sub d (pos 1), abs_sub e s));
      lower = fits_abs w32 (quot_z b (pos 2)) (omega (arith, abs_half b, abs_sub d (pos 1), abs_sub e s));
    }

at_start : (c : lts.Start reads.Pre reads.Post) → Sizes c.args.entry c.args.sum
at_start c = sizes c.args.entry c.args.sum c.requires.0 c.requires.1

pub overflow_sub-d : goal.overflow_sub-d
overflow_sub-d c = let z = at_start c in simp (to_z-of_z, z.entry, z.sum) z.difference

pub nonzero_rem-d : goal.nonzero_rem-d
nonzero_rem-d c = let z = at_start c in (lit< tt, simp (to_z-of_z, z.entry, z.sum, z.difference) z.quotient)

pub overflow_sub-result : goal.overflow_sub-result
overflow_sub-result c = let z = at_start (goal.at.overflow_sub-result c).Start in simp (to_z-of_z, z.entry, z.sum, z.difference) z.below

pub nonzero_div-result : goal.nonzero_div-result
nonzero_div-result c = let z = at_start (goal.at.nonzero_div-result c).Start in (lit< tt, simp (to_z-of_z, z.entry, z.sum, z.difference, z.below) z.lower)

pub returns-then-d-ne0 : goal.returns-then-d-ne0
returns-then-d-ne0 c =
    let z = at_start (goal.at.returns-then-d-ne0 c).Start in
    let d = c.args.entry -ℤ c.args.sum in
    let odd : even d ≡ false = rem_odd d (simp (to_z-of_z, z.entry, z.sum, z.difference) at c.if-d-ne0.true) in
    simp (to_z-of_z, z.entry, z.sum, z.difference, z.below, z.lower) (quot_odd d odd)

pub nonzero_div-result-2 : goal.nonzero_div-result-2
nonzero_div-result-2 c = let z = at_start (goal.at.nonzero_div-result-2 c).Start in (lit< tt, simp (to_z-of_z, z.entry, z.sum, z.difference) z.quotient)

pub returns : goal.returns
returns c =
    let z = at_start (goal.at.returns c).Start in
    let d = c.args.entry -ℤ c.args.sum in
    let is_even : even d ≡ true = rem_even d (simp (to_z-of_z, z.entry, z.sum, z.difference) at c.if-d-ne0.false) in
    simp (to_z-of_z, z.entry, z.sum, z.difference, z.quotient) (quot_even d (subst T (sym is_even) tt))
