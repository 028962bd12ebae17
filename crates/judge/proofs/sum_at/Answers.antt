-- `judge::sum_at` meets its contract. The invariant: s is the sum from variable j on. Assumes nothing.
use Prim.Native.Nat.{ℕ, suc, ◌+◌, ◌-◌, ◌<◌}
use native.Mathlib.Omega.{arith}
use mathlib.Core.Path.{◌≡◌, sym, ap, ◌∙◌, subst}
use lib.ListN.{length, get_or, drop}
use lib.IntN.{pos, ◌+ℤ◌, ◌*ℤ◌}
use mir.Syntax.{w64}
use mir.Val.{SFits, to_z}
use mir.ValLaws.{to_z-of_z}
use Rattle.scope.specs.States.{dot}
use Rattle.judge.specs.Sums.{coefficients_from}
use Rattle.judge.proofs.Products.{sum_fits, sum_more, sum_none, coefficient_fits_lem}
use Rattle.judge.proofs.sum_at.Goals as goal
use Rattle.judge.proofs.sum_at.Goals.{After-product-s}

module _ (c : goal.After-product-s) where
  -- the sum with the term of variable j - 1
  sum_is :
      c.product-s.result +ℤ to_z w64 c.loop-j.s-bits ≡
      dot
      (drop (c.loop-j.j - 1) (coefficients_from c.args.coefficients.now c.args.at c.args.values.now))
      (drop (c.loop-j.j - 1) c.args.values.now)
  sum_is =
      let p = c.requires in
      let row = coefficients_from c.args.coefficients.now c.args.at c.args.values.now in
      let j = c.loop-j.j - 1 in
      let n : j < length c.args.values.now = omega arith in
      let m : c.loop-j.j ≡ suc j = omega arith in
      let term : c.product-s.result ≡ get_or c.args.coefficients.now (c.args.at + j) (pos 0) *ℤ pos (get_or c.args.values.now j 0) = simp (to_z-of_z, coefficient_fits_lem p j n) at c.product-s.ensures in
      (λ i. term i +ℤ (c.loop-j.invariant ∙ ap (λ (k : ℕ). dot (drop k row) (drop k c.args.values.now)) m) i) ∙ sym (sum_more p j n)

  term_fits : SFits w64 c.product-s.result
  term_fits = record { sfits = c.product-s.type_inv }

  total_fits : SFits w64 (c.product-s.result +ℤ to_z w64 c.loop-j.s-bits)
  total_fits = subst (SFits w64) (sym sum_is) (sum_fits c.requires (c.loop-j.j - 1))

pub overflow_add-s : goal.overflow_add-s
overflow_add-s c = simp (to_z-of_z, term_fits c) (total_fits c)

pub loop-j-preserved : goal.loop-j-preserved
loop-j-preserved c = simp (to_z-of_z, term_fits c, total_fits c) (sum_is c)

pub loop-j-init : goal.loop-j-init
loop-j-init c = sum_none c.requires
