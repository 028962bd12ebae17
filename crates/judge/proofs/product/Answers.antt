-- `judge::product` meets its contract: each value on the way fits its type. Assumes nothing.
use Prim.Native.Nat.{ℕ, ◌≤◌}
use native.Mathlib.Omega.{arith}
use mathlib.Core.Path.{◌≡◌}
use lib.IntN.{ℤ, pos, nat_abs, ◌*ℤ◌}
use mir.Syntax.{w64}
use mir.Val.{SFits, to_z}
use mir.ValLaws.{to_z-of_z, to_z_pos}
use Rattle.scope.specs.Sizes.{most_coefficient, most_value}
use Rattle.theory.specs.Numbers.Magnitude.{fits_abs}
use Rattle.judge.proofs.Products.{product_small}
use Rattle.judge.proofs.product.Goals as goal

record Sizes (a : ℤ) (x : ℕ) : Type 0 where
  wide : SFits w64 a
  value : to_z w64 x ≡ pos x
  whole : SFits w64 (a *ℤ pos x)

sizes : (a : ℤ) (x : ℕ) → (nat_abs a ≤ most_coefficient) × (x ≤ most_value) → Sizes a x
sizes a x h = record {
  wide = fits_abs w64 a (omega (arith, h.0));
  value = to_z_pos w64 x (omega (arith, h.1));
  whole = fits_abs w64 (a *ℤ pos x) (omega (arith, product_small a x h.0 h.1));
}

pub returns : goal.returns
returns c = let z = sizes c.args.a c.args.x c.requires in simp (to_z-of_z, c.from.ensures, c.ranges.a, z.wide, z.value, z.whole)
