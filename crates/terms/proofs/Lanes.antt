-- One number of a sum: a part added to it, what fits on the way, and the number as it is or one beyond the limit. Assumes nothing.
use Prim.Native.Nat.{ℕ, zero, suc, ◌+◌, ◌*◌, ◌≤◌, ◌<◌}
use native.Mathlib.Nat.{mul-le-mul}
use native.Mathlib.Omega.{arith}
use mathlib.Core.Path.{◌≡◌, refl, sym, ap}
use mathlib.Core.Bool.{true, false}
use borrow.Author.Tests.{lt-leb}
use lib.IntN.{ℤ, pos, negsuc, neg_ℤ, nat_abs, ◌+ℤ◌, ◌-ℤ◌, ◌*ℤ◌}
use lib.Signed.{lt_z, ◌≤ℤ◌, ◌<ℤ◌, lt_z_yes, lt_z_no}
use mir.Syntax.{w64}
use mir.Val.{SFits}
use Rattle.smtlib.specs.Terms.{most_numeral, most_collected}
use Rattle.theory.specs.Numbers.Bridge.{as_D, linear}
use Rattle.theory.specs.Numbers.Magnitude.{abs_le, le_abs, abs_add, abs_sub, abs_mul, fits_abs}
use Rattle.terms.specs.Seven.{high_unit, most_low, most_high, lane_value, LaneFits, LaneAdded, small_number, LaneFlat}

-- ---- what fits

pub record LaneSizes (low high part : ℤ) : Type 0 where
  pub low_fits : SFits w64 low
  pub high_fits : SFits w64 high
  pub part_fits : SFits w64 part
  pub sum_fits : SFits w64 (low +ℤ part)
  pub less_fits : SFits w64 ((low +ℤ part) -ℤ pos high_unit)
  pub more_fits : SFits w64 ((low +ℤ part) +ℤ pos high_unit)
  pub next_fits : SFits w64 (high +ℤ pos 1)
  pub back_fits : SFits w64 (high -ℤ pos 1)

pub lane_sizes : (low high part : ℤ) → LaneFits low high × (nat_abs part ≤ most_collected) → LaneSizes low high part
lane_sizes low high part h =
    let s : ℤ = low +ℤ part in
    record {
      low_fits = fits_abs w64 low (omega (arith, h.0.low_small));
      high_fits = fits_abs w64 high (omega (arith, h.0.high_small));
      part_fits = fits_abs w64 part (omega (arith, h.1));
      sum_fits = fits_abs w64 s (omega (arith, h.0.low_small, h.1, abs_add low part));
      less_fits = fits_abs w64 (s -ℤ pos high_unit) (omega (arith, h.0.low_small, h.1, abs_add low part, abs_sub s (pos high_unit)));
      more_fits = fits_abs w64 (s +ℤ pos high_unit) (omega (arith, h.0.low_small, h.1, abs_add low part, abs_add s (pos high_unit)));
      next_fits = fits_abs w64 (high +ℤ pos 1) (omega (arith, h.0.high_small, abs_add high (pos 1)));
      back_fits = fits_abs w64 (high -ℤ pos 1) (omega (arith, h.0.high_small, abs_sub high (pos 1)));
    }

-- ---- a part added

module _ (low high part : ℤ) where
  up_value : ((low +ℤ part) -ℤ pos high_unit) +ℤ ((high +ℤ pos 1) *ℤ pos high_unit) ≡ (low +ℤ (high *ℤ pos high_unit)) +ℤ part
  up_value = rw (as_D low, as_D high, as_D part) (simp linear (omega arith))

  down_value : ((low +ℤ part) +ℤ pos high_unit) +ℤ ((high -ℤ pos 1) *ℤ pos high_unit) ≡ (low +ℤ (high *ℤ pos high_unit)) +ℤ part
  down_value = rw (as_D low, as_D high, as_D part) (simp linear (omega arith))

  same_lane : (low +ℤ part) +ℤ (high *ℤ pos high_unit) ≡ (low +ℤ (high *ℤ pos high_unit)) +ℤ part
  same_lane = rw (as_D low, as_D high, as_D part) (simp linear (omega arith))

  up_bounds : neg_ℤ (pos most_low) ≤ℤ low → low ≤ℤ pos most_low → part ≤ℤ pos most_collected → pos most_low <ℤ (low +ℤ part)
      → (neg_ℤ (pos most_low) ≤ℤ ((low +ℤ part) -ℤ pos high_unit)) × (((low +ℤ part) -ℤ pos high_unit) ≤ℤ pos most_low)
  up_bounds = rw (as_D low, as_D part) (simp linear (λ a b c d. (omega arith, omega arith)))

  down_bounds : neg_ℤ (pos most_low) ≤ℤ low → low ≤ℤ pos most_low → neg_ℤ (pos most_collected) ≤ℤ part → (low +ℤ part) <ℤ neg_ℤ (pos most_low)
      → (neg_ℤ (pos most_low) ≤ℤ ((low +ℤ part) +ℤ pos high_unit)) × (((low +ℤ part) +ℤ pos high_unit) ≤ℤ pos most_low)
  down_bounds = rw (as_D low, as_D part) (simp linear (λ a b c d. (omega arith, omega arith)))

module _ (low high part : ℤ) (h : LaneFits low high × (nat_abs part ≤ most_collected)) where
  pub carried_up : lt_z (pos most_low) (low +ℤ part) ≡ true → LaneAdded low high part ((low +ℤ part) -ℤ pos high_unit) (high +ℤ pos 1)
  unfolding lane_value
  carried_up t =
      let l = le_abs low most_low h.0.low_small in
      let p = le_abs part most_collected h.1 in
      let b = up_bounds low high part l.0 l.1 p.1 (lt_z_yes (rw t tt)) in
      record { value = up_value low high part; low_small = abs_le ((low +ℤ part) -ℤ pos high_unit) most_low b.0 b.1 }

  pub carried_down : lt_z (low +ℤ part) (neg_ℤ (pos most_low)) ≡ true → LaneAdded low high part ((low +ℤ part) +ℤ pos high_unit) (high -ℤ pos 1)
  unfolding lane_value
  carried_down t =
      let l = le_abs low most_low h.0.low_small in
      let p = le_abs part most_collected h.1 in
      let b = down_bounds low high part l.0 l.1 p.0 (lt_z_yes (rw t tt)) in
      record { value = down_value low high part; low_small = abs_le ((low +ℤ part) +ℤ pos high_unit) most_low b.0 b.1 }

  pub carried_none : lt_z (pos most_low) (low +ℤ part) ≡ false → lt_z (low +ℤ part) (neg_ℤ (pos most_low)) ≡ false → LaneAdded low high part (low +ℤ part) high
  unfolding lane_value
  carried_none t u =
      record { value = same_lane low high part; low_small = abs_le (low +ℤ part) most_low (lt_z_no (rw u tt)) (lt_z_no (rw t tt)) }

-- ---- a number as it is, or one beyond the limit

pub flat_zero : (low high : ℤ) → high ≡ pos 0 → LaneFlat low high low
unfolding lane_value
flat_zero low high e = record { same_test = ap small_number is; same_value = λ h. is }
  where
    nothing_high : (l : ℤ) → l ≡ l +ℤ (pos 0 *ℤ pos high_unit)
    nothing_high l = rw (as_D l) (simp linear (omega arith))

    is : low ≡ low +ℤ (high *ℤ pos high_unit)
    is = rw e (nothing_high low)

some_size : (z : ℤ) → (z ≡ pos 0 → ⊥) → 0 < nat_abs z
some_size (pos zero) n = absurd (n refl)
some_size (pos (suc k)) n = omega arith
some_size (negsuc k) n = omega arith

high_size : (low high : ℤ) → nat_abs high * high_unit ≤ nat_abs (lane_value low high) + nat_abs low
unfolding lane_value
high_size low high =
    let v : ℤ = low +ℤ (high *ℤ pos high_unit) in
    let e : v -ℤ low ≡ high *ℤ pos high_unit = lowest low (high *ℤ pos high_unit) in
    omega (arith, rw e at (abs_sub v low), abs_mul high (pos high_unit))
  where
    lowest : (a b : ℤ) → (a +ℤ b) -ℤ a ≡ b
    lowest a b = rw (as_D a, as_D b) (simp linear (omega arith))

-- a sum of fewer than 2^63 parts
pub high_fits : (low high : ℤ) (n : ℕ) → nat_abs low ≤ most_low → nat_abs (lane_value low high) ≤ n * most_collected → n < 9223372036854775808 → nat_abs high ≤ most_high
high_fits low high n l v h = omega (arith, high_size low high)

value_beyond : (low high : ℤ) → nat_abs low ≤ most_low → (high ≡ pos 0 → ⊥) → most_collected < nat_abs (lane_value low high)
value_beyond low high l n = omega (arith, high_size low high, some_size high n)

pub flat_beyond : (low high : ℤ) → nat_abs low ≤ most_low → (high ≡ pos 0 → ⊥) → LaneFlat low high (pos high_unit)
flat_beyond low high l n = record {
  same_test = sym (lt-leb (nat_abs (lane_value low high)) most_collected (value_beyond low high l n));
  same_value = λ h. absurd (omega arith);
}

-- ---- a difference, and a multiple

pub number_fits : (z : ℤ) → nat_abs z ≤ most_collected → SFits w64 z
number_fits z h = fits_abs w64 z (omega arith)

pub difference_fits : (a b : ℤ) → nat_abs a ≤ most_collected → nat_abs b ≤ most_collected → SFits w64 (a -ℤ b)
difference_fits a b h k = fits_abs w64 (a -ℤ b) (omega (arith, abs_sub a b))

pub multiple_fits : (a b : ℤ) → nat_abs a ≤ most_numeral → nat_abs b ≤ most_collected → SFits w64 (a *ℤ b)
multiple_fits a b h k = fits_abs w64 (a *ℤ b) (omega (arith, abs_mul a b, mul-le-mul h k))
