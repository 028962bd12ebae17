-- What the code's tests of cells say of them, and a cell's step by those tests. Assumes nothing.
use mathlib.Core.Path.{◌≡◌, refl}
use mathlib.Core.Logic.{⊎_elim}
use mathlib.Core.Bool.{Bool, true, false, cond, not, ◌&&◌, ◌||◌}
use Prim.Native.Nat.{ℕ, ◌≤◌}
use native.Mathlib.Omega.{arith}
use borrow.Author.Tests.{eqb-true, eqb-false}
use lib.Dec.{eqb, lit<}
use lib.Ieee.Bits.{is_true}
use lib.IntN.{ℤ, pos, nat_abs, ◌-ℤ◌}
use lib.Signed.{quot_z, rem_z}
use mir.Syntax.{w32}
use mir.Val.{SFits, of_z}
use Rattle.scope.specs.Whole.{eq_z, even, half}
use Rattle.scope.specs.Question.{equation, at_most}
use Rattle.scope.specs.States.{live, dead, dead_cell, cell_of, halved}
use Rattle.scope.specs.Sizes.{most_constant}
use Rattle.theory.specs.Entries.KeyCells.{most_sum}
use Rattle.theory.specs.Wire.Records.{kind_of_code}
use Rattle.theory.specs.Numbers.Magnitude.{abs_sub, abs_half, fits_abs, rem_even, rem_odd}
use Rattle.theory.specs.Numbers.Integers.{eq→eq_z}
use Rattle.theory.specs.Numbers.Bits.{test_bits}
use Rattle.step.specs.Cells.{live_part, step_cell, CellFits}

-- ---- tests

pub dead_test : (z : ℤ) → SFits w32 z → eqb (of_z w32 z) 2147483648 ≡ eq_z z dead_cell
dead_test z f = test_bits w32 z dead_cell f (record { sfits = lit< tt })

pub zero_bits : (z : ℤ) → SFits w32 z → eqb (of_z w32 z) 0 ≡ eq_z z (pos 0)
zero_bits z f = test_bits w32 z (pos 0) f (record { sfits = lit< tt })

pub odd_test : (d : ℤ) → not (eqb (of_z w32 (rem_z d (pos 2))) 0) ≡ not (even d)
odd_test d = go (eqb (of_z w32 (rem_z d (pos 2))) 0) refl
  where
    go : (b : Bool) → eqb (of_z w32 (rem_z d (pos 2))) 0 ≡ b → not b ≡ not (even d)
    go true e = rw (rem_even d (eqb-true (of_z w32 (rem_z d (pos 2))) 0 e))
    go false e = rw (rem_odd d (eqb-false (of_z w32 (rem_z d (pos 2))) 0 e))

-- ---- a cell's step

pub live_small : (cell : ℤ) → CellFits cell → nat_abs (live_part cell) ≤ most_constant
live_small cell f = go (eq_z cell dead_cell) refl
  where
    go : (b : Bool) → eq_z cell dead_cell ≡ b → nat_abs (cond b (pos 0) cell) ≤ most_constant
    go true e = omega arith
    go false e = ⊎_elim (λ d. absurd (let z : ◌≡◌ {A = ℕ} 0 1 = cc (is_true (eq_z cell dead_cell) (eq→eq_z cell dead_cell d)) in omega arith)) (λ s. s) f

pub step_by : (kind : ℕ) (cell sum : ℤ)
    → cond (eq_z cell dead_cell || (eqb kind 1 && not (even (live_part cell -ℤ sum)))) dead_cell (half (live_part cell -ℤ sum)) ≡ step_cell (kind_of_code kind) cell sum
unfolding step_cell cell_of
step_by kind cell sum = go (eq_z cell dead_cell) (eqb kind 1)
  where
    odd : (t : Bool) (d : ℤ) → cond (not t) dead_cell d ≡ cell_of (cond t (live d) dead)
    odd true d = refl
    odd false d = refl

    go : (b k : Bool) → cond (b || (k && not (even (cond b (pos 0) cell -ℤ sum)))) dead_cell (half (cond b (pos 0) cell -ℤ sum))
        ≡ cond b dead_cell (cell_of (halved (cond k equation at_most) (cell -ℤ sum)))
    go true k = refl
    go false true = odd (even (cell -ℤ sum)) (half (cell -ℤ sum))
    go false false = refl

-- ---- the difference

pub record Sizes (e s : ℤ) : Type 0 where
  pub entry : SFits w32 e
  pub sum : SFits w32 s
  pub difference : SFits w32 (e -ℤ s)
  pub quotient : SFits w32 (quot_z (e -ℤ s) (pos 2))

pub sizes : (e s : ℤ) → nat_abs e ≤ most_constant → nat_abs s ≤ most_sum → Sizes e s
sizes e s he hs =
    let d : ℤ = e -ℤ s in
    record {
      entry = fits_abs w32 e (omega arith);
      sum = fits_abs w32 s (omega arith);
      difference = fits_abs w32 d (omega (arith, abs_sub e s));
      quotient = fits_abs w32 (quot_z d (pos 2)) (omega (arith, abs_half d, abs_sub e s));
    }
