-- The number of a set of worths: below 2^8, and that of its halves joined.
use Prim.Native.Nat.{ℕ, zero, suc, ◌+◌, ◌*◌, ◌^◌, ◌≤◌, ◌<◌}
use native.Mathlib.Nat.{pow-suc, pow-le-pow_right}
use native.Mathlib.Omega.{arith}
use mathlib.Core.Path.{◌≡◌, refl, subst}
use mathlib.Core.Bool.{Bool, true, false}
use mathlib.Core.List.{List, [], ◌∷◌}
use lib.ListN.{length, get_or, drop, length-drop}
use Rattle.formula.specs.Truths.{one_if, worths_number}

pub one_most : (b : Bool) → one_if b ≤ 1
one_most true = omega arith
one_most false = omega arith

below_power : (worths : List Bool) → worths_number worths < 2 ^ length worths
below_power [] = omega arith
below_power (b ∷ worths) = rw (pow-suc 2 (length worths)) (omega (arith, below_power worths, one_most b))

pub number_below : (worths : List Bool) → length worths ≡ 8 → worths_number worths < 256
number_below worths e = subst (λ (n : ℕ). worths_number worths < 2 ^ n) e (below_power worths)

-- from place i on
pub number_from : (worths : List Bool) (i : ℕ) → i < length worths → worths_number (drop i worths) ≡ one_if (get_or worths i false) + 2 * worths_number (drop (suc i) worths)
number_from [] i h = absurd (omega (arith, h))
number_from (b ∷ worths) zero h = refl
number_from (b ∷ worths) (suc i) h = number_from worths i (omega (arith, h))

pub number_fits : (worths : List Bool) (i : ℕ) → length worths ≡ 8 → worths_number (drop i worths) < 256
number_fits worths i e =
    let n : length (drop i worths) ≤ 8 = omega (arith, length-drop i worths) in
    omega (arith, below_power (drop i worths), pow-le-pow_right {n = 2} (omega arith) n)
