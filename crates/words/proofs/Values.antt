-- What a word spells from a letter on, and that it fits 64 bits.
use Prim.Native.Nat.{ℕ, suc, ◌+◌, ◌*◌, ◌^◌, ◌≤◌, ◌<◌}
use native.Mathlib.Nat.{pow-succ', pow-le-pow_right}
use native.Mathlib.Omega.{arith}
use mathlib.Core.Path.{◌≡◌, ap, ◌∙◌}
use mathlib.Core.List.{[], ◌∷◌}
use lib.ListN.{length, get_or, drop, length-drop}
use lib.Seq.{drop-cons}
use Rattle.scope.specs.Words.{Word, digit, value, value_from}
use Rattle.theory.specs.Words.Spelling.{digit_small, value_cons}

value_small : (w : Word) (j : ℕ) → value w j < 2 ^ length w
unfolding value value_from
value_small [] j = omega arith
value_small (l ∷ w) j = rw pow-succ' (omega (arith, value_cons l w j, digit_small l j, value_small w j))

pub value_at_lem : (w : Word) (i j : ℕ) → i < length w → value (drop i w) j ≡ digit (get_or w i 0) j + 2 * value (drop (suc i) w) j
value_at_lem w i j h = ap (λ (u : Word). value u j) (drop-cons w i 0 h) ∙ value_cons (get_or w i 0) (drop (suc i) w) j

pub value_fits : (w : Word) (i j : ℕ) → length w ≤ 64 → value (drop i w) j < 2 ^ 64
value_fits w i j h =
    let n : length (drop i w) ≤ 64 = omega (arith, length-drop i w) in
    omega (arith, value_small (drop i w) j, pow-le-pow_right {n = 2} (omega arith) n)
