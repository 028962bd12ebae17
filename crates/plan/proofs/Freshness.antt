-- The letters' bits: those below the lowest 1, letters with the same sums, and one letter more.
use Prim.Native.Nat.{ℕ, zero, suc, ◌+◌, ◌-◌, ◌*◌, ◌/◌, ◌%◌, ◌^◌, ◌≤◌, ◌<◌}
use mathlib.Core.Path.{◌≡◌, refl, sym, ap, ◌∙◌}
use mathlib.Core.Logic.{by_cases}
use mathlib.Core.Bool.{true, false, true≢false}
use mathlib.Core.List.{List}
use native.Mathlib.Decide.{ℕ_discrete, dec_lt}
use native.Mathlib.Nat.{mul_comm, div-one, zero-div, pow-suc, add-mul-div_left, le-div_iff_mul-le}
use native.Mathlib.Numerals.{add-one}
use native.Mathlib.Omega.{arith}
use lib.Count.{under, count_trailing_zeros}
use lib.Dec.{eqb}
use lib.ListN.{get_or}
use lib.IntN.{ℤ, pos}
use lib.Pow.{pow_pos, pow_mono, pow-add, shr-shr, shr_le, high}
use Rattle.formula.specs.Truths.{bit_at}
use Rattle.index.specs.Rows.{row_at, row_cell}
use Rattle.plan.specs.Machine.{Repeats, FreshBits}
use Rattle.plan.specs.Moves.{Skips}

-- ---- below the lowest 1

zeros_clear : (d x k : ℕ) → k < count_trailing_zeros d x → x / 2 ^ k % 2 ≡ 0
unfolding count_trailing_zeros
zeros_clear zero x k h = absurd (omega arith)
zeros_clear (suc d) x k h = go (x % 2) refl k (λ j. zeros_clear d (x / 2) j) h
  where
    go : (r : ℕ) → x % 2 ≡ r → (k : ℕ) → ((j : ℕ) → j < count_trailing_zeros d (x / 2) → x / 2 / 2 ^ j % 2 ≡ 0) → k < under r (count_trailing_zeros d (x / 2)) → x / 2 ^ k % 2 ≡ 0
    go (suc r) e k rest l = absurd (omega arith)
    go zero e zero rest l = rw (div-one x) e
    go zero e (suc k) rest l = let s : suc k ≡ 1 + k = omega arith in rw (s, ← shr-shr x 1 k) (rest k (omega arith))

-- what is left of a word above a letter's bit, by its bits
left_bit : (fresh letter k : ℕ) → letter < k → fresh / 2 ^ k ≡ fresh / 2 ^ letter / 2 / 2 ^ (k - (letter + 1))
left_bit fresh letter k h =
    let i = k - (letter + 1) in
    let e : k ≡ letter + 1 + i = omega arith in
    ap (λ (n : ℕ). fresh / 2 ^ n) e ∙ rw (← shr-shr fresh (letter + 1) i, ← shr-shr fresh letter 1)

clear_bit : (fresh k : ℕ) → fresh / 2 ^ k % 2 ≡ 0 → bit_at fresh k ≡ false
clear_bit fresh k e = ap (λ (b : ℕ). eqb b 1) e

-- none is left
pub none_left : (fresh letter next : ℕ) → letter < next → fresh / 2 ^ letter / 2 ≡ 0 → Skips fresh letter next
none_left fresh letter next h e = record {
  later = h;
  between = λ k l p. clear_bit fresh k (rw (left_bit fresh letter k l, e, zero-div (2 ^ (k - (letter + 1)))));
}

-- the lowest 1 of a word
lowest : (d x : ℕ) → 0 < x → x < 2 ^ d → 2 ^ count_trailing_zeros d x ≤ x
unfolding count_trailing_zeros
lowest zero x some low = absurd (omega arith)
lowest (suc d) x some low = go (x % 2) refl (lowest d (x / 2))
  where
    go : (r : ℕ) → x % 2 ≡ r → (0 < x / 2 → x / 2 < 2 ^ d → 2 ^ count_trailing_zeros d (x / 2) ≤ x / 2) → 2 ^ under r (count_trailing_zeros d (x / 2)) ≤ x
    go (suc r) e rest = omega arith
    go zero e rest =
        let t = count_trailing_zeros d (x / 2) in
        let h : x / 2 < 2 ^ d = omega (arith, pow-suc 2 d) in
        rw (pow-suc 2 t) (omega (arith, rest (omega arith) h))

module _ (fresh letter letters : ℕ) (few : letters ≤ 64) (below : fresh < 2 ^ letters) (some : fresh / 2 ^ letter / 2 ≡ 0 → ⊥) where
  abbrev left : ℕ
  left = fresh / 2 ^ letter / 2

  abbrev next : ℕ
  next = letter + 1 + count_trailing_zeros 64 left

  pub next_skips : Skips fresh letter next
  next_skips = record {
    later = omega arith;
    between = λ k l h. clear_bit fresh k (rw (left_bit fresh letter k l) (zeros_clear 64 left (k - (letter + 1)) (omega arith)));
  }

  pub next_below : next < letters
  next_below =
      by_cases (dec_lt next letters) (λ h. h)
      (λ h.
      let o : letters ≤ next = omega arith in
      absurd (omega (arith, below, pow_mono o, at_least_lem)))
    where
      low : left < 2 ^ 64
      low = omega (arith, shr_le fresh letter, below, pow_mono few)

      lowest_is : 2 ^ count_trailing_zeros 64 left ≤ fresh / 2 ^ (letter + 1)
      lowest_is = rw (← shr-shr fresh letter 1) (lowest 64 left (omega (arith, some)) low)

      at_least_lem : 2 ^ next ≤ fresh
      at_least_lem =
          rw (pow-add 2 (letter + 1) (count_trailing_zeros 64 left), mul_comm (2 ^ (letter + 1)) (2 ^ count_trailing_zeros 64 left))
          ((le-div_iff_mul-le (pow_pos (letter + 1))).0 lowest_is)

-- ---- letters with the same row of sums

pub row_repeats : (sums : List ℤ) (lead letter : ℕ) → lead < letter → row_at sums 8 lead ≡ row_at sums 8 letter → Repeats sums letter
row_repeats sums lead letter h e = record { lead = lead; earlier = h; same = λ i l. sym (cell letter i l) ∙ ap (λ (r : List ℤ). get_or r i (pos 0)) (sym e) ∙ cell lead i l }
  where
    cell : (s i : ℕ) → i < 8 → get_or (row_at sums 8 s) i (pos 0) ≡ get_or sums (8 * s + i) (pos 0)
    cell s i l = let c : s * 8 ≡ 8 * s = omega arith in rw (← c) (row_cell sums 8 s i (pos 0) l)

-- ---- one letter more

pub none_marked : (sums : List ℤ) → FreshBits sums 0 0
none_marked sums = record { below = omega (arith, pow_pos 0); repeats = λ a h. absurd (omega arith) }

module _ {sums : List ℤ} {letter fresh : ℕ} (m : FreshBits sums letter fresh) where
  -- it repeats an earlier one
  pub repeats_marked : Repeats sums letter → FreshBits sums (letter + 1) fresh
  repeats_marked r = record {
    below = rw (add-one, pow-suc 2 letter) (omega (arith, m.below));
    repeats = λ a h e. by_cases (ℕ_discrete a letter) (λ q. rw q r) (λ ne. m.repeats a (omega arith) e);
  }

  its_bit : bit_at (fresh + 2 ^ letter) letter ≡ true
  its_bit =
      let e : fresh + 2 ^ letter ≡ 1 * 2 ^ letter + fresh = omega arith in
      ap (λ (w : ℕ). eqb (w % 2) 1) (ap (λ (w : ℕ). w / 2 ^ letter) e ∙ high 1 letter m.below)

  -- the bits below are as they were
  other_bit : (a : ℕ) → a < letter → bit_at (fresh + 2 ^ letter) a ≡ bit_at fresh a
  other_bit a h =
      let d = letter - (a + 1) in
      let e : letter ≡ a + suc d = omega arith in
      let parts : 2 ^ letter ≡ 2 ^ a * (2 ^ d * 2) = ap (λ (n : ℕ). 2 ^ n) e ∙ pow-add 2 a (suc d) ∙ rw (pow-suc 2 d) in
      let moved : (fresh + 2 ^ letter) / 2 ^ a ≡ fresh / 2 ^ a + 2 ^ d * 2 = rw parts (add-mul-div_left fresh (2 ^ d * 2) (pow_pos a)) in
      let same : (fresh + 2 ^ letter) / 2 ^ a % 2 ≡ fresh / 2 ^ a % 2 = omega (arith, moved) in
      ap (λ (w : ℕ). eqb w 1) same

  -- it has a bit of its own
  pub bit_marked : FreshBits sums (letter + 1) (fresh + 2 ^ letter)
  bit_marked = record {
    below = rw (add-one, pow-suc 2 letter) (omega (arith, m.below));
    repeats = λ a h e.
        by_cases (ℕ_discrete a letter)
        (λ q. absurd (true≢false (sym (rw q its_bit) ∙ e)))
        (λ ne. let l : a < letter = omega arith in m.repeats a l (sym (other_bit a l) ∙ e));
  }
