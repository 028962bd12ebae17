-- The decimal digits of a natural, as bytes of ASCII, and laws on them.
use Rattle.std.specs.Prelude.{ℕ, zero, suc, ◌+◌, ◌-◌, ◌*◌, ◌/◌, ◌%◌, ◌^◌, ◌≤◌, ◌<◌, ◌≡◌, refl, List, [], ◌∷◌, ◌++◌, length}
use Rattle.std.proofs.Common.{add-zero, add-suc, add-sub_of_le, arith, sym, ap, ◌∙◌, length-append}
use Rattle.std.proofs.Math.Nat.{pow-succ'}
use Rattle.std.proofs.Math.Decide.{dec_lt}
use Rattle.std.proofs.Math.Logic.{by_cases}

-- the byte of a digit
abbrev pub digit_byte : ℕ → ℕ
digit_byte d = 48 + d

-- the digits of v, none for 0, at most f of them
unfoldable pub leading : ℕ → ℕ → List ℕ
leading zero v = []
leading (suc f) zero = []
leading (suc f) (suc u) = leading f (suc u / 10) ++ (digit_byte (suc u % 10) ∷ [])

-- the digits before the last, and the last
unfoldable pub decimal : ℕ → List ℕ
decimal v = leading v (v / 10) ++ (digit_byte (v % 10) ∷ [])

-- ---- one digit, or one digit more

leading_none : (f : ℕ) → leading f 0 ≡ []
unfolding leading
leading_none zero = refl
leading_none (suc f) = refl

leading_more : (f u : ℕ) → 0 < u → leading (suc f) u ≡ leading f (u / 10) ++ (digit_byte (u % 10) ∷ [])
unfolding leading
leading_more f zero h = absurd (omega arith)
leading_more f (suc u) h = refl

-- v digits are enough
leading_one : (f v : ℕ) → v ≤ f → leading (suc f) v ≡ leading f v
leading_one zero zero h = leading_none 1 ∙ sym (leading_none 0)
leading_one zero (suc u) h = absurd (omega arith)
leading_one (suc f) zero h = leading_none (suc (suc f)) ∙ sym (leading_none (suc f))
leading_one (suc f) (suc u) h =
    leading_more (suc f) (suc u) (omega arith) ∙
    ap (λ (l : List ℕ). l ++ (digit_byte (suc u % 10) ∷ [])) (leading_one f (suc u / 10) (omega arith)) ∙
    sym (leading_more f (suc u) (omega arith))

leading_enough : (k v : ℕ) → leading (v + k) v ≡ leading v v
leading_enough zero v = rw (add-zero v)
leading_enough (suc k) v = rw (add-suc v k) (leading_one (v + k) v (omega arith) ∙ leading_enough k v)

leading_within : (f v : ℕ) → v ≤ f → leading f v ≡ leading v v
leading_within f v h = rw (add-sub_of_le h) at (leading_enough (f - v) v)

pub decimal_one : (v : ℕ) → v < 10 → decimal v ≡ digit_byte v ∷ []
unfolding decimal
decimal_one v h =
    let d : v / 10 ≡ 0 = omega arith in
    let m : v % 10 ≡ v = omega arith in
    rw (d, m, leading_none v)

-- the digits of a number that has some
leading_decimal : (f u : ℕ) → 0 < u → u ≤ f → leading f u ≡ decimal u
unfolding decimal
leading_decimal zero u h g = absurd (omega arith)
leading_decimal (suc f) u h g =
    leading_more f u h ∙
    ap (λ (l : List ℕ). l ++ (digit_byte (u % 10) ∷ [])) (leading_within f (u / 10) (omega arith) ∙ sym (leading_within u (u / 10) (omega arith)))

pub decimal_more : (v : ℕ) → 10 ≤ v → decimal v ≡ decimal (v / 10) ++ (digit_byte (v % 10) ∷ [])
unfolding decimal
decimal_more v h = ap (λ (l : List ℕ). l ++ (digit_byte (v % 10) ∷ [])) (leading_decimal v (v / 10) (omega arith) (omega arith))

-- ---- how many digits there are

pub decimal_longer : (v : ℕ) → 10 ≤ v → length (decimal v) ≡ length (decimal (v / 10)) + 1
decimal_longer v h = rw (decimal_more v h) (length-append (decimal (v / 10)) (digit_byte (v % 10) ∷ []))

pub decimal_some : (v : ℕ) → 0 < length (decimal v)
decimal_some v = by_cases (dec_lt v 10) (λ p. rw (decimal_one v p) (omega arith)) (λ p. omega (arith, decimal_longer v (omega arith)))

pub decimal_length : (k v : ℕ) → v < 10 ^ suc k → length (decimal v) ≤ suc k
decimal_length zero v h = rw (decimal_one v (omega arith)) (omega arith)
decimal_length (suc k) v h =
    by_cases (dec_lt v 10)
    (λ p. rw (decimal_one v p) (omega arith))
    (λ p.
    let b : v < 10 * 10 ^ suc k = rw (pow-succ' 10 (suc k)) at h in
    let l : length (decimal (v / 10)) ≤ suc k = decimal_length k (v / 10) (omega arith) in
    omega (arith, decimal_longer v (omega arith)))

pub decimal_of_64_bits : (v : ℕ) → v < 2 ^ 64 → length (decimal v) ≤ 20
decimal_of_64_bits v h = decimal_length 19 v (omega arith)

pub decimal_of_a_byte : (v : ℕ) → v < 2 ^ 8 → length (decimal v) ≤ 3
decimal_of_a_byte v h = decimal_length 2 v (omega arith)
