-- What a word spells: letter by letter, with zeros at its end, and a word for every tuple of values.
-- `put l xs` are the values whose lowest digits are the letter's and whose further digits are xs: to read a letter is to put it.
use Rattle.std.specs.Prelude.{◌≡◌, refl, ◌↔◌, Bool, ℕ, zero, suc, ◌+◌, ◌*◌, ◌/◌, ◌%◌, ◌^◌, ◌≤◌, ◌<◌, length, get_or, replicate, T, ltb, leb}
use Rattle.std.proofs.Common.{sym, ap, ◌∙◌, arith, ltb→lt, lt→ltb, leb→le, le→leb, lit<}
use mathlib.Core.List.{List, [], ◌∷◌, ◌++◌, map}
use Rattle.std.proofs.Math.Nat.{pow-succ', pow-le-pow_right, div-div-eq-div-mul, zero-div}
use Rattle.std.proofs.lemmas.List.{length-map}
use Rattle.std.proofs.Math.Facts.{and_yes, yes_and}
use Rattle.std.specs.List.{list_all}
use Rattle.scope.specs.Words.{letters, digit, letter_of, Word, value_from, value, values_from, spelled, Over, over-[], over-∷, letters_fit}

-- ---- letters

pub digit_small : (letter j : ℕ) → digit letter j < 2
unfolding digit
digit_small letter j = omega arith

digit_of_zero : (j : ℕ) → digit 0 j ≡ 0
unfolding digit
digit_of_zero j = ap (λ (z : ℕ). z % 2) (zero-div (2 ^ j))

-- a letter is its lowest digit and twice the letter of the others
digit_first : (d rest : ℕ) → d < 2 → digit (d + 2 * rest) 0 ≡ d
unfolding digit
digit_first d rest h = omega arith

halved_first : (a j : ℕ) → a / 2 ^ suc j ≡ a / 2 / 2 ^ j
halved_first a j = rw (pow-succ', div-div-eq-div-mul)

digit_next : (d rest j : ℕ) → d < 2 → digit (d + 2 * rest) (suc j) ≡ digit rest j
unfolding digit
digit_next d rest j h = let e : (d + 2 * rest) / 2 ≡ rest = omega arith in rw (halved_first (d + 2 * rest) j, e)

pub digit_letter_of : {ds : List ℕ} (j : ℕ) → Over 2 ds → digit (letter_of ds) j ≡ get_or ds j 0
unfolding letter_of
digit_letter_of j over-[] = digit_of_zero j
digit_letter_of zero (over-∷ {a} {w} h o) = digit_first a (letter_of w) h
digit_letter_of (suc j) (over-∷ {a} {w} h o) = digit_next a (letter_of w) j h ∙ digit_letter_of j o

letter_of_small : {ds : List ℕ} → Over 2 ds → letter_of ds < 2 ^ length ds
unfolding letter_of
letter_of_small over-[] = omega arith
letter_of_small (over-∷ {a} {w} h o) = rw pow-succ' (omega (arith, letter_of_small o))

-- ---- letter by letter

unfoldable pub put_from : ℕ → ℕ → List ℕ → List ℕ
put_from letter j [] = []
put_from letter j (x ∷ xs) = (digit letter j + 2 * x) ∷ put_from letter (suc j) xs

unfoldable pub put : ℕ → List ℕ → List ℕ
put letter xs = put_from letter 0 xs

shifted : (i : ℕ) (w : Word) (j : ℕ) → value_from (suc i) w j ≡ 2 * value_from i w j
unfolding value_from
shifted i [] j = refl
shifted i (l ∷ w) j = omega (arith, shifted (suc i) w j, digit_pow (digit l j) i)
  where
    digit_pow : (d i : ℕ) → d * 2 ^ suc i ≡ 2 * (d * 2 ^ i)
    digit_pow d i = rw pow-succ' (omega arith)

pub value_cons : (l : ℕ) (w : Word) (j : ℕ) → value (l ∷ w) j ≡ digit l j + 2 * value w j
unfolding value value_from
value_cons l w j = omega (arith, shifted 0 w j)

values_from_nil : (n j : ℕ) → values_from n j [] ≡ replicate n 0
unfolding values_from value value_from
values_from_nil zero j = refl
values_from_nil (suc n) j = ap (λ (xs : List ℕ). 0 ∷ xs) (values_from_nil n (suc j))

values_from_cons : (n j l : ℕ) (w : Word) → values_from n j (l ∷ w) ≡ put_from l j (values_from n j w)
unfolding values_from put_from
values_from_cons zero j l w = refl
values_from_cons (suc n) j l w = λ i. value_cons l w j i ∷ values_from_cons n (suc j) l w i

length_values_from : (n j : ℕ) (w : Word) → length (values_from n j w) ≡ n
unfolding values_from
length_values_from zero j w = refl
length_values_from (suc n) j w = ap suc (length_values_from n (suc j) w)

pub spelled_nil : (n : ℕ) → spelled n [] ≡ replicate n 0
unfolding spelled
spelled_nil n = values_from_nil n 0

pub spelled_cons : (n l : ℕ) (w : Word) → spelled n (l ∷ w) ≡ put l (spelled n w)
unfolding spelled put
spelled_cons n l w = values_from_cons n 0 l w

pub length_spelled : (n : ℕ) (w : Word) → length (spelled n w) ≡ n
unfolding spelled
length_spelled n w = length_values_from n 0 w

values_from_at : (n j : ℕ) (w : Word) (i : ℕ) → i < n → get_or (values_from n j w) i 0 ≡ value w (j + i)
unfolding values_from
values_from_at zero j w i h = absurd (omega arith)
values_from_at (suc n) j w zero h = ap (value w) (omega arith)
values_from_at (suc n) j w (suc i) h = values_from_at n (suc j) w i (omega arith) ∙ ap (value w) (omega arith)

pub spelled_at : (n : ℕ) (w : Word) (j : ℕ) → j < n → get_or (spelled n w) j 0 ≡ value w j
unfolding spelled
spelled_at n w j h = values_from_at n 0 w j h ∙ ap (value w) (omega arith)

-- ---- zeros at the end of a word add nothing

put_zeros : (n j : ℕ) → put_from 0 j (replicate n 0) ≡ replicate n 0
unfolding put_from
put_zeros zero j = refl
put_zeros (suc n) j = rw (digit_of_zero j) (ap (λ (xs : List ℕ). 0 ∷ xs) (put_zeros n (suc j)))

spelled_zeros : (n k : ℕ) → spelled n (replicate k 0) ≡ replicate n 0
unfolding put
spelled_zeros n zero = spelled_nil n
spelled_zeros n (suc k) = spelled_cons n 0 (replicate k 0) ∙ ap (put 0) (spelled_zeros n k) ∙ put_zeros n 0

pub trailing_zeros : (n : ℕ) (w : Word) (k : ℕ) → spelled n (w ++ replicate k 0) ≡ spelled n w
trailing_zeros n [] k = spelled_zeros n k ∙ sym (spelled_nil n)
trailing_zeros n (l ∷ w) k = rw (spelled_cons n l w, spelled_cons n l (w ++ replicate k 0)) (ap (put l) (trailing_zeros n w k))

-- ---- every tuple is spelled by a word over the letters

abbrev pub lows : List ℕ → List ℕ
lows xs = map (λ (x : ℕ). x % 2) xs

abbrev pub halves : List ℕ → List ℕ
halves xs = map (λ (x : ℕ). x / 2) xs

-- the word of k letters that spells these values, where each is below 2 ^ k
unfoldable pub word_of_values : ℕ → List ℕ → Word
word_of_values zero xs = []
word_of_values (suc k) xs = letter_of (lows xs) ∷ word_of_values k (halves xs)

pub length_word_of_values : (k : ℕ) (xs : List ℕ) → length (word_of_values k xs) ≡ k
unfolding word_of_values
length_word_of_values zero xs = refl
length_word_of_values (suc k) xs = ap suc (length_word_of_values k (halves xs))

over_lows : (xs : List ℕ) → Over 2 (lows xs)
over_lows [] = over-[]
over_lows (x ∷ xs) = let h : x % 2 < 2 = omega arith in over-∷ h (over_lows xs)

low_letter_small : (xs : List ℕ) → letter_of (lows xs) < 2 ^ length xs
low_letter_small xs = rw (length-map xs (λ (x : ℕ). x % 2)) at (letter_of_small (over_lows xs))

over_halves : (k : ℕ) {xs : List ℕ} → Over (2 ^ suc k) xs → Over (2 ^ k) (halves xs)
over_halves k over-[] = over-[]
over_halves k (over-∷ {a} h o) = let i : a / 2 < 2 ^ k = omega (arith, rw pow-succ' at h) in over-∷ i (over_halves k o)

over_one : {xs : List ℕ} → Over 1 xs → replicate (length xs) 0 ≡ xs
over_one over-[] = refl
over_one (over-∷ {a} {w} h o) = let e : 0 ≡ a = omega arith in λ i. e i ∷ over_one o i

-- from the next variable on, the lowest digit is out of sight
put_from_next : (d rest j : ℕ) (xs : List ℕ) → d < 2 → put_from (d + 2 * rest) (suc j) xs ≡ put_from rest j xs
unfolding put_from
put_from_next d rest j [] h = refl
put_from_next d rest j (x ∷ xs) h = rw (digit_next d rest j h) (ap (λ (ys : List ℕ). (digit rest j + 2 * x) ∷ ys) (put_from_next d rest (suc j) xs h))

put_lows : (xs : List ℕ) → put (letter_of (lows xs)) (halves xs) ≡ xs
unfolding put put_from letter_of
put_lows [] = refl
put_lows (x ∷ xs) =
    let rest : ℕ = letter_of (lows xs) in
    let h : x % 2 < 2 = omega arith in
    let first : digit (x % 2 + 2 * rest) 0 + 2 * (x / 2) ≡ x = omega (arith, digit_first (x % 2) rest h) in
    let others : put_from (x % 2 + 2 * rest) 1 (halves xs) ≡ xs = put_from_next (x % 2) rest 0 (halves xs) h ∙ put_lows xs in
    λ i. first i ∷ others i

pub word_of_values_over : (k : ℕ) (xs : List ℕ) → Over (letters (length xs)) (word_of_values k xs)
unfolding word_of_values
word_of_values_over zero xs = over-[]
word_of_values_over (suc k) xs = over-∷ (low_letter_small xs) (rw (length-map xs (λ (x : ℕ). x / 2)) at (word_of_values_over k (halves xs)))

pub word_of_values_spells : (k : ℕ) (xs : List ℕ) → Over (2 ^ k) xs → spelled (length xs) (word_of_values k xs) ≡ xs
unfolding word_of_values
word_of_values_spells zero xs o = spelled_nil (length xs) ∙ over_one o
word_of_values_spells (suc k) xs o =
    spelled_cons (length xs) (letter_of (lows xs)) (word_of_values k (halves xs))
    ∙ ap (put (letter_of (lows xs))) (rw (length-map xs (λ (x : ℕ). x / 2)) at (word_of_values_spells k (halves xs) (over_halves k o)))
    ∙ put_lows xs

-- as many letters as the values' sum are enough
unfoldable pub total_of : List ℕ → ℕ
total_of [] = 0
total_of (x ∷ xs) = x + total_of xs

unfoldable pub digits_of : List ℕ → Word
digits_of xs = word_of_values (total_of xs) xs

below_power : (x : ℕ) → x < 2 ^ x
below_power zero = omega arith
below_power (suc x) = rw pow-succ' (omega (arith, below_power x))

over_weaken : {a b : ℕ} {w : Word} → a ≤ b → Over a w → Over b w
over_weaken h over-[] = over-[]
over_weaken {a} {b} h (over-∷ {a = x} i o) = let j : x < b = omega arith in over-∷ j (over_weaken h o)

below_total : (xs : List ℕ) → Over (2 ^ total_of xs) xs
unfolding total_of
below_total [] = over-[]
below_total (x ∷ xs) =
    let p : 2 ^ x ≤ 2 ^ (x + total_of xs) = pow-le-pow_right (lit< tt) (omega arith) in
    let q : 2 ^ total_of xs ≤ 2 ^ (x + total_of xs) = pow-le-pow_right (lit< tt) (omega arith) in
    let r : x < 2 ^ (x + total_of xs) = omega (arith, below_power x) in
    over-∷ r (over_weaken q (below_total xs))

-- a word over the letters of n variables that spells xs
pub record SpelledBy (n : ℕ) (xs : List ℕ) : Type 0 where
  pub word : Word
  pub over : Over (letters n) word
  pub spells : spelled n word ≡ xs

pub every_tuple : (n : ℕ) (xs : List ℕ) → length xs ≡ n → SpelledBy n xs
unfolding digits_of
every_tuple n xs e = record {
  word = digits_of xs;
  over = rw e at (word_of_values_over (total_of xs) xs);
  spells = rw e at (word_of_values_spells (total_of xs) xs (below_total xs));
}

-- ---- tests of each letter, or of each value

module _ (passes : ℕ → Bool) (k : ℕ) (means : (a : ℕ) → T (passes a) ↔ (a < k)) where
  into_over : (w : Word) → T (list_all passes w) → Over k w
  into_over [] t = over-[]
  into_over (a ∷ w) t = let p = and_yes (passes a) (list_all passes w) t in over-∷ ((means a).0 p.0) (into_over w p.1)

  out_of_over : {w : Word} → Over k w → T (list_all passes w)
  out_of_over over-[] = tt
  out_of_over (over-∷ {a} {w} h o) = yes_and (passes a) (list_all passes w) ((means a).1 h) (out_of_over o)

  all_over : (w : Word) → T (list_all passes w) ↔ Over k w
  all_over w = (into_over w, λ o. out_of_over o)

pub letters_fit_lem : (n : ℕ) (w : Word) → T (letters_fit n w) ↔ Over (letters n) w
letters_fit_lem n w = all_over (λ (a : ℕ). ltb a (letters n)) (letters n) (λ a. (ltb→lt a (letters n), lt→ltb a (letters n))) w

-- the values are at most k
pub values_at_most : (k : ℕ) (xs : List ℕ) → T (list_all (λ (x : ℕ). leb x k) xs) ↔ Over (suc k) xs
values_at_most k xs = all_over (λ (x : ℕ). leb x k) (suc k) (λ x. (λ t. omega (arith, leb→le x k t), λ h. le→leb x k (omega arith))) xs
