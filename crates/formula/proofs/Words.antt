-- Which truths words have: joined words by their bits, and an atom's words by computation.
use Prim.Native.Nat.{ℕ, zero, suc, ◌-◌, ◌/◌, ◌%◌, ◌^◌, ◌<◌, min, max}
use native.Mathlib.Nat.{zero-div}
use native.Mathlib.Omega.{arith}
use mathlib.Core.Path.{◌≡◌, refl, ap, ◌∙◌}
use mathlib.Core.Bool.{Bool, true, false, not, ◌&&◌, ◌||◌, beq, and-eq-true_iff, false≢true}
use mathlib.Core.List.{List, [], ◌∷◌}
use lib.ListN.{length, get_or}
use lib.Dec.{eqb}
use lib.Bits.{bit_and, bit_or}
use mir.Syntax.{w64}
use Rattle.std.specs.Int.{bit_not}
use Rattle.std.proofs.lemmas.Nat.Bits.{bit_at_and, bit_at_or, bit_at_not, bit_at-lt}
use Rattle.formula.specs.Truths.{worths_number, bit_at, truth_at, WordsOf}
use Rattle.formula.proofs.Numbers.{number_below}

-- ---- a bit of joined words

-- by the two digits: how they are joined, and what the joined one tells
module _ (digit : ℕ → ℕ → ℕ) (f : Bool → Bool → Bool)
    (neither : eqb (digit 0 0) 1 ≡ f false false)
    (second : eqb (digit 0 1) 1 ≡ f false true)
    (first : eqb (digit 1 0) 1 ≡ f true false)
    (two : eqb (digit 1 1) 1 ≡ f true true)
  where
    tells : (p q : ℕ) → p < 2 → q < 2 → eqb (digit p q) 1 ≡ f (eqb p 1) (eqb q 1)
    tells zero zero g h = neither
    tells zero (suc zero) g h = second
    tells zero (suc (suc q)) g h = absurd (omega arith)
    tells (suc zero) zero g h = first
    tells (suc zero) (suc zero) g h = two
    tells (suc zero) (suc (suc q)) g h = absurd (omega arith)
    tells (suc (suc p)) q g h = absurd (omega arith)

bit_of_and : (a b k : ℕ) → bit_at (bit_and a b) k ≡ bit_at a k && bit_at b k
bit_of_and a b k = ap (λ (d : ℕ). eqb d 1) (bit_at_and a b k) ∙ tells min ◌&&◌ refl refl refl refl _ _ (bit_at-lt a k) (bit_at-lt b k)

bit_of_or : (a b k : ℕ) → bit_at (bit_or a b) k ≡ bit_at a k || bit_at b k
bit_of_or a b k = ap (λ (d : ℕ). eqb d 1) (bit_at_or a b k) ∙ tells max ◌||◌ refl refl refl refl _ _ (bit_at-lt a k) (bit_at-lt b k)

bit_of_not : (a k : ℕ) → a < 2 ^ 64 → k < 64 → bit_at (bit_not w64 a) k ≡ not (bit_at a k)
bit_of_not a k h l = ap (λ (d : ℕ). eqb d 1) (bit_at_not w64 a k h l) ∙ tells (λ p q. 1 - p) (λ p q. not p) refl refl refl refl _ 0 (bit_at-lt a k) (omega arith)

-- ---- words by their bits

module _ (bit : ℕ → ℕ → Bool) {words : List ℕ} (four : length words ≡ 4) (law : (i k : ℕ) → i < 4 → k < 64 → bit_at (get_or words i 0) k ≡ bit i k) where
  words_of : WordsOf (λ ws. bit (worths_number ws / 64) (worths_number ws % 64)) words
  unfolding truth_at
  words_of = record {
    four = four;
    says = λ ws e. law (worths_number ws / 64) (worths_number ws % 64) (omega (arith, number_below ws e)) (omega arith);
  }

no_bit : (k : ℕ) → bit_at 0 k ≡ false
no_bit k = rw (zero-div (2 ^ k))

pub none_words : WordsOf (λ ws. false) (0 ∷ 0 ∷ 0 ∷ 0 ∷ [])
none_words = words_of (λ i k. false) refl (λ i k l h. none_at i l k)
  where
    none_at : (i : ℕ) → i < 4 → (k : ℕ) → bit_at (get_or (0 ∷ 0 ∷ 0 ∷ 0 ∷ []) i 0) k ≡ false
    none_at zero l k = no_bit k
    none_at (suc zero) l k = no_bit k
    none_at (suc (suc zero)) l k = no_bit k
    none_at (suc (suc (suc zero))) l k = no_bit k
    none_at (suc (suc (suc (suc i)))) l k = absurd (omega arith)

abbrev of : List ℕ → ℕ → ℕ
of l i = get_or l i 0

pub denied_words : (x : List ℕ) {words : List ℕ} → ((i : ℕ) → of x i < 2 ^ 64) → length words ≡ 4 → ((i : ℕ) → i < 4 → of words i ≡ bit_not w64 (of x i)) → WordsOf (λ ws. not (truth_at x ws)) words
unfolding truth_at
denied_words x fits four each = words_of (λ i k. not (bit_at (of x i) k)) four (λ i k l h. ap (λ (w : ℕ). bit_at w k) (each i l) ∙ bit_of_not (of x i) k (fits i) h)

module _ (x y : List ℕ) {words : List ℕ} (four : length words ≡ 4) where
  pub both_words : ((i : ℕ) → i < 4 → of words i ≡ bit_and (of x i) (of y i)) → WordsOf (λ ws. truth_at x ws && truth_at y ws) words
  unfolding truth_at
  both_words each = words_of (λ i k. bit_at (of x i) k && bit_at (of y i) k) four (λ i k l h. ap (λ (w : ℕ). bit_at w k) (each i l) ∙ bit_of_and (of x i) (of y i) k)

  pub either_words : ((i : ℕ) → i < 4 → of words i ≡ bit_or (of x i) (of y i)) → WordsOf (λ ws. truth_at x ws || truth_at y ws) words
  unfolding truth_at
  either_words each = words_of (λ i k. bit_at (of x i) k || bit_at (of y i) k) four (λ i k l h. ap (λ (w : ℕ). bit_at w k) (each i l) ∙ bit_of_or (of x i) (of y i) k)

abbrev ones : ℕ
ones = 18446744073709551615

-- ---- the atoms' words, by computation over every set of worths

unfoldable pub every_set : ℕ → (List Bool → Bool) → Bool
every_set zero f = f []
every_set (suc n) f = every_set n (λ ws. f (false ∷ ws)) && every_set n (λ ws. f (true ∷ ws))

each_set : (n : ℕ) (f : List Bool → Bool) → every_set n f ≡ true → (ws : List Bool) → length ws ≡ n → f ws ≡ true
unfolding every_set
each_set zero f h [] e = h
each_set zero f h (b ∷ ws) e = absurd (omega (arith, e))
each_set (suc n) f h [] e = absurd (omega (arith, e))
each_set (suc n) f h (false ∷ ws) e = each_set n (λ l. f (false ∷ l)) ((and-eq-true_iff (every_set n (λ l. f (false ∷ l))) (every_set n (λ l. f (true ∷ l)))).0 h).0 ws (omega (arith, e))
each_set (suc n) f h (true ∷ ws) e = each_set n (λ l. f (true ∷ l)) ((and-eq-true_iff (every_set n (λ l. f (false ∷ l))) (every_set n (λ l. f (true ∷ l)))).0 h).1 ws (omega (arith, e))

beq_true : (a b : Bool) → beq a b ≡ true → a ≡ b
beq_true true true e = refl
beq_true true false e = absurd (false≢true e)
beq_true false true e = absurd (false≢true e)
beq_true false false e = refl

abbrev pub same_at : ℕ → List ℕ → List Bool → Bool
same_at atom words ws = beq (truth_at words ws) (get_or ws atom false)

from_four : (atom : ℕ) {a b c d : ℕ} → every_set 8 (same_at atom (a ∷ b ∷ c ∷ d ∷ [])) ≡ true → WordsOf (λ ws. get_or ws atom false) (a ∷ b ∷ c ∷ d ∷ [])
from_four atom {a} {b} {c} {d} h = record {
  four = refl;
  says = λ ws e. beq_true (truth_at (a ∷ b ∷ c ∷ d ∷ []) ws) (get_or ws atom false) (each_set 8 (same_at atom (a ∷ b ∷ c ∷ d ∷ [])) h ws e);
}

abbrev pub atoms_words : List (List ℕ)
atoms_words =
    (12297829382473034410 ∷ 12297829382473034410 ∷ 12297829382473034410 ∷ 12297829382473034410 ∷ []) ∷
    (14757395258967641292 ∷ 14757395258967641292 ∷ 14757395258967641292 ∷ 14757395258967641292 ∷ []) ∷
    (17361641481138401520 ∷ 17361641481138401520 ∷ 17361641481138401520 ∷ 17361641481138401520 ∷ []) ∷
    (18374966859414961920 ∷ 18374966859414961920 ∷ 18374966859414961920 ∷ 18374966859414961920 ∷ []) ∷
    (18446462603027742720 ∷ 18446462603027742720 ∷ 18446462603027742720 ∷ 18446462603027742720 ∷ []) ∷
    (18446744069414584320 ∷ 18446744069414584320 ∷ 18446744069414584320 ∷ 18446744069414584320 ∷ []) ∷
    (0 ∷ ones ∷ 0 ∷ ones ∷ []) ∷
    (0 ∷ 0 ∷ ones ∷ ones ∷ []) ∷
    []

pub atom_words : (atom : ℕ) → atom < 8 → WordsOf (λ ws. get_or ws atom false) (get_or atoms_words atom [])
unfolding every_set truth_at
atom_words zero h = from_four 0 refl
atom_words (suc zero) h = from_four 1 refl
atom_words (suc (suc zero)) h = from_four 2 refl
atom_words (suc (suc (suc zero))) h = from_four 3 refl
atom_words (suc (suc (suc (suc zero)))) h = from_four 4 refl
atom_words (suc (suc (suc (suc (suc zero))))) h = from_four 5 refl
atom_words (suc (suc (suc (suc (suc (suc zero)))))) h = from_four 6 refl
atom_words (suc (suc (suc (suc (suc (suc (suc zero))))))) h = from_four 7 refl
atom_words (suc (suc (suc (suc (suc (suc (suc (suc atom)))))))) h = absurd (omega arith)
