-- Document 01, "Words and letters": digits, letters, what a word spells, the order of words; and spelling, the call.
use Rattle.std.specs.Prelude.{ℕ, zero, suc, ◌+◌, ◌-◌, ◌*◌, ◌/◌, ◌%◌, ◌^◌, ◌<◌, ◌≡◌, Bool, ◌&&◌, List, [], ◌∷◌, ◌++◌, length, leb, ltb, Result}
use Rattle.scope.specs.declared.Rule.{Rule}
use Rattle.scope.specs.declared.Refusal.{Refusal}
use Rattle.std.specs.List.{list_all}
use Rattle.scope.specs.Sizes.{most_spelled, variables_fit}
use Rattle.scope.specs.Refusals.{Check, check, first_refusal, unless_refused}

infixl 45 ◌▹◌
infix 20 ◌≺◌
infix 20 ◌≼◌
-- ---- letters: one binary digit of every variable, variable 1 the lowest bit. Variable j + 1 is at index j.

abbrev pub letters : ℕ → ℕ
letters n = 2 ^ n

unfoldable pub digit : ℕ → ℕ → ℕ
digit letter j = letter / 2 ^ j % 2

-- the letter of these digits, variable 1's first
unfoldable pub letter_of : List ℕ → ℕ
letter_of [] = 0
letter_of (d ∷ ds) = d + 2 * letter_of ds

-- ---- words, low digits first

abbrev pub Word : Type 0
Word = List ℕ

-- a word with one more letter at its end
abbrev pub ◌▹◌ : Word → ℕ → Word
w ▹ a = w ++ (a ∷ [])

-- what a word spells for a variable: the sum of its digits times 2 ^ i, i from where the word begins
unfoldable pub value_from : ℕ → Word → ℕ → ℕ
value_from i [] j = 0
value_from i (letter ∷ w) j = digit letter j * 2 ^ i + value_from (suc i) w j

unfoldable pub value : Word → ℕ → ℕ
value w j = value_from 0 w j

-- the values of the count variables from j on, and of all n
unfoldable pub values_from : ℕ → ℕ → Word → List ℕ
values_from zero j w = []
values_from (suc count) j w = value w j ∷ values_from count (suc j) w

unfoldable pub spelled : ℕ → Word → List ℕ
spelled n w = values_from n 0 w

-- ---- the order: shorter first, then by the first letter that differs

-- u and v have one length, and u has the smaller letter where they first differ
pub data Lex : Word → Word → Type 0 where
  here : {a b : ℕ} {u v : Word} → a < b → length u ≡ length v → Lex (a ∷ u) (b ∷ v)
  there : {a b : ℕ} {u v : Word} → a ≡ b → Lex u v → Lex (a ∷ u) (b ∷ v)

pub data ◌≺◌ (u v : Word) : Type 0 where
  shorter : length u < length v → u ≺ v
  lexed : Lex u v → u ≺ v

pub data ◌≼◌ (u v : Word) : Type 0 where
  equal : u ≡ v → u ≼ v
  less : u ≺ v → u ≼ v

-- a word of letters below k
pub data Over (k : ℕ) : Word → Type 0 where
  over-[] : Over k []
  over-∷ : {a : ℕ} {w : Word} → a < k → Over k w → Over k (a ∷ w)

abbrev pub letters_fit : ℕ → Word → Bool
letters_fit n w = list_all (λ letter. ltb letter (letters n)) w

-- ---- spelling: n, a variable from 1 to n, and a word

abbrev pub spell_checks : ℕ → ℕ → Word → List Check
spell_checks n variable w =
    check Rule.BeyondLimit 0 (variables_fit n) ∷
    check Rule.BeyondLimit 0 (leb 1 variable && leb variable n) ∷
    check Rule.Letter 0 (letters_fit n w) ∷
    check Rule.Values 0 (leb (length w) most_spelled) ∷
    []

unfoldable pub spelt : ℕ → ℕ → Word → Result ℕ Refusal
spelt n variable w = unless_refused (first_refusal (spell_checks n variable w)) (value w (variable - 1))
