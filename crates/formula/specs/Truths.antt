-- A formula's truths as four words: bit w % 64 of word w / 64 is the truth where atom i is worth bit i of w.
use Rattle.std.specs.Prelude.{ℕ, ◌+◌, ◌*◌, ◌/◌, ◌%◌, ◌^◌, ◌≡◌, Bool, cond, List, [], ◌∷◌, length, get_or, eqb}
use Rattle.scope.specs.Question.{Node}
use Rattle.scope.specs.States.{formula_worth}
use Rattle.scope.specs.Sizes.{most_atoms}

-- ---- the number of a set of worths

abbrev pub one_if : Bool → ℕ
one_if b = cond b 1 0

abbrev pub worths_number : List Bool → ℕ
worths_number [] = 0
worths_number (b ∷ worths) = one_if b + 2 * worths_number worths

-- ---- words

abbrev pub bit_at : ℕ → ℕ → Bool
bit_at word k = eqb (word / 2 ^ k % 2) 1

unfoldable pub truth_at : List ℕ → List Bool → Bool
truth_at truths worths = bit_at (get_or truths (worths_number worths / 64) 0) (worths_number worths % 64)

-- four words that have, for each eight worths, the truth that f gives them
pub record WordsOf (f : List Bool → Bool) (truths : List ℕ) : Type 0 where
  pub four : length truths ≡ 4
  pub says : (worths : List Bool) → length worths ≡ most_atoms → truth_at truths worths ≡ f worths

-- a formula's truths
abbrev pub TruthsOf : List Node → List ℕ → Type 0
TruthsOf nodes truths = WordsOf (formula_worth nodes) truths
