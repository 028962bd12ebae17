-- The declared names as the code has them: for each the place of its first byte and the one behind its last, as one list.
use Rattle.std.specs.Prelude.{ℕ, zero, suc, ◌+◌, ◌*◌, ◌≤◌, ◌<◌, ◌≡◌, List, [], ◌∷◌, length, get_or, Option, Some, None}
use Rattle.std.proofs.Math.Option as Math
use Rattle.std.proofs.Math.Option.{none, some}
use Rattle.lexicon.specs.Spots.{stretch}

abbrev pub name_at : List ℕ → List ℕ → ℕ → List ℕ
name_at text bounds i = stretch text (get_or bounds (2 * i) 0) (get_or bounds (2 * i + 1) 0)

-- so many names from name i on
unfoldable pub names_from : List ℕ → List ℕ → ℕ → ℕ → List (List ℕ)
names_from text bounds i zero = []
names_from text bounds i (suc k) = name_at text bounds i ∷ names_from text bounds (suc i) k

abbrev pub names_in : List ℕ → List ℕ → ℕ → List (List ℕ)
names_in text bounds count = names_from text bounds 0 count

pub record NamesStand (text bounds : List ℕ) (count : ℕ) : Type 0 where
  pub room : 2 * count ≤ length bounds
  pub at_most_seven : count ≤ 7
  pub spans : (i : ℕ) → i < count → (get_or bounds (2 * i) 0 ≤ get_or bounds (2 * i + 1) 0) × (get_or bounds (2 * i + 1) 0 ≤ length text)

-- the number of a name, where it is one of so many
abbrev pub IndexOf : Math.Option ℕ → ℕ → Option ℕ → Type 0
IndexOf found count (Some r) = (r < count) × (found ≡ some r)
IndexOf found count None = found ≡ none
