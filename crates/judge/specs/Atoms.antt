-- The atoms of a question as the judge goes through them: where the next one stands, and what each is worth to the values.
use Rattle.std.specs.Prelude.{ℕ, ◌≤◌, ◌<◌, ◌≡◌, Bool, false, List, map, length, get_or}
use Rattle.scope.specs.declared.Question.{Question}
use Rattle.scope.specs.Sizes.{most_value, most_atoms}
use Rattle.scope.specs.Question.{Atom, atoms_of}
use Rattle.scope.specs.States.{holds}
use Rattle.theory.specs.Wire.Accepted.{WithinLimits}

-- an accepted question, and values that the judge takes
pub record Judgeable (q : Question) (values : List ℕ) : Type 0 where
  pub limits : WithinLimits q
  pub count : length values ≡ q.n
  pub small : (j : ℕ) → j < length values → get_or values j 0 ≤ most_value

-- what each atom is worth to the values, false behind the last
pub record Worths (q : Question) (values : List ℕ) (worths : List Bool) : Type 0 where
  pub whole : length worths ≡ most_atoms
  pub alike : (i : ℕ) → get_or worths i false ≡ get_or (map (λ (a : Atom). holds a values) (atoms_of q)) i false
