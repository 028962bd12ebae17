-- A table and a word that have passed their checks.
use Rattle.std.specs.Prelude.{ℕ, ◌≤◌, ◌≡◌, true, List}
use Rattle.scope.specs.Words.{letters_fit}
use Rattle.scope.specs.Running.{table_fits}
use Rattle.scope.specs.Sizes.{most_variables}

pub record TableRuns (n : ℕ) (cells word : List ℕ) : Type 0 where
  pub small : n ≤ most_variables
  pub table : table_fits n cells ≡ true
  pub letters : letters_fit n word ≡ true
