-- The numbers of an atom and the values, small enough that their sum of products fits 64 bits.
use Rattle.std.specs.Prelude.{ℕ, ◌+◌, ◌≤◌, ◌<◌, ◌≡◌, List, length, get_or, take, drop, ℤ, pos, nat_abs}
use Rattle.scope.specs.Sizes.{most_coefficient, most_value, most_coefficients, most_variables}

-- the coefficients from a place on, one for each value
abbrev pub coefficients_from : List ℤ → ℕ → List ℕ → List ℤ
coefficients_from coefficients at values = take (length values) (drop at coefficients)

pub record Summable (coefficients : List ℤ) (at : ℕ) (values : List ℕ) : Type 0 where
  pub few : length values ≤ most_variables
  pub within : at + length values ≤ most_coefficients
  pub whole : length coefficients ≡ most_coefficients
  pub coefficient : (j : ℕ) → j < length values → nat_abs (get_or coefficients (at + j) (pos 0)) ≤ most_coefficient
  pub value : (j : ℕ) → j < length values → get_or values j 0 ≤ most_value
