-- A number of variables that fits.
use Prim.Native.Nat.{ℕ, ◌≤◌}
use lib.Dec.{T, leb, leb→le}
use Rattle.scope.specs.Sizes.{most_variables, variables_fit}
use Rattle.theory.specs.Wire.Checks.{and_second}

pub few_variables : (n : ℕ) → T (variables_fit n) → n ≤ most_variables
few_variables n t = leb→le n most_variables (and_second (leb 1 n) (leb n most_variables) t)
