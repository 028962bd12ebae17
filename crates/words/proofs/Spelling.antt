-- The answers of spelling, by the first check that fails.
use Prim.Native.Nat.{ℕ, ◌-◌}
use mathlib.Core.Path.{◌≡◌}
use mathlib.Core.Bool.{true, false, ◌&&◌}
use lib.ListN.{length}
use lib.Dec.{leb}
use Rattle.std.specs.Prelude.{Ok, Err}
use Rattle.scope.specs.declared.Rule.{Rule}
use Rattle.scope.specs.Sizes.{variables_fit}
use Rattle.scope.specs.Refusals.{refusal, first_refusal}
use Rattle.scope.specs.Words.{Word, value, spelt, letters_fit}

module _ (n variable : ℕ) (w : Word) where
  pub spelt_no_variables : variables_fit n ≡ false → spelt n variable w ≡ Err (refusal Rule.BeyondLimit 0)
  unfolding spelt first_refusal
  spelt_no_variables a = rw a

  pub spelt_no_variable : variables_fit n ≡ true → leb 1 variable && leb variable n ≡ false → spelt n variable w ≡ Err (refusal Rule.BeyondLimit 0)
  unfolding spelt first_refusal
  spelt_no_variable a b = rw (a, b)

  pub spelt_no_letter : variables_fit n ≡ true → leb 1 variable && leb variable n ≡ true → letters_fit n w ≡ false → spelt n variable w ≡ Err (refusal Rule.Letter 0)
  unfolding spelt first_refusal
  spelt_no_letter a b c = rw (a, b, c)

  pub spelt_long : variables_fit n ≡ true → leb 1 variable && leb variable n ≡ true → letters_fit n w ≡ true → leb (length w) 64 ≡ false → spelt n variable w ≡ Err (refusal Rule.Values 0)
  unfolding spelt first_refusal
  spelt_long a b c d = rw (a, b, c, d)

  pub spelt_value : variables_fit n ≡ true → leb 1 variable && leb variable n ≡ true → letters_fit n w ≡ true → leb (length w) 64 ≡ true → spelt n variable w ≡ Ok (value w (variable - 1))
  unfolding spelt first_refusal
  spelt_value a b c d = rw (a, b, c, d)
