-- The answers of running, by the first check that fails.
use Prim.Native.Nat.{ℕ, ◌^◌}
use mathlib.Core.Path.{◌≡◌, ap, ◌∙◌}
use lib.Dec.{ltb}
use mathlib.Core.Bool.{Bool, true, false}
use mathlib.Core.List.{List}
use Rattle.std.specs.Prelude.{Ok, Err}
use Rattle.scope.specs.declared.Rule.{Rule}
use Rattle.std.specs.List.{list_all}
use Rattle.std.specs.List.{list_all}
use Rattle.scope.specs.Sizes.{variables_fit}
use Rattle.scope.specs.Refusals.{refusal, first_refusal}
use Rattle.scope.specs.Words.{Word, letters_fit}
use Rattle.scope.specs.Running.{table_fits, says_yes, ran}

pub letters_tested : {b : Bool} {limit : ℕ} (n : ℕ) (w : Word) → b ≡ list_all (λ (letter : ℕ). ltb letter limit) w → limit ≡ 2 ^ n → b ≡ letters_fit n w
letters_tested {b} {limit} n w e f = e ∙ ap (λ (limit : ℕ). list_all (λ (letter : ℕ). ltb letter limit) w) f

module _ (n : ℕ) (cells : List ℕ) (w : Word) where
  pub ran_no_variables : variables_fit n ≡ false → ran n cells w ≡ Err (refusal Rule.BeyondLimit 0)
  unfolding ran first_refusal
  ran_no_variables a = rw a

  pub ran_no_table : variables_fit n ≡ true → table_fits n cells ≡ false → ran n cells w ≡ Err (refusal Rule.Table 0)
  unfolding ran first_refusal
  ran_no_table a b = rw (a, b)

  pub ran_no_letter : variables_fit n ≡ true → table_fits n cells ≡ true → letters_fit n w ≡ false → ran n cells w ≡ Err (refusal Rule.Letter 0)
  unfolding ran first_refusal
  ran_no_letter a b c = rw (a, b, c)

  pub ran_truth : (t : Bool) → variables_fit n ≡ true → table_fits n cells ≡ true → letters_fit n w ≡ true → says_yes n cells w ≡ t → ran n cells w ≡ Ok t
  unfolding ran first_refusal
  ran_truth t a b c d = rw (a, b, c, d)
