-- What is answered of the numbers of a held atom, by whether its row and its constant are within their limits.
use mathlib.Core.Path.{◌≡◌, refl, sym, ap, ◌∙◌}
use mathlib.Core.Bool.{Bool, true, false}
use mathlib.Core.Option.{Option}
use mathlib.Core.List.{List, [], ◌∷◌}
use Prim.Native.Nat.{ℕ, ◌*◌}
use lib.IntN.{ℤ, pos}
use lib.ListN.{get_or, take, drop}
use Rattle.scope.specs.declared.Rule.{Rule}
use Rattle.scope.specs.declared.Question.{Question}
use Rattle.scope.specs.declared.Refusal.{Refusal}
use Rattle.std.specs.List.{list_all}
use Rattle.scope.specs.Sizes.{most_variables, coefficient_fits, constant_fits}
use Rattle.scope.specs.Question.{coefficients_of, constant_of}
use Rattle.scope.specs.Refusals.{unless_refused, check, refusal, first_refusal}
use Rattle.scope.specs.Wire.{field_checks}
use Rattle.theory.specs.Wire.Fields.{row_beyond, row_within}
use Rattle.std.specs.Prelude.{Result, Ok, Err}
use Rattle.records.proofs.Checks.{first_failed, first_passed}
use Rattle.fields.specs.Fields.{numbers_answer}
use Rattle.std.specs.List.{list_all}

-- the two words for a test that all pass
pub all_said : (f : ℤ → Bool) (l : List ℤ) → list_all f l ≡ list_all f l
all_said f [] = refl
all_said f (z ∷ l) = rw (all_said f l) refl

module _ (q : Question) (a node code : ℕ) where
  abbrev answered : Option Refusal → Result ℕ Refusal
  answered o = unless_refused o code

  pub held_coefficient_beyond : list_all coefficient_fits (take q.n (drop (most_variables * a) q.coefficients)) ≡ false → Err (refusal Rule.CoefficientBeyond node) ≡ numbers_answer q a node code
  unfolding coefficients_of
  held_coefficient_beyond e = sym (ap answered (row_beyond node (constant_of q a) (coefficients_of q a) e))

  module _ (e : list_all coefficient_fits (take q.n (drop (most_variables * a) q.coefficients)) ≡ true) where
    last_field : first_refusal (field_checks node 0 (coefficients_of q a) (constant_of q a)) ≡ first_refusal (check Rule.ConstantBeyond node (constant_fits (constant_of q a)) ∷ [])
    unfolding coefficients_of
    last_field = row_within node (constant_of q a) (coefficients_of q a) e

    pub held_constant_beyond : constant_fits (get_or q.constants a (pos 0)) ≡ false → Err (refusal Rule.ConstantBeyond node) ≡ numbers_answer q a node code
    unfolding constant_of
    held_constant_beyond f = sym (ap answered (last_field ∙ first_failed Rule.ConstantBeyond node (constant_fits (constant_of q a)) [] f))

    pub numbers_within : constant_fits (get_or q.constants a (pos 0)) ≡ true → Ok code ≡ numbers_answer q a node code
    unfolding constant_of first_refusal
    numbers_within f = sym (ap answered (last_field ∙ first_passed Rule.ConstantBeyond node (constant_fits (constant_of q a)) [] f))
