-- An atom's numbers as they are taken from a body, and what is answered of those of a held question.
use Rattle.std.specs.Prelude.{ℕ, ◌*◌, ◌<◌, ◌≡◌, List, length, set, ℤ, Option, Some, None, Result, Ok}
use Rattle.std.proofs.lemmas.List.Edits.{sets}
use Rattle.scope.specs.declared.Question.{Question}
use Rattle.scope.specs.declared.Refusal.{Refusal}
use Rattle.scope.specs.Sizes.{most_variables}
use Rattle.scope.specs.Question.{coefficients_of, constant_of}
use Rattle.scope.specs.Refusals.{unless_refused, first_refusal}
use Rattle.scope.specs.Wire.{field_checks}
use Rattle.theory.specs.Wire.Fields.{FitTo}

-- ---- from the bytes of a body

abbrev pub RowTaken : List ℤ → ℕ → List ℤ → Option ℕ → List ℤ → Type 0
RowTaken numbers cell before None after = FitTo numbers (length numbers) × (after ≡ sets before cell numbers)
RowTaken numbers cell before (Some i) after = FitTo numbers i × (i < length numbers)

pub record AtomTaken (row : List ℤ) (constant : ℤ) (start code atom : ℕ) (before : Question) (r : Result ℕ Refusal) (after : Question) : Type 0 where
  pub answer : r ≡ unless_refused (first_refusal (field_checks start 4 row constant)) code
  pub variables : after.n ≡ before.n
  pub codes : after.codes ≡ before.codes
  pub coefficients : (c : ℕ) → r ≡ Ok c → after.coefficients ≡ sets before.coefficients (most_variables * atom) row
  pub constants : after.constants ≡ set before.constants atom constant

-- ---- of a held question

-- the numbers of an atom, at its node
abbrev pub numbers_answer : Question → ℕ → ℕ → ℕ → Result ℕ Refusal
numbers_answer q atom node code = unless_refused (first_refusal (field_checks node 0 (coefficients_of q atom) (constant_of q atom))) code
