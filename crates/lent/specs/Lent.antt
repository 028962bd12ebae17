-- The parts of a held question in buffers that a caller lends: cells from the front on, as many as there are on both sides.
use Rattle.std.specs.Prelude.{ℕ, ◌≡◌, List, ℤ, Ok, Err, Result}
use Rattle.std.proofs.lemmas.List.Edits.{sets}
use Rattle.scope.specs.declared.Question.{Question}
use Rattle.scope.specs.declared.Refusal.{Refusal}
use Rattle.scope.specs.Question.{empty_question}

pub record PartsCopied (codes : List ℕ) (coefficients constants : List ℤ) (codes₀ : List ℕ) (coefficients₀ constants₀ : List ℤ) (codes₁ : List ℕ) (coefficients₁ constants₁ : List ℤ) : Type 0 where
  pub codes_put : codes₁ ≡ sets codes₀ 0 codes
  pub coefficients_put : coefficients₁ ≡ sets coefficients₀ 0 coefficients
  pub constants_put : constants₁ ≡ sets constants₀ 0 constants

-- a part of the question that reading gave, in a lent buffer: refused, the buffer as it was
abbrev pub part_into : {A : Type 0} → Result Question Refusal → (Question → List A) → List A → List A
part_into (Ok q) part lent = sets lent 0 (part q)
part_into (Err r) part lent = lent

pub record PartsInto (h : Result Question Refusal) (codes₀ : List ℕ) (coefficients₀ constants₀ : List ℤ) (codes₁ : List ℕ) (coefficients₁ constants₁ : List ℤ) : Type 0 where
  pub codes : codes₁ ≡ part_into h (λ (q : Question). q.codes) codes₀
  pub coefficients : coefficients₁ ≡ part_into h (λ (q : Question). q.coefficients) coefficients₀
  pub constants : constants₁ ≡ part_into h (λ (q : Question). q.constants) constants₀

-- the question of lent parts: a cell that is not lent is as in the empty question, 0
abbrev pub lent_question : ℕ → List ℕ → List ℤ → List ℤ → Question
lent_question n codes coefficients constants = record {
  n = n;
  codes = sets empty_question.codes 0 codes;
  coefficients = sets empty_question.coefficients 0 coefficients;
  constants = sets empty_question.constants 0 constants;
}
