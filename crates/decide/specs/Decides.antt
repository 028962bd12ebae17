-- What deciding leaves: its answer and each lent buffer are those of a `Decided` of document 01's definitions.
use Rattle.std.specs.Prelude.{◌≡◌, List, ℕ, ℤ, Err, Result, Ok, is_ok}
use Rattle.std.proofs.Math.Path.{refl, ap, subst}
use Rattle.scope.specs.declared.Question.{Question}
use Rattle.scope.specs.declared.Decision.{Decision}
use Rattle.scope.specs.declared.Refusal.{Refusal}
use Rattle.scope.specs.Wire.{read_held, question_held}
use Rattle.scope.specs.Deciding.{Decided, decided_question, decided}
use Rattle.theory.specs.Wire.Accepted.{WithinLimits, accepted_within}

pub record Decides (d : Decided) (answer₁ : Result Decision Refusal) (keys₁ : List ℤ) (path₁ word₁ : List ℕ) : Type 0 where
  pub answer : answer₁ ≡ d.answer
  pub keys : keys₁ ≡ d.keys
  pub path : path₁ ≡ d.path
  pub word : word₁ ≡ d.word

-- ---- by whether the bytes are accepted

module _ (bytes : List ℕ) (keys : List ℤ) (path word : List ℕ) where
  pub decides_refused : (r : Refusal) → read_held bytes ≡ Err r → Decides (decided bytes keys path word) (Err r) keys path word
  unfolding decided
  decides_refused r e = rw e record { answer = refl; keys = refl; path = refl; word = refl }

  module _ (q : Question) (accepted : read_held bytes ≡ Ok q) where
    pub within_limits_lem : WithinLimits q
    within_limits_lem = subst (λ (a : Result Question Refusal). WithinLimits (question_held a)) accepted (accepted_within bytes (ap is_ok accepted))

    pub decides_accepted : {answer₁ : Result Decision Refusal} {keys₁ : List ℤ} {path₁ word₁ : List ℕ}
        → Decides (decided_question q keys path word) answer₁ keys₁ path₁ word₁ → Decides (decided bytes keys path word) answer₁ keys₁ path₁ word₁
    unfolding decided
    decides_accepted d = rw accepted d
