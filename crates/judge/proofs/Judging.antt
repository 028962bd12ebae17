-- The answers of judging, by the first check that fails.
use Prim.Native.Nat.{ℕ}
use mathlib.Core.Path.{◌≡◌, sym, ap, ◌∙◌, subst}
use mathlib.Core.Bool.{Bool, true, false}
use mathlib.Core.List.{List}
use lib.ListN.{length}
use lib.Dec.{leb}
use borrow.Author.Tests.{eq-eqb, ne_eqb, leb-true}
use Rattle.std.specs.Prelude.{Err, Result, Ok, is_ok}
use Rattle.scope.specs.declared.Rule.{Rule}
use Rattle.scope.specs.declared.Question.{Question}
use Rattle.scope.specs.declared.Refusal.{Refusal}
use Rattle.std.specs.List.{list_all}
use Rattle.scope.specs.Sizes.{most_value}
use Rattle.scope.specs.Refusals.{refusal, first_refusal}
use Rattle.scope.specs.Wire.{read_held, question_held}
use Rattle.scope.specs.States.{satisfied}
use Rattle.scope.specs.Judging.{judged_question, judged_by, judged}
use Rattle.theory.specs.Wire.Accepted.{WithinLimits, accepted_within}
use Rattle.theory.specs.Numbers.Tests.{all_each}
use Rattle.judge.specs.Atoms.{Judgeable}

pub values_tested : (values : List ℕ) {b t : Bool} → b ≡ list_all (λ (v : ℕ). leb v most_value) values → b ≡ t → list_all (λ (v : ℕ). leb v most_value) values ≡ t
values_tested values e h = sym e ∙ h

module _ (q : Question) (values : List ℕ) where
  pub judged_miscounted : (length values ≡ q.n → ⊥) → judged_question q values ≡ Err (refusal Rule.Values 0)
  unfolding judged_question first_refusal
  judged_miscounted a = rw (ne_eqb (length values) q.n a)

  pub judged_large : length values ≡ q.n → list_all (λ (v : ℕ). leb v most_value) values ≡ false → judged_question q values ≡ Err (refusal Rule.Values 0)
  unfolding judged_question first_refusal
  judged_large a b = rw (eq-eqb (length values) q.n a, b)

  pub judged_truth : (t : Bool) → length values ≡ q.n → list_all (λ (v : ℕ). leb v most_value) values ≡ true → satisfied q values ≡ t → judged_question q values ≡ Ok t
  unfolding judged_question first_refusal
  judged_truth t a b c = rw (eq-eqb (length values) q.n a, b, c)

  pub judgeable : WithinLimits q → length values ≡ q.n → list_all (λ (v : ℕ). leb v most_value) values ≡ true → Judgeable q values
  judgeable w a b = record { limits = w; count = a; small = λ i h. leb-true _ _ (all_each (λ (v : ℕ). leb v most_value) values 0 b i h) }

-- ---- by the bytes

module _ (b values : List ℕ) where
  pub judged_accepted : (q : Question) → read_held b ≡ Ok q → judged b values ≡ judged_question q values
  unfolding judged
  judged_accepted q e = ap (λ (a : Result Question Refusal). judged_by a values) e

  pub judged_refused : (r : Refusal) → read_held b ≡ Err r → judged b values ≡ Err r
  unfolding judged
  judged_refused r e = ap (λ (a : Result Question Refusal). judged_by a values) e

pub read_within : (b : List ℕ) (q : Question) → read_held b ≡ Ok q → WithinLimits q
read_within b q e = subst (λ (a : Result Question Refusal). WithinLimits (question_held a)) e (accepted_within b (ap is_ok e))
