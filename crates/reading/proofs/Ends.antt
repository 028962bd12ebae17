-- The head before the formula, and what is left after the end.
use mathlib.Core.Path.{◌≡◌, refl, sym, ap, ◌∙◌}
use mathlib.Core.Option.{Option, none, some}
use mathlib.Core.List.{List}
use Prim.Native.Nat.{ℕ, ◌+◌, ◌<◌, ◌≤◌}
use native.Mathlib.Omega.{arith}
use borrow.Author.Tests.{le-leb, lt-leb}
use lib.ListN.{length}
use Rattle.scope.specs.declared.Rule.{Rule}
use Rattle.scope.specs.declared.Refusal.{Refusal}
use Rattle.scope.specs.Sizes.{most_variables, most_nodes}
use Rattle.scope.specs.Refusals.{unless_refused, refusal, first_refusal, Progress, stopped, going, ended, or_stopped, onward}
use Rattle.scope.specs.Wire.{Reading, Ended, byte_at, head_checks, after_head, head_read, record_read, read_from, whole_read, held_of, read_held}
use Rattle.theory.specs.Wire.Checks.{Passed, none_passed, onward_stopped}
use Rattle.records.proofs.Bounds.{few_variables}
use Rattle.std.specs.Prelude.{Ok, Err}
use Rattle.reading.specs.Steps.{head_answer}
use Rattle.reading.specs.Answers.{formula_read}
use Rattle.reading.proofs.Framed.{frame_within}

-- ---- the head

head_none : (o : Option Refusal) (m n : ℕ) → unless_refused o m ≡ Ok n → (o ≡ none) × (n ≡ m)
head_none none m n e = (refl, cc)
head_none (some r) m n e = let z : ◌≡◌ {A = ℕ} 0 1 = cc in absurd (omega arith)

head_some : (o : Option Refusal) (m : ℕ) (r : Refusal) → unless_refused o m ≡ Err r → o ≡ some r
head_some none m r e = let z : ◌≡◌ {A = ℕ} 0 1 = cc in absurd (omega arith)
head_some (some s) m r e = cc

module _ (b : List ℕ) (at : ℕ) where
  abbrev read : Option Refusal → Progress Reading Ended
  read o = onward (most_nodes + 1) (record_read b) (or_stopped o (going (after_head b at)))

  pub head_stops : (r : Refusal) → head_answer b at ≡ Err r → stopped r ≡ read_from b at
  unfolding read_from head_read
  head_stops r e = sym (ap read (head_some (first_refusal (head_checks b at)) (byte_at b (at + 4)) r e) ∙ onward_stopped (most_nodes + 1) (record_read b) r)

  module _ (n : ℕ) (e : head_answer b at ≡ Ok n) where
    said : (first_refusal (head_checks b at) ≡ none) × (n ≡ byte_at b (at + 4))
    said = head_none (first_refusal (head_checks b at)) (byte_at b (at + 4)) n e

    head_passed : Passed (head_checks b at)
    head_passed = none_passed (head_checks b at) said.0

    pub head_within : at + 5 ≤ length b
    head_within = omega (arith, frame_within b at 1 head_passed.1.1.0 head_passed.1.1.1.0)

    pub head_few : n ≤ most_variables
    head_few = rw said.1 (few_variables (byte_at b (at + 4)) head_passed.1.1.1.1.0)

    pub head_goes : formula_read b n (at + 5) ≡ read_from b at
    unfolding read_from head_read
    head_goes = ap (λ (m : ℕ). formula_read b m (at + 5)) said.1 ∙ sym (ap read said.0)

-- ---- after the end

module _ (b : List ℕ) where
  pub not_read : (r : Refusal) → read_from b 0 ≡ stopped r → read_held b ≡ Err r
  unfolding read_held whole_read
  not_read r e = ap (λ (p : Progress Reading Ended). held_of (whole_read b p)) e

  module _ (e : Ended) (p : read_from b 0 ≡ ended e) where
    pub left_over : e.next < length b → read_held b ≡ Err (refusal Rule.LeftOver e.next)
    unfolding read_held whole_read first_refusal
    left_over h = ap (λ (q : Progress Reading Ended). held_of (whole_read b q)) p ∙ rw (lt-leb (length b) e.next h)

    pub all_read : length b ≤ e.next → read_held b ≡ Ok e.question
    unfolding read_held whole_read first_refusal
    all_read h = ap (λ (q : Progress Reading Ended). held_of (whole_read b q)) p ∙ rw (le-leb (length b) e.next h)
