-- The checks of a record's frame by what is there, whatever is looked at later; and the records that are a frame and little more: the head, the end.
use mathlib.Core.Path.{◌≡◌, refl, sym, ap, ◌∙◌}
use mathlib.Core.Bool.{Bool, true, false}
use mathlib.Core.Option.{Option, none, some}
use mathlib.Core.List.{List, [], ◌∷◌, ◌++◌}
use Prim.Native.Nat.{ℕ, ◌+◌, ◌<◌, ◌≤◌}
use native.Mathlib.Omega.{arith}
use borrow.Author.Tests.{le-leb, lt-leb, eq-eqb, ne_eqb}
use lib.ListN.{length}
use lib.Dec.{T, eqb, eqb→eq, leb→le}
use Rattle.scope.specs.declared.Rule.{Rule}
use Rattle.scope.specs.declared.Refusal.{Refusal}
use Rattle.scope.specs.Sizes.{variables_fit}
use Rattle.scope.specs.Refusals.{unless_refused, Check, refusal, unless_passed, first_refusal}
use Rattle.scope.specs.Wire.{byte_at, kind_at, length_at, header_there, body_there, frame_checks, head_kind, end_kind}
use Rattle.theory.specs.Wire.Checks.{none_passed}
use Rattle.records.proofs.Checks.{first_failed, first_passed}
use Rattle.reading.specs.Steps.{frame_or, frame_answer, head_answer}
use Rattle.reading.specs.Answers.{end_answer}
use Rattle.std.specs.Prelude.{Result, Ok, Err}

-- ---- more checks after some

abbrev or_else : Option Refusal → Option Refusal → Option Refusal
or_else none later = later
or_else (some r) later = some r

or_unless : (t : Bool) (r : Refusal) (a d : Option Refusal) → unless_passed t r (or_else a d) ≡ or_else (unless_passed t r a) d
or_unless true r a d = refl
or_unless false r a d = refl

first_append : (cs ds : List Check) → first_refusal (cs ++ ds) ≡ or_else (first_refusal cs) (first_refusal ds)
unfolding first_refusal
first_append [] ds = refl
first_append (c ∷ cs) ds = rw (first_append cs ds) (or_unless c.passed (refusal c.rule c.place) (first_refusal cs) (first_refusal ds))

-- ---- a frame

pub frame_within : (b : List ℕ) (at size : ℕ) → T (eqb (length_at b at) size) → T (body_there b at) → at + 4 + size ≤ length b
frame_within b at size l c = omega (arith, eqb→eq (length_at b at) size l, leb→le (at + 4 + length_at b at) (length b) c)

module _ (b : List ℕ) (at : ℕ) (due : Bool) (size : ℕ) (later : List Check) where
  pub frame_refused : (r : Refusal) → first_refusal (frame_checks b at due size []) ≡ some r → first_refusal (frame_checks b at due size later) ≡ some r
  frame_refused r e = first_append (frame_checks b at due size []) later ∙ ap (λ (o : Option Refusal). or_else o (first_refusal later)) e

  pub frame_passed : first_refusal (frame_checks b at due size []) ≡ none → first_refusal (frame_checks b at due size later) ≡ first_refusal later
  frame_passed e = first_append (frame_checks b at due size []) later ∙ ap (λ (o : Option Refusal). or_else o (first_refusal later)) e

  pub frame_short : length b < at + 4 → first_refusal (frame_checks b at due size later) ≡ some (refusal Rule.BytesEnd at)
  frame_short h = first_failed Rule.BytesEnd at (header_there b at) _ (lt-leb _ _ h)

  module _ (h : at + 4 ≤ length b) where
    pub frame_other : due ≡ false → first_refusal (frame_checks b at due size later) ≡ some (refusal Rule.NotDue at)
    frame_other d = first_passed Rule.BytesEnd at (header_there b at) _ (le-leb _ _ h) ∙ first_failed Rule.NotDue at due _ d

    module _ (d : due ≡ true) where
      pub frame_length : (length_at b at ≡ size → ⊥) → first_refusal (frame_checks b at due size later) ≡ some (refusal Rule.BodyLength at)
      frame_length l = first_passed Rule.BytesEnd at (header_there b at) _ (le-leb _ _ h)
          ∙ first_passed Rule.NotDue at due _ d
          ∙ first_failed Rule.BodyLength at (eqb (length_at b at) size) _ (ne_eqb (length_at b at) size l)

      module _ (l : length_at b at ≡ size) where
        pub frame_cut : length b < at + 4 + length_at b at → first_refusal (frame_checks b at due size later) ≡ some (refusal Rule.BytesEnd at)
        frame_cut c = first_passed Rule.BytesEnd at (header_there b at) _ (le-leb _ _ h)
            ∙ first_passed Rule.NotDue at due _ d
            ∙ first_passed Rule.BodyLength at (eqb (length_at b at) size) _ (eq-eqb (length_at b at) size l)
            ∙ first_failed Rule.BytesEnd at (body_there b at) later (lt-leb _ _ c)

        pub frame_there : at + 4 + length_at b at ≤ length b → first_refusal (frame_checks b at due size later) ≡ first_refusal later
        frame_there c = first_passed Rule.BytesEnd at (header_there b at) _ (le-leb _ _ h)
            ∙ first_passed Rule.NotDue at due _ d
            ∙ first_passed Rule.BodyLength at (eqb (length_at b at) size) _ (eq-eqb (length_at b at) size l)
            ∙ first_passed Rule.BytesEnd at (body_there b at) later (le-leb _ _ c)

pub no_checks : first_refusal [] ≡ none
unfolding first_refusal
no_checks = refl

-- ---- a frame's answer says what was refused

frame_none : (o : Option Refusal) → frame_or o ≡ Ok tt → o ≡ none
frame_none none e = refl
frame_none (some r) e = let z : ◌≡◌ {A = ℕ} 0 1 = cc in absurd (omega arith)

frame_some : (o : Option Refusal) (r : Refusal) → frame_or o ≡ Err r → o ≡ some r
frame_some none r e = let z : ◌≡◌ {A = ℕ} 0 1 = cc in absurd (omega arith)
frame_some (some s) r e = cc

module _ (b : List ℕ) (at due size : ℕ) where
  answer_none : frame_answer b at due size ≡ Ok tt → first_refusal (frame_checks b at (eqb (kind_at b at) due) size []) ≡ none
  answer_none e = frame_none (first_refusal (frame_checks b at (eqb (kind_at b at) due) size [])) e

  answer_some : (r : Refusal) → frame_answer b at due size ≡ Err r → first_refusal (frame_checks b at (eqb (kind_at b at) due) size []) ≡ some r
  answer_some r e = frame_some (first_refusal (frame_checks b at (eqb (kind_at b at) due) size [])) r e

  pub answer_within : frame_answer b at due size ≡ Ok tt → at + 4 + size ≤ length b
  answer_within e = let p = none_passed (frame_checks b at (eqb (kind_at b at) due) size []) (answer_none e) in frame_within b at size p.1.1.0 p.1.1.1.0

module _ (b : List ℕ) (at : ℕ) where
  -- ---- the head

  abbrev head : Option Refusal → Result ℕ Refusal
  head o = unless_refused o (byte_at b (at + 4))

  pub head_refused : (r : Refusal) → frame_answer b at head_kind 1 ≡ Err r → Err r ≡ head_answer b at
  head_refused r e = sym (ap head (frame_refused b at (eqb (kind_at b at) head_kind) 1 _ r (answer_some b at head_kind 1 r e)))

  module _ (e : frame_answer b at head_kind 1 ≡ Ok tt) where
    pub head_beyond : variables_fit (byte_at b (at + 4)) ≡ false → Err (refusal Rule.BeyondLimit at) ≡ head_answer b at
    head_beyond v = sym (ap head (frame_passed b at (eqb (kind_at b at) head_kind) 1 _ (answer_none b at head_kind 1 e) ∙ first_failed Rule.BeyondLimit at (variables_fit (byte_at b (at + 4))) [] v))

    pub head_there : variables_fit (byte_at b (at + 4)) ≡ true → Ok (byte_at b (at + 4)) ≡ head_answer b at
    head_there v = sym (ap head (frame_passed b at (eqb (kind_at b at) head_kind) 1 _ (answer_none b at head_kind 1 e) ∙ first_passed Rule.BeyondLimit at (variables_fit (byte_at b (at + 4))) [] v ∙ no_checks))

  -- ---- the end

  pub end_refused : (r : Refusal) → frame_answer b at end_kind 0 ≡ Err r → Err r ≡ end_answer b at
  end_refused r e = sym (ap (λ (o : Option Refusal). unless_refused o (at + 4)) (answer_some b at end_kind 0 r e))

  pub end_there : frame_answer b at end_kind 0 ≡ Ok tt → Ok (at + 4) ≡ end_answer b at
  end_there e = sym (ap (λ (o : Option Refusal). unless_refused o (at + 4)) (answer_none b at end_kind 0 e))
