-- Writing into a buffer: the bytes at its front are read back as the question, the rest is unchanged, and a refusal leaves all of it; a bare step over a record.
use Rattle.std.specs.Prelude.{◌≡◌, refl, Bool, true, false, List, ◌++◌, ℕ, ◌+◌, ◌≤◌, ◌<◌, T, leb, length, take, drop, Ok, Err, is_ok, Result}
use Rattle.std.proofs.Common.{sym, ap, ◌∙◌, subst, arith, leb→le, length-append, length-drop, take_at, drop_at}
use Rattle.scope.specs.declared.Rule.{Rule}
use Rattle.scope.specs.declared.Question.{Question}
use Rattle.scope.specs.declared.Refusal.{Refusal}
use Rattle.scope.specs.Whole.{at_front}
use Rattle.scope.specs.Refusals.{refusal, Progress, stopped, going, ended}
use Rattle.scope.specs.Wire.{record_at, read_held, record_checks}
use Rattle.scope.specs.Writing.{record_bytes, Walk, written, fitted, wrote_of, wrote}
use Rattle.scope.specs.Sizes.{most_bytes}
use Rattle.theory.specs.Wire.Checks.{passed_none}
use Rattle.theory.specs.Wire.Records.{record_length, record_kind, header_there_lem, body_there_lem}
use Rattle.theory.specs.Wire.Held.{Sized}
use Rattle.theory.specs.Wire.ReadWritten.{read_written}
use Rattle.theory.specs.Wire.WritingStopped.{never_half_written}
use Rattle.theory.specs.Wire.Answers.{accepted_short}

-- ---- a bare step

pub record_stepped : (b : List ℕ) (at kind : ℕ) (body rest : List ℕ) → drop at b ≡ record_bytes kind body ++ rest → kind < 65536 → length body < 65536
    → record_at b at ≡ Ok (record { kind = kind; start = at + 4; len = length body; next = at + 4 + length body })
unfolding record_at
record_stepped b at kind body rest e k l =
    rw (passed_none (record_checks b at) (header_there_lem b at kind body rest e, (body_there_lem b at kind body rest e l, tt)))
    (λ i. Ok (record { kind = record_kind b at kind body rest e k i; start = at + 4; len = record_length b at kind body rest e l i; next = at + 4 + record_length b at kind body rest e l i }))

-- ---- the length of what is written

pub written_short : (q : Question) (w : Walk) → Sized q → written q ≡ ended w → length w.bytes ≤ most_bytes
written_short q w z e = accepted_short w.bytes (ap is_ok (read_written q w z e))

-- ---- a buffer

pub record WroteBack (q : Question) (buffer after : List ℕ) (count : ℕ) : Type 0 where
  pub front : read_held (take count after) ≡ Ok q
  pub rest : drop count after ≡ drop count buffer
  pub room : count ≤ length buffer
  pub size : length after ≡ length buffer

front_back : (q : Question) (buffer : List ℕ) (w : Walk) → Sized q → written q ≡ ended w → length w.bytes ≤ length buffer
    → WroteBack q buffer (at_front w.bytes buffer) (length w.bytes)
unfolding at_front
front_back q buffer w z e h =
    let bytes : List ℕ = w.bytes in
    let later : List ℕ = drop (length bytes) buffer in
    record {
      front = ap read_held (take_at bytes later (length bytes) refl) ∙ read_written q w z e;
      rest = drop_at bytes later (length bytes) refl;
      room = h;
      size = length-append bytes later ∙ omega (arith, length-drop (length bytes) buffer);
    }

written_not_refused : (r : Refusal) (count : ℕ) → ◌≡◌ {A = Result ℕ Refusal} (Err r) (Ok count) → ⊥
written_not_refused r count e = let z : ◌≡◌ {A = ℕ} 0 1 = cc in omega arith

written_count : (a count : ℕ) → ◌≡◌ {A = Result ℕ Refusal} (Ok a) (Ok count) → a ≡ count
written_count a count e = cc

-- what was written is read back from the front of the buffer
pub wrote_back : (q : Question) (buffer : List ℕ) (count : ℕ) → Sized q → (wrote q buffer).answer ≡ Ok count → WroteBack q buffer (wrote q buffer).buffer count
unfolding wrote
wrote_back q buffer count z e = go (written q) refl e
  where
    fit : (w : Walk) → written q ≡ ended w → (t : Bool) → (T t → length w.bytes ≤ length buffer)
        → (fitted t w.bytes buffer).answer ≡ Ok count → WroteBack q buffer (fitted t w.bytes buffer).buffer count
    fit w x true h e = subst (WroteBack q buffer (at_front w.bytes buffer)) (written_count (length w.bytes) count e) (front_back q buffer w z x (h tt))
    fit w x false h e = absurd (written_not_refused (refusal Rule.TooShort 0) count e)

    go : (p : Progress Walk Walk) → written q ≡ p → (wrote_of p buffer).answer ≡ Ok count → WroteBack q buffer (wrote_of p buffer).buffer count
    go (stopped r) x e = absurd (written_not_refused r count e)
    go (going w) x e = absurd (never_half_written q w x)
    go (ended w) x e = fit w x (leb (length w.bytes) (length buffer)) (leb→le (length w.bytes) (length buffer)) e

-- a refusal leaves the buffer as it was
pub wrote_refused : (q : Question) (buffer : List ℕ) (r : Refusal) → (wrote q buffer).answer ≡ Err r → (wrote q buffer).buffer ≡ buffer
unfolding wrote
wrote_refused q buffer r e = go (written q) e
  where
    fit : (w : Walk) (t : Bool) → (fitted t w.bytes buffer).answer ≡ Err r → (fitted t w.bytes buffer).buffer ≡ buffer
    fit w true e = absurd (written_not_refused r (length w.bytes) (sym e))
    fit w false e = refl

    go : (p : Progress Walk Walk) → (wrote_of p buffer).answer ≡ Err r → (wrote_of p buffer).buffer ≡ buffer
    go (stopped t) e = refl
    go (going w) e = refl
    go (ended w) e = fit w (leb (length w.bytes) (length buffer)) e
