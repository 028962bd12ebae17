-- The outcomes of writing: refused, too short a buffer, and the bytes at the buffer's front.
use mathlib.Core.Path.{◌≡◌, refl, sym, ap, ◌∙◌}
use mathlib.Core.Bool.{Bool, true, false}
use mathlib.Core.List.{List, [], ◌++◌}
use Prim.Native.Nat.{ℕ, ◌+◌, ◌<◌, ◌≤◌}
use native.Mathlib.Omega.{arith}
use borrow.Author.Tests.{le-leb, lt-leb}
use lib.Dec.{leb}
use lib.ListN.{length, drop, length-append}
use lib.Seq.{sets, sets-eq}
use Rattle.std.specs.Prelude.{Ok, Err, Result}
use Rattle.scope.specs.declared.Rule.{Rule}
use Rattle.scope.specs.declared.Question.{Question}
use Rattle.scope.specs.declared.Refusal.{Refusal}
use Rattle.scope.specs.Whole.{at_front}
use Rattle.scope.specs.Refusals.{refusal, Progress, stopped, ended}
use Rattle.scope.specs.Wire.{Shape, end_kind}
use Rattle.scope.specs.Writing.{record_bytes, Walk, written, Wrote, fitted, wrote_of, wrote}
use Rattle.writing.specs.declared.checks.Formula.{Formula}
use Rattle.writing.specs.Writes.{Writes, bytes_to, FormulaIs}

by_outcome : (q : Question) (before : List ℕ) (r : Result ℕ Refusal) (after : List ℕ) (o : Wrote) → wrote q before ≡ o → r ≡ o.answer → after ≡ o.buffer → Writes q before r after
by_outcome q before r after o e a f = record { answer = a ∙ ap (λ (w : Wrote). w.answer) (sym e); buffer = f ∙ ap (λ (w : Wrote). w.buffer) (sym e) }

pub writes_refused : (q : Question) (before : List ℕ) (r : Refusal) → written q ≡ stopped r → Writes q before (Err r) before
unfolding wrote
writes_refused q before r e = by_outcome q before (Err r) before _ (ap (λ (p : Progress Walk Walk). wrote_of p before) e) refl refl

module _ (q : Question) (before : List ℕ) (f : Formula) (shape : Shape) (is : FormulaIs q f)
    (e : written q ≡ ended (record { shape = shape; bytes = bytes_to q f.nodes ++ record_bytes end_kind [] })) where
  abbrev bytes : List ℕ
  bytes = bytes_to q f.nodes ++ record_bytes end_kind []

  long : length bytes ≡ f.len + 4
  long = omega (arith, length-append (bytes_to q f.nodes) (record_bytes end_kind []), is.len_is)

  outcome : (t : Bool) → leb (length bytes) (length before) ≡ t → wrote q before ≡ fitted t bytes before
  unfolding wrote
  outcome t h = ap (λ (p : Progress Walk Walk). wrote_of p before) e ∙ ap (λ (v : Bool). fitted v bytes before) h

  pub writes_short : length before < f.len + 4 → Writes q before (Err (refusal Rule.TooShort 0)) before
  writes_short h = by_outcome q before (Err (refusal Rule.TooShort 0)) before _ (outcome false (lt-leb (length bytes) (length before) (omega (arith, long)))) refl refl

  at_front_lem : f.len + 4 ≤ length before → sets before 0 bytes ≡ at_front bytes before
  unfolding at_front
  at_front_lem h =
      let z : 0 + length bytes ≡ length bytes = omega arith in
      let k : 0 + length bytes ≤ length before = omega (arith, long) in
      sets-eq bytes before 0 k ∙ ap (λ (i : ℕ). bytes ++ drop i before) z

  pub writes_all : f.len + 4 ≤ length before → (after : List ℕ) → after ≡ sets before 0 bytes → Writes q before (Ok (f.len + 4)) after
  writes_all h after g = by_outcome q before (Ok (f.len + 4)) after _ (outcome true (le-leb (length bytes) (length before) (omega (arith, long))))
      (ap Ok (sym long)) (g ∙ at_front_lem h)
