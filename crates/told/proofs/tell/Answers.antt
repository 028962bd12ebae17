-- `told::tell` meets its contract: the text goes to the front of the buffer where it has room. Assumes nothing.
use Prim.Native.Nat.{ℕ, ◌≤◌, ◌<◌}
use native.Mathlib.Omega.{arith}
use mathlib.Core.Path.{◌≡◌, ◌∙◌}
use mathlib.Core.List.{List, ◌++◌}
use lib.ListN.{length, take, drop}
use borrow.Author.Tests.{le-leb, lt-leb}
use Rattle.std.specs.Prelude.{Result}
use Rattle.scope.specs.declared.Refusal.{Refusal}
use Rattle.scope.specs.declared.Decision.{Decision}
use Rattle.scope.specs.Whole.{at_front}
use Rattle.told.specs.Text.{text_of, TextTells, telling, told, longest}
use Rattle.told.specs.Writers.{Put}
use Rattle.told.proofs.tell.Goals as goal

module _ (n : ℕ) (answer : Result Decision Refusal) (word out before after : List ℕ) (r : ℕ) (p : Put (text_of n answer word) 0 before r after) where
  text_length : r ≡ length (text_of n answer word)
  text_length = omega (arith, p.ends)

  too_short : length out < r → telling 0 out ≡ told n answer word out
  unfolding told
  too_short h = rw (lt-leb (length (text_of n answer word)) (length out) (omega (arith, text_length)))

  has_room : r ≤ length out → (l : List ℕ) → l ≡ take r after → telling r (l ++ drop r out) ≡ told n answer word out
  unfolding told at_front
  has_room h l e =
      let f : l ≡ text_of n answer word = e ∙ p.front in
      rw (f, text_length, le-leb (length (text_of n answer word)) (length out) (omega (arith, text_length)))

  tells : r ≤ longest → {k : ℕ} {l : List ℕ} → telling k l ≡ told n answer word out → TextTells n answer word out k l
  tells h e = record { is = e; room = λ g. omega (arith, text_length) }

pub returns-then-out-length : goal.returns-then-out-length
returns-then-out-length c =
    let p = c.put_text-length in
    tells c.args.n c.args.answer c.args.word.now c.args.out.now _ _ p.result p.ensures.0 p.ensures.1
    (too_short c.args.n c.args.answer c.args.word.now c.args.out.now _ _ p.result p.ensures.0 (omega arith))

pub returns : goal.returns
returns c =
    let p = c.put_text-length in
    tells c.args.n c.args.answer c.args.word.now c.args.out.now _ _ p.result p.ensures.0 p.ensures.1
    (has_room c.args.n c.args.answer c.args.word.now c.args.out.now _ _ p.result p.ensures.0 c.if-out-length.false _ c.copy_from_slice.ensures.after)
