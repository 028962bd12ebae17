-- What a caller of `tell` learns: where the buffer has room for every text, its front is the text; and of a found word, document 01's test for its values.
use Rattle.std.specs.Prelude.{ℕ, ◌≤◌, ◌<◌, ◌≡◌, true, List, ◌++◌, length, take, drop, Result}
use Rattle.std.proofs.Common.{arith, ap, length-append}
use Rattle.std.proofs.Math.Seq.{take-append_seam}
use borrow.Author.Tests.{le-leb, lt-leb}
use Rattle.scope.specs.declared.Refusal.{Refusal}
use Rattle.scope.specs.declared.Decision.{Decision}
use Rattle.scope.specs.Whole.{at_front}
use Rattle.scope.specs.Sizes.{variables_fit}
use Rattle.scope.specs.Refusals.{first_refusal}
use Rattle.scope.specs.Words.{Word, letters_fit, spelled, spelt}
use Rattle.theory.specs.Numbers.Tests.{from_one}
use Rattle.told.specs.Values.{Spellable, spelt_value}
use Rattle.told.specs.Text.{ascii, numbers, values_said, longest, text_of, Telling, telling, told, TextTells}

-- a text that has room stands at the front
pub told_whole : (n : ℕ) (answer : Result Decision Refusal) (word out : List ℕ) (r : ℕ) (l : List ℕ) → TextTells n answer word out r l → longest ≤ length out
    → (r ≡ length (text_of n answer word)) × (take r l ≡ text_of n answer word) × (r ≤ length l)
unfolding told at_front
told_whole n answer word out r l t h =
    let text = text_of n answer word in
    let e : telling r l ≡ telling (length text) (text ++ drop (length text) out) = rw (le-leb (length text) (length out) (t.room h)) at t.is in
    let a : r ≡ length text = ap (λ (k : Telling). k.answer) e in
    let b : l ≡ text ++ drop (length text) out = ap (λ (k : Telling). k.out) e in
    (a, rw (a, b) (take-append_seam text (drop (length text) out)), omega (arith, ap length b, length-append text (drop (length text) out)))

-- ---- a word that n and its letters fit, as those of a found word do

module _ (n : ℕ) (w : Word) (variables : variables_fit n ≡ true) (letters : letters_fit n w ≡ true) where
  -- up to 64 letters, the values
  pub values_spelled : length w ≤ 64 → values_said n w ≡ numbers (spelled n w)
  values_spelled h =
      let s : Spellable n w = record { variables = variables; letters = letters; short = le-leb (length w) 64 h } in
      rw (spelt_value n 1 w s (omega arith) (from_one n 6 variables).0)

  -- above them, long
  pub values_long : 64 < length w → values_said n w ≡ ascii " long"
  unfolding spelt first_refusal
  values_long h = rw (variables, le-leb 1 n (from_one n 6 variables).0, letters, lt-leb (length w) 64 h)
