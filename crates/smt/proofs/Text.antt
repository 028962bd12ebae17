-- The text that `answer_to` gives, as its own contract has it: what its first line says of the text that was read, and that any two outcomes coincide.
use Prim.Native.Nat.{ℕ, ◌≤◌}
use mathlib.Core.Path.{◌≡◌, sym, ap, ◌∙◌}
use mathlib.Core.Logic.{◌↔◌}
use mathlib.Core.Bool.{true, false}
use mathlib.Core.List.{List, ◌++◌}
use lib.ListN.{length, take}
use lib.IntN.{ℤ}
use base.Fml.{Lft}
use denote.Ref.{Bor}
use denote.MutBor.{MutBor}
use Rattle.scope.specs.declared.Refusal.{Refusal}
use Rattle.scope.specs.Words.{Word, spelled}
use Rattle.smtlib.specs.Forms.{forms_of}
use Rattle.smtlib.specs.Meaning.{text_holds}
use Rattle.smtlib.specs.Names.{valued}
use Rattle.smtlib.specs.Accepted.{declared_names}
use Rattle.told.specs.Text.{ascii}
use Rattle.said.specs.Said.{error_line, model_lines}
use Rattle.importing.specs.Given.{names_given}
use Rattle.smt.specs.Solved.{names_count, solved}
use Rattle.smt.specs.Printed.{StartsWith, UnsatPrinted, SatPrinted, UnknownPrinted, ErrorPrinted, unsat_printed, sat_printed, unknown_printed, error_printed, error_line_lem, unsat_means, sat_model}
use Rattle.smt.proofs.answer_to.Reads as answer-to

module _ (κ μ : Lft) (text : Bor (List ℕ)) (out out₁ : MutBor (List ℕ)) (r : ℕ) (p : answer-to.Post (κ, (μ, tt)) (text, (out, tt)) r (text, (out₁, tt))) where
  -- the text is at the front of the buffer
  pub text_is : take r out₁.now ≡ solved text.now
  text_is = p.printed

  -- what is printed begins with `unsat` exactly if the text has at most 65,536 bytes, is accepted, its question has at most 8,191 reachable states and no naturals satisfy it
  pub prints_unsat : StartsWith (ascii "unsat\n") (take r out₁.now) ↔ UnsatPrinted text.now
  prints_unsat = rw text_is (unsat_printed text.now)

  -- then no integers satisfy the text
  pub unsat_no_integers : StartsWith (ascii "unsat\n") (take r out₁.now) → (v : List ℕ → ℤ) → text_holds v (forms_of text.now) ≡ false
  unsat_no_integers b = unsat_means text.now (prints_unsat.0 b)

  -- with `sat` exactly if it is accepted and a word is found in 8,191 states
  pub prints_sat : StartsWith (ascii "sat\n") (take r out₁.now) ↔ SatPrinted text.now
  prints_sat = rw text_is (sat_printed text.now)

  -- then the word's values satisfy the text, and where it has at most 64 letters they are what is printed
  pub sat_holds : (b : StartsWith (ascii "sat\n") (take r out₁.now)) → (word : Word)
      × (text_holds (valued (declared_names text.now) (spelled (names_count text.now) word)) (forms_of text.now) ≡ true)
      × (length word ≤ 64 → take r out₁.now ≡ ascii "sat\n" ++ model_lines text.now (names_given text.now) (names_count text.now) word)
  sat_holds b =
      let s = prints_sat.0 b in
      let m = sat_model text.now s in
      (m.word, m.holds, λ h. text_is ∙ m.values_printed (rw m.letters_are at h))

  pub prints_unknown : StartsWith (ascii "unknown\n") (take r out₁.now) ↔ UnknownPrinted text.now
  prints_unknown = rw text_is (unknown_printed text.now)

  -- and with `(error` exactly if the import refuses it
  pub prints_error : StartsWith (ascii "(error ") (take r out₁.now) ↔ ((ρ : Refusal) × ErrorPrinted text.now ρ)
  prints_error = rw text_is (error_printed text.now)

  -- then with its number and its place
  pub error_says : (ρ : Refusal) → ErrorPrinted text.now ρ → take r out₁.now ≡ error_line ρ
  error_says ρ e = text_is ∙ error_line_lem text.now ρ e

-- whatever the buffers and wherever they lie
pub text_once : (κ μ λ₁ λ₂ : Lft) (text text₂ : Bor (List ℕ)) (out out₁ out₂ out₃ : MutBor (List ℕ)) (r s : ℕ) → text.now ≡ text₂.now
    → answer-to.Post (κ, (μ, tt)) (text, (out, tt)) r (text, (out₁, tt)) → answer-to.Post (λ₁, (λ₂, tt)) (text₂, (out₂, tt)) s (text₂, (out₃, tt))
    → (r ≡ s) × (take r out₁.now ≡ take s out₃.now)
text_once κ μ λ₁ λ₂ text text₂ out out₁ out₂ out₃ r s e p q =
    (p.ends ∙ ap (λ (l : List ℕ). length (solved l)) e ∙ sym q.ends, p.printed ∙ ap solved e ∙ sym q.printed)
