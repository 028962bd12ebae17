-- The text that `answer_to` gives, as its own contract has it: any two outcomes coincide, and never is printed exactly if Printed says so.
use Prim.Native.Nat.{ℕ}
use mathlib.Core.Path.{◌≡◌, sym, ap, ◌∙◌}
use mathlib.Core.Logic.{◌↔◌}
use mathlib.Core.List.{List}
use lib.ListN.{length, take}
use base.Fml.{Lft}
use denote.Ref.{Bor}
use denote.MutBor.{MutBor}
use Rattle.theory.specs.Wire.Octets.{Octets}
use Rattle.told.specs.Text.{ascii}
use Rattle.ask.specs.Asked.{asked}
use Rattle.ask.specs.Printed.{Begins, NeverPrinted, never_printed}
use Rattle.ask.proofs.answer_to.Reads as answer-to

module _ (κ μ : Lft) (question : Bor (List ℕ)) (out out₁ : MutBor (List ℕ)) (r : ℕ) (p : answer-to.Post (κ, (μ, tt)) (question, (out, tt)) r (question, (out₁, tt))) where
  -- the text is at the front of the buffer
  pub text_is : take r out₁.now ≡ asked question.now
  text_is = p.text

  -- what is printed begins with `verdict never` exactly if the bytes are a question's of at most 1,024 reachable states, and no naturals satisfy it
  pub prints_never : Octets question.now → Begins (ascii "verdict never\n") (take r out₁.now) ↔ NeverPrinted question.now
  prints_never octets = rw text_is (never_printed question.now octets)

-- whatever the buffers and wherever they lie
pub text_once : (κ μ λ₁ λ₂ : Lft) (question question₂ : Bor (List ℕ)) (out out₁ out₂ out₃ : MutBor (List ℕ)) (r s : ℕ) → question.now ≡ question₂.now
    → answer-to.Post (κ, (μ, tt)) (question, (out, tt)) r (question, (out₁, tt)) → answer-to.Post (λ₁, (λ₂, tt)) (question₂, (out₂, tt)) s (question₂, (out₃, tt))
    → (r ≡ s) × (take r out₁.now ≡ take s out₃.now)
text_once κ μ λ₁ λ₂ question question₂ out out₁ out₂ out₃ r s e p q =
    (p.ends ∙ ap (λ (l : List ℕ). length (asked l)) e ∙ sym q.ends, p.text ∙ ap asked e ∙ sym q.text)
