-- The head of a list by the form that stands first in it. Assumes nothing.
use Prim.Native.Nat.{ℕ, ◌≤◌}
use native.Mathlib.Omega.{arith}
use native.Mathlib.Decide.{ℕ_discrete}
use mathlib.Core.Path.{◌≡◌, sym, ap, ◌∙◌}
use mathlib.Core.List.{List}
use Rattle.smtlib.specs.Forms.{Bare, bare_of}
use Rattle.smtlib.specs.Terms.{head_of, head_named, other_head}
use Rattle.lexicon.specs.Spots.{stretch}
use Rattle.forms.specs.declared.Form.{Form}
use Rattle.forms.specs.Places.{forms_at}
use Rattle.forms.specs.Read.{END, CLOSE, OPEN, NUMERAL, SYMBOL, RESERVED, OTHER, FormRead}
use Rattle.terms.specs.declared.ListHead.{ListHead}
use Rattle.terms.specs.Heads.{word_code, head_code, head_in, HeadRead}

module _ {text : List ℕ} {at depth : ℕ} {f : Form} (read : FormRead text at depth f) where
  word_head : (h : NUMERAL ≤ f.kind) (w : Bare) → bare_of (stretch text f.place f.next) ≡ w → head_in (forms_at text at) ≡ head_of w
  word_head h w e = ap head_in (read.word_here h).forms ∙ ap head_of e

  pub symbol_head : {r : ListHead} → f.kind ≡ SYMBOL → r.next ≡ f.next → word_code r.word ≡ head_code (head_named (stretch text f.from f.to)) → HeadRead text at depth r
  symbol_head {r} k n c =
      let h : NUMERAL ≤ f.kind = omega arith in
      let here = read.word_here h in
      record {
        code_is = c ∙ sym (ap head_code (word_head h _ ((read.word_says h).symbol_says k)));
        parts = λ b. record {
          place = f.place;
          head = bare_of (stretch text f.place f.next);
          forms = rw n here.forms;
          levels = rw n here.levels;
          unbroken = rw n here.unbroken;
        };
      }

  other_head_lem : f.kind ≤ OTHER → (f.kind ≡ SYMBOL → ⊥) → head_in (forms_at text at) ≡ other_head
  other_head_lem most n = kinds (ℕ_discrete f.kind END) (ℕ_discrete f.kind CLOSE) (ℕ_discrete f.kind OPEN) (ℕ_discrete f.kind NUMERAL) (ℕ_discrete f.kind RESERVED)
    where
      kinds : Dec (f.kind ≡ END) → Dec (f.kind ≡ CLOSE) → Dec (f.kind ≡ OPEN) → Dec (f.kind ≡ NUMERAL) → Dec (f.kind ≡ RESERVED) → head_in (forms_at text at) ≡ other_head
      kinds (yes e) c o m s = ap head_in (read.end e).forms
      kinds (no e) (yes c) o m s = ap head_in (read.close c).forms
      kinds (no e) (no c) (yes o) m s = ap head_in (read.open_list o).forms
      kinds (no e) (no c) (no o) (yes m) s = let h : NUMERAL ≤ f.kind = omega arith in word_head h _ ((read.word_says h).numeral_says m).says
      kinds (no e) (no c) (no o) (no m) (yes s) = let h : NUMERAL ≤ f.kind = omega arith in word_head h _ ((read.word_says h).reserved_says s)
      kinds (no e) (no c) (no o) (no m) (no s) =
          let h : NUMERAL ≤ f.kind = omega arith in
          let k : f.kind ≡ OTHER = omega arith in
          word_head h _ ((read.word_says h).other_says k)

  pub no_head : {r : ListHead} → f.kind ≤ OTHER → (f.kind ≡ SYMBOL → ⊥) → word_code r.word ≡ 11 → HeadRead text at depth r
  no_head most n c = record { code_is = c ∙ sym (ap head_code (other_head_lem most n)); parts = λ b. absurd (omega arith) }
