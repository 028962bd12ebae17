-- A sign assertion: the one part of an assertion, and in it >=, a name and 0.
use Prim.Native.Nat.{ℕ, ◌≤◌, ◌<◌}
use native.Mathlib.Omega.{arith}
use native.Mathlib.Decide.{dec_lt}
use mathlib.Core.Path.{◌≡◌, refl, sym, ap, ◌∙◌}
use mathlib.Core.Logic.{by_cases}
use mathlib.Core.Bool.{Bool, true, false, ◌&&◌, and-eq-true_iff, and-false}
use mathlib.Core.Option.{none}
use Rattle.std.proofs.Common.{Option, Some, None}
use mathlib.Core.List.{List, [], ◌∷◌}
use Rattle.smtlib.specs.Spelling.{spelling}
use Rattle.smtlib.specs.Forms.{Bare, Forms, nothing, word, list}
use Rattle.smtlib.specs.Terms.{index_from}
use Rattle.smtlib.specs.Script.{Part, parts_of, says_word, says_one, name_in, is_nought, signs_name, signs}
use Rattle.lexicon.specs.Spots.{stretch}
use Rattle.forms.specs.declared.Form.{Form}
use Rattle.forms.specs.Places.{forms_at, Unbroken}
use Rattle.forms.specs.Read.{OPEN, SYMBOL, FormReads, rest_of, RestBehind, FormStands}
use Rattle.terms.specs.Names.{IndexOf}
use Rattle.script.specs.Parts.{ListHere, WordIs, list_here, numeral_here, symbol_here, reserved_here, other_here, nothing_more}
use Rattle.script.specs.Commands.{NameOf, SignedBy}
use Rattle.script.proofs.Listing.{symbol_is, index_in, not_in}

-- ---- the name

module _ {text : List ℕ} {f : Form} (names : List (List ℕ)) (count : ℕ) where
  nothing_said : {w : Bare} → WordIs text f w → (f.kind ≡ SYMBOL → ⊥) → says_one w names ≡ false
  nothing_said (list_here e) k = refl
  nothing_said (numeral_here e u h) k = refl
  nothing_said (symbol_here e) k = absurd (k e)
  nothing_said (reserved_here e) k = refl
  nothing_said (other_here e) k = refl

  pub no_name_said : {w : Bare} → WordIs text f w → (f.kind ≡ SYMBOL → ⊥) → NameOf w names count None
  no_name_said is k = nothing_said is k

  pub name_said : {w : Bare} (r : Option ℕ) → WordIs text f w → f.kind ≡ SYMBOL → IndexOf (index_from 0 (stretch text f.from f.to) names) count r → NameOf w names count r
  name_said (Some r) is k index = rw (symbol_is is k) (index.0, (index_in 0 _ names r index.1, index.1))
  name_said None is k index = rw (symbol_is is k) (not_in _ names index)

-- ---- the three parts

module _ (names : List (List ℕ)) (h n z : Part) where
  pub signed_by_three : (count : ℕ) (r : Option ℕ) → says_word h.word (spelling ">=") && is_nought z.word ≡ true → NameOf n.word names count r
      → SignedBy names (signs_name names (h ∷ n ∷ z ∷ [])) count r
  unfolding signs_name
  signed_by_three count (Some r) e name =
      let f = (and-eq-true_iff (says_word h.word (spelling ">=")) (is_nought z.word)).0 e in
      record { below = name.0; name = name_in n.word; signs_it = rw (f.0, f.1, name.1.0) refl; number_is = name.1.1 }
  signed_by_three count None e name =
      let f = (and-eq-true_iff (says_word h.word (spelling ">=")) (is_nought z.word)).0 e in rw (f.0, name) refl

  neither_three : (a b c : Bool) → a && c ≡ false → a && (b && c) ≡ false
  neither_three true b false e = and-false b
  neither_three false b c e = refl
  neither_three true b true e = absurd (let z : ◌≡◌ {A = ℕ} 0 1 = cc in omega arith)

  pub not_signed_by_three : says_word h.word (spelling ">=") && is_nought z.word ≡ false → signs_name names (h ∷ n ∷ z ∷ []) ≡ none
  unfolding signs_name
  not_signed_by_three e = rw (neither_three (says_word h.word (spelling ">=")) (says_one n.word names) (is_nought z.word) e) refl

-- ---- the one part

module _ (names : List (List ℕ)) (forms : Forms) (at : ℕ) (inner rest : Forms) (e : forms ≡ list at inner rest) where
  alone_signs : rest_of forms ≡ nothing → signs names forms ≡ signs_name names (parts_of inner)
  alone_signs f = rw (e, sym (ap rest_of e) ∙ f) refl

  word_behind : (next : ℕ) (w : Bare) (more : Forms) → rest_of forms ≡ word next w more → signs names forms ≡ none
  word_behind next w more f = rw (e, sym (ap rest_of e) ∙ f) refl

  list_behind : (next : ℕ) (other more : Forms) → rest_of forms ≡ list next other more → signs names forms ≡ none
  list_behind next other more f = rw (e, sym (ap rest_of e) ∙ f) refl

module _ (text : List ℕ) (at depth : ℕ) (f : Form) (reads : FormReads text at f) (u : Unbroken text at depth) where
  pub list_inside : FormStands text at f → f.kind ≡ OPEN → ListHere text f.next
  unfolding FormReads
  list_inside stands k = record { depth = depth; here = stands.inside; unbroken = ((reads depth u).open_list k).unbroken }

  module _ (names : List (List ℕ)) where
    pub no_list_signs : (f.kind ≡ OPEN → ⊥) → signs names (forms_at text at) ≡ none
    unfolding FormReads
    no_list_signs k =
        by_cases (dec_lt f.kind 2) (λ p. rw (nothing_more text at depth f reads u p) refl) λ p.
        by_cases (dec_lt f.kind 3) (λ q. absurd (k (omega arith))) λ q.
        rw ((reads depth u).word_here (omega arith)).forms refl

    module _ (k : f.kind ≡ OPEN) (next : ℕ) (behind_it : RestBehind text f next) (g : Form) (more : FormReads text next g) where
      pub list_alone : g.kind < OPEN → signs names (forms_at text at) ≡ signs_name names (parts_of (forms_at text f.next))
      unfolding FormReads RestBehind
      list_alone h =
          let rest = behind_it at depth u (reads depth u) (omega arith) in
          alone_signs names _ _ _ _ ((reads depth u).open_list k).forms (sym rest.forms ∙ nothing_more text next depth g more rest.unbroken h)

      pub list_not_alone : OPEN ≤ g.kind → signs names (forms_at text at) ≡ none
      unfolding FormReads RestBehind
      list_not_alone h =
          let rest = behind_it at depth u (reads depth u) (omega arith) in
          let forms = ((reads depth u).open_list k).forms in
          by_cases (dec_lt g.kind 3)
          (λ p. list_behind names _ _ _ _ forms _ _ _ (sym rest.forms ∙ ((more depth rest.unbroken).open_list (omega arith)).forms))
          (λ p. word_behind names _ _ _ _ forms _ _ _ (sym rest.forms ∙ ((more depth rest.unbroken).word_here (omega arith)).forms))
