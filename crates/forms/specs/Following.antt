-- What a form that was read says, for those who read forms one after the other: the forms at its place, those behind it, and where the list at
-- hand ends.
use Rattle.std.specs.Prelude.{ℕ, suc, ◌-◌, ◌≤◌, ◌<◌, ◌≡◌, ◌⊎◌, Bool, true, false, cond, List, leb, eqb}
use Rattle.std.proofs.Common.{arith, sym, ap, ◌∙◌, inl, inr, ⊎_elim, leb-true, leb-false, eqb-true, ne_eqb}
use Rattle.std.proofs.Math.Path.{refl}
use Rattle.std.proofs.Math.Option.{none}
use Rattle.std.proofs.lemmas.Bool.{eqb-false}
use Rattle.smtlib.specs.Lexicon.{tokens_of, broken_at}
use Rattle.smtlib.specs.Forms.{Bare, numeral, symbol, reserved, other_word, nothing, word, list, bare_of, outermost, forms_of}
use Rattle.smtlib.specs.Terms.{most_numeral}
use Rattle.lexicon.specs.Spots.{stretch}
use Rattle.forms.specs.declared.Form.{Form}
use Rattle.forms.specs.Places.{levels_at, forms_at, outer, around, Unbroken}
use Rattle.forms.specs.Read.{END, CLOSE, OPEN, NUMERAL, SYMBOL, RESERVED, OTHER, clipped, ListEnd, FormRead, rest_of, Rest}

-- ---- a text that is not broken

module _ (text : List ℕ) where
  pub text_unbroken : broken_at text ≡ none → Unbroken text 0 0
  unfolding broken_at Unbroken
  text_unbroken e = e

  pub text_forms : forms_of text ≡ forms_at text 0
  unfolding forms_of tokens_of levels_at
  text_forms = refl

-- ---- the forms from a place on, by the form that was read there

module _ (text : List ℕ) (at depth : ℕ) (f : Form) (r : FormRead text at depth f) where
  pub ended_forms : f.kind ≤ CLOSE → forms_at text at ≡ nothing
  ended_forms h = go (eqb f.kind END) refl
    where
      go : (t : Bool) → eqb f.kind END ≡ t → forms_at text at ≡ nothing
      go true e = (r.end (eqb-true _ _ e)).forms
      go false e = let n : f.kind ≡ END → ⊥ = eqb-false _ _ e in (r.close (omega arith)).forms

  pub end_none_open : f.kind ≡ END → depth ≡ 0
  end_none_open e = (r.end e).none_open

  pub close_some_open : f.kind ≡ CLOSE → 0 < depth
  close_some_open e = (r.close e).one_open

  word_forms : NUMERAL ≤ f.kind → (w : Bare) → bare_of (stretch text f.place f.next) ≡ w → forms_at text at ≡ word f.place w (forms_at text f.next)
  word_forms h w e = (r.word_here h).forms ∙ ap (λ (x : Bare). word f.place x (forms_at text f.next)) e

  pub record NumeralForms : Type 0 where
    pub value : ℕ
    pub clips : f.value ≡ clipped value
    pub forms : forms_at text at ≡ word f.place (numeral value) (forms_at text f.next)

  pub numeral_forms : f.kind ≡ NUMERAL → NumeralForms
  numeral_forms e =
      let n = (r.word_says (omega arith)).numeral_says e in
      record { value = n.value; clips = n.clips; forms = word_forms (omega arith) (numeral n.value) n.says }

  pub symbol_forms : f.kind ≡ SYMBOL → forms_at text at ≡ word f.place (symbol (stretch text f.from f.to)) (forms_at text f.next)
  symbol_forms e = word_forms (omega arith) _ ((r.word_says (omega arith)).symbol_says e)

  pub reserved_forms : f.kind ≡ RESERVED → forms_at text at ≡ word f.place (reserved (stretch text f.from f.to)) (forms_at text f.next)
  reserved_forms e = word_forms (omega arith) _ ((r.word_says (omega arith)).reserved_says e)

  pub other_forms : f.kind ≡ OTHER → forms_at text at ≡ word f.place other_word (forms_at text f.next)
  other_forms e = word_forms (omega arith) other_word ((r.word_says (omega arith)).other_says e)

  -- the list around is the same behind a word
  pub word_rest : NUMERAL ≤ f.kind → Rest text at depth f.next
  word_rest h =
      let w = r.word_here h in
      record { forms = sym (ap rest_of w.forms); levels = w.levels; unbroken = w.unbroken }

  -- the forms in a list, and those behind it
  pub list_forms : f.kind ≡ OPEN → (next : ℕ) → Rest text at depth next → forms_at text at ≡ list f.place (forms_at text f.next) (forms_at text next)
  list_forms e next b =
      let o = r.open_list e in
      o.forms ∙ ap (list f.place (forms_at text f.next)) (sym (b.forms ∙ ap rest_of o.forms))

  pub list_rest : f.kind ≡ OPEN → (next : ℕ) → ListEnd text f.next depth next → Rest text at depth next
  list_rest e next l =
      let o = r.open_list e in
      record {
        forms = ap outermost l.levels ∙ sym (ap rest_of o.forms);
        levels = ap outer l.levels ∙ o.levels;
        unbroken = l.unbroken;
      }

  -- the same by the closing form, which was read at a place in the list
  pub closed_rest : f.kind ≡ OPEN → (here : ℕ) → around text here ≡ around text f.next → (g : Form) → FormRead text here (suc depth) g → g.kind ≡ CLOSE → Rest text at depth g.next
  closed_rest e here same g s k =
      let c = (s.close k).closed in
      let n : suc depth - 1 ≡ depth = omega arith in
      list_rest e g.next (record { levels = c.levels ∙ same; unbroken = rw n at c.unbroken })

-- ---- a numeral's value by what is clipped

-- either it fits and is as it was, or both are above the most
clipped_either : (v c : ℕ) → c ≡ clipped v → ((c ≡ v) × (v ≤ most_numeral)) ⊎ ((c ≡ suc most_numeral) × (most_numeral < v))
clipped_either v c e = go (leb v most_numeral) refl e
  where
    go : (t : Bool) → leb v most_numeral ≡ t → c ≡ cond t v (suc most_numeral) → ((c ≡ v) × (v ≤ most_numeral)) ⊎ ((c ≡ suc most_numeral) × (most_numeral < v))
    go true l e = inl (e, leb-true v most_numeral l)
    go false l e = inr (e, leb-false v most_numeral l)

module _ (v c : ℕ) (e : c ≡ clipped v) where
  pub clipped_within : c ≤ most_numeral → (v ≡ c) × (v ≤ most_numeral)
  clipped_within h = ⊎_elim (λ w. (omega (arith, w.0), w.1)) (λ w. absurd (omega (arith, w.0))) (clipped_either v c e)

  pub clipped_beyond : most_numeral < c → most_numeral < v
  clipped_beyond h = ⊎_elim (λ w. absurd (omega (arith, w.0, w.1))) (λ w. w.1) (clipped_either v c e)

  pub clipped_nought : eqb v 0 ≡ eqb c 0
  clipped_nought = ⊎_elim (λ w. rw w.0) (λ w. ne_eqb v 0 (λ z. omega (arith, w.1)) ∙ sym (ne_eqb c 0 (λ z. omega (arith, w.0)))) (clipped_either v c e)
