-- Where a list and its parts stand in the text, by the forms that were read. Assumes nothing.
use Prim.Native.Nat.{ℕ, suc, ◌≤◌, ◌<◌}
use native.Mathlib.Decide.{ℕ_discrete, dec_lt}
use native.Mathlib.Omega.{arith}
use mathlib.Core.Path.{◌≡◌, sym, ap, ◌∙◌}
use mathlib.Core.Logic.{by_cases}
use mathlib.Core.List.{List, ◌∷◌}
use Rattle.std.specs.Prelude.{Some, None}
use Rattle.std.proofs.lemmas.Option.{none-some}
use Rattle.lexicon.specs.Spots.{Position, spot_of}
use Rattle.smtlib.specs.Forms.{Forms, word, list, outermost}
use Rattle.smtlib.specs.Terms.{other_head, head_of}
use Rattle.smtlib.specs.Formulas.{clauses_of}
use Rattle.forms.specs.declared.Form.{Form}
use Rattle.forms.specs.Places.{forms_at, outer, around}
use Rattle.forms.specs.Read.{END, CLOSE, OPEN, NUMERAL, OpenHere, FormRead, FormReads, FormStands, Rest, RestBehind}
use Rattle.terms.specs.declared.ListHead.{ListHead}
use Rattle.terms.specs.Heads.{word_code, head_code, head_in, HeadRead, HeadReads}
use Rattle.laying.specs.declared.lists.ListStart.{ListStart}
use Rattle.laying.specs.declared.lists.PartEnd.{PartEnd}
use Rattle.laying.specs.Texts.{FirstFaultless, clause_in, HeadedList, ListStarts, form_start, PartEnded, PartEnds}
use Rattle.laying.proofs.Clauses.{no_form_faultless, word_faulty, other_list_faulty}

-- ---- by the kind of a form

module _ {text : List ℕ} {at depth : ℕ} {f : Form} (read : FormRead text at depth f) where
  pub by_kind : {P : Type 0} → (f.kind ≡ END → P) → (f.kind ≡ CLOSE → P) → (f.kind ≡ OPEN → P) → (NUMERAL ≤ f.kind → P) → P
  by_kind ended closed opened worded =
      by_cases (ℕ_discrete f.kind END) ended
      (λ x. by_cases (ℕ_discrete f.kind CLOSE) closed
      (λ y. by_cases (ℕ_discrete f.kind OPEN) opened
      (λ z. worded (omega arith))))

-- ---- a list and its head

module _ (text : List ℕ) (at : ℕ) (f : Form) (head : ListHead) (stands : FormStands text at f) (reads : FormReads text at f) (behind : f.next ≤ head.next) (heads : HeadReads text f.next head) where
  abbrev start : ListStart
  start = record { place = f.place; head = head.word; next = head.next }

  module _ (depth : ℕ) (names : List (List ℕ)) (faultless : FirstFaultless (clauses_of names (forms_at text at))) (o : OpenHere text at depth f.place f.next) (further : f.place < f.next) where
    list_headed_here : HeadRead text f.next (suc depth) head → HeadedList text at depth names start
    unfolding clauses_of
    list_headed_here h =
        by_cases (dec_lt (word_code head.word) (head_code other_head))
        (λ l.
        let w = h.parts l in
        let forms : forms_at text at ≡ list f.place (word w.place w.head (forms_at text head.next)) (outermost (around text head.next)) =
        o.forms ∙ (λ i. list f.place (w.forms i) (outermost (sym w.levels i))) in
        let clauses : clauses_of names (forms_at text at) ≡ clause_in text names start (head_of w.head) ∷ clauses_of names (outermost (around text head.next)) = ap (clauses_of names) forms in
        record {
          head = head_of w.head;
          code_is = h.code_is ∙ ap (λ (g : Forms). head_code (head_in g)) w.forms;
          clauses = clauses;
          faultless = rw clauses at faultless;
          levels = ap outer w.levels ∙ o.levels;
          nested = o.nested;
          further = omega (arith, stands.not_before, further, behind);
          unbroken = w.unbroken;
        })
        (λ n. absurd (other_list_faulty names f.place (forms_at text f.next) (outermost (around text f.next)) (omega (arith, h.code_is, n)) (rw o.forms at faultless)))

  pub list_starts : ListStarts text at start
  unfolding ListStarts FormReads HeadReads
  list_starts depth names u faultless =
      let read : FormRead text at depth f = reads depth u in
      by_kind read
      (λ e. absurd (no_form_faultless names (forms_at text at) (read.end e).forms faultless))
      (λ e. absurd (no_form_faultless names (forms_at text at) (read.close e).forms faultless))
      (λ e.
      let o = read.open_list e in
      list_headed_here depth names faultless o (stands.goes_on (λ z. omega (arith, z, e))) (heads (suc depth) o.unbroken))
      (λ l. absurd (word_faulty names (forms_at text at) _ _ _ (read.word_here l).forms faultless))

-- ---- what is behind a part

module _ (text : List ℕ) (at after : ℕ) (part form : Form) (stands : FormStands text at part) (reads : FormReads text at part) (beyond : part.next ≤ after) (behind : RestBehind text part after) (later_stands : FormStands text after form) (later : FormReads text after form) where
  abbrev ending : Position → PartEnd
  ending another = record { another = another; next = form.next }

  module _ (depth : ℕ) (inside : 0 < depth) (rest : Rest text at depth after) (opened : OPEN ≤ part.kind) where
    goes_further : (form.kind ≡ END → ⊥) → at < form.next
    goes_further n = omega (arith, stands.not_before, stands.goes_on (λ z. omega (arith, z, opened)), beyond, later_stands.not_before, later_stands.goes_on n)

    ended_here : FormRead text after depth form → form.kind ≡ CLOSE → PartEnded text at depth (ending None)
    ended_here read e =
        let c = read.close e in
        record {
          start_is = ap (λ (f : Forms). spot_of (form_start f)) (sym c.forms ∙ rest.forms);
          closed = λ t. record { levels = c.closed.levels ∙ rest.levels; unbroken = c.closed.unbroken };
          further = goes_further (λ z. omega (arith, z, e));
        }

    another_here : FormRead text after depth form → (form.kind ≡ CLOSE → ⊥) → PartEnded text at depth (ending (Some form.place))
    another_here read n =
        by_kind read
        (λ e. absurd (omega (arith, inside, (read.end e).none_open)))
        (λ e. absurd (n e))
        (λ e. record { start_is = ap (λ (f : Forms). spot_of (form_start f)) (sym (read.open_list e).forms ∙ rest.forms); closed = λ t. absurd (none-some form.place (sym t)); further = goes_further (λ z. omega (arith, z, e)) })
        (λ l. record { start_is = ap (λ (f : Forms). spot_of (form_start f)) (sym (read.word_here l).forms ∙ rest.forms); closed = λ t. absurd (none-some form.place (sym t)); further = goes_further (λ z. omega (arith, z, l)) })

  module _ {another : Position} (by : (depth : ℕ) → 0 < depth → Rest text at depth after → OPEN ≤ part.kind → FormRead text after depth form → PartEnded text at depth (ending another)) where
    by_part : PartEnds text at (ending another)
    unfolding PartEnds FormReads RestBehind
    by_part depth inside u there =
        let read : FormRead text at depth part = reads depth u in
        let go : OPEN ≤ part.kind → PartEnded text at depth (ending another) = λ l. let rest = behind at depth u read l in by depth inside rest l (later depth rest.unbroken) in
        by_kind read
        (λ e. absurd (there (read.end e).forms))
        (λ e. absurd (there (read.close e).forms))
        (λ e. go (omega (arith, e)))
        (λ l. go (omega (arith, l)))

  pub last_ends : form.kind ≡ CLOSE → PartEnds text at (ending None)
  last_ends e = by_part (λ depth inside rest l read. ended_here depth inside rest l read e)

  pub another_ends : (form.kind ≡ CLOSE → ⊥) → PartEnds text at (ending (Some form.place))
  another_ends n = by_part (λ depth inside rest l read. another_here depth inside rest l read n)
