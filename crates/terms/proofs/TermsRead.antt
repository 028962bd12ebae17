-- A term by the form that stands next: a word, a list with a term's head, or any other list. Assumes nothing.
use Prim.Native.Nat.{ℕ, suc, ◌-◌, ◌≤◌, ◌<◌}
use native.Mathlib.Omega.{arith}
use native.Mathlib.Decide.{dec_lt}
use mathlib.Core.Path.{◌≡◌, refl, sym, ap, ◌∙◌}
use mathlib.Core.Logic.{by_cases}
use mathlib.Core.List.{List, ◌∷◌}
use Rattle.std.specs.Prelude.{Some, None}
use Rattle.std.proofs.lemmas.Option.{none-some, same_Some}
use Rattle.smtlib.specs.Forms.{Forms, nothing, word, list, bare_of, outermost}
use Rattle.smtlib.specs.Terms.{equal, at_most, below, at_least, above, Head, plus, minus, times, compare, negation, conjunction, disjunction, other_head, head_of, Term, outside_term, list_term, word_term, terms_of}
use Rattle.lexicon.specs.Spots.{stretch}
use Rattle.forms.specs.declared.Form.{Form}
use Rattle.forms.specs.Places.{forms_at, outer, around}
use Rattle.forms.specs.Read.{END, CLOSE, OPEN, NUMERAL, ListEnd, OpenHere, CloseHere, FormRead}
use Rattle.terms.specs.declared.Collected.{Collected}
use Rattle.terms.specs.declared.TermPart.{TermPart}
use Rattle.terms.specs.declared.ListTerm.{ListTerm}
use Rattle.terms.specs.declared.ListHead.{ListHead}
use Rattle.terms.specs.Heads.{word_code, head_code, head_in, HeadRead}
use Rattle.terms.specs.Gathered.{gathered}
use Rattle.terms.specs.Read.{TermSays, WordTermed, TermRead, PartRead, ListReads}

-- ---- a word, or the end of the list

-- inside a list the text does not end
pub not_end : {text : List ℕ} {at depth : ℕ} {f : Form} → FormRead text at depth f → 0 < depth → f.kind ≡ END → ⊥
not_end read d e = omega (arith, (read.end e).none_open)

module _ {text : List ℕ} {at depth : ℕ} {names : List (List ℕ)} where
  ends_here : {next : ℕ} → CloseHere text at depth next → PartRead text at depth names record { term = None; next = next }
  ends_here h = record { no_more = λ e. (h.forms, h.closed); one_more = λ c e. absurd (none-some c e) }

  pub one_here : {term : Collected} {next : ℕ} → TermRead text at depth names term next → PartRead text at depth names record { term = Some term; next = next }
  one_here {term = term} read = record { no_more = λ e. absurd (none-some term (sym e)); one_more = λ c e. rw (same_Some c term (sym e)) read }

module _ {text : List ℕ} {at depth : ℕ} {names : List (List ℕ)} {f : Form} {r : TermPart} (read : FormRead text at depth f) where
  word_part : WordTermed text names f r → NUMERAL ≤ f.kind → PartRead text at depth names r
  unfolding terms_of
  word_part is h =
      let here = read.word_here h in
      let term = is.term_is h (bare_of (stretch text f.place f.next)) (read.word_says h) in
      rw term.part_is (one_here record {
        term = word_term names f.place (bare_of (stretch text f.place f.next));
        terms = ap (terms_of names) here.forms;
        says = term.says;
        levels = here.levels;
        unbroken = here.unbroken;
      })

  close_part : WordTermed text names f r → f.kind ≡ CLOSE → PartRead text at depth names r
  close_part is k = rw (is.end_is (omega arith)) (ends_here (read.close k))

  pub other_part : WordTermed text names f r → 0 < depth → (f.kind ≡ OPEN → ⊥) → (r.next ≡ f.next) × PartRead text at depth names r
  other_part is d n =
      by_cases (dec_lt f.kind NUMERAL)
      (λ h.
      let e : f.kind ≡ CLOSE = omega (arith, not_end read d) in
      (ap (λ (p : TermPart). p.next) (is.end_is h), close_part is e))
      (λ h. let w : NUMERAL ≤ f.kind = omega arith in (ap (λ (p : TermPart). p.next) (is.term_is w _ (read.word_says w)).part_is, word_part is w))

-- ---- a list

-- a list whose head is no term's
head_outside : (names : List (List ℕ)) (at : ℕ) (inner rest : Forms) → 2 < head_code (head_in inner) → terms_of names (list at inner rest) ≡ outside_term at ∷ terms_of names rest
unfolding terms_of list_term
head_outside names at nothing rest h = refl
head_outside names at (word start w parts) rest h = go (head_of w) h
  where
    go : (d : Head) → 2 < head_code d → list_term d at (terms_of names parts) ∷ terms_of names rest ≡ outside_term at ∷ terms_of names rest
    go plus h = absurd (omega arith)
    go minus h = absurd (omega arith)
    go times h = absurd (omega arith)
    go (compare o) h = refl
    go negation h = refl
    go conjunction h = refl
    go disjunction h = refl
    go other_head h = refl
head_outside names at (list start inner parts) rest h = refl

-- the parts of a list with a term's head
head_term : (h : Head) (place : ℕ) (ts : List Term) → head_code h ≤ 2 → gathered h place ts ≡ list_term h place ts
head_term plus place ts l = refl
head_term minus place ts l = refl
head_term times place ts l = refl
head_term (compare equal) place ts l = absurd (omega arith)
head_term (compare at_most) place ts l = absurd (omega arith)
head_term (compare below) place ts l = absurd (omega arith)
head_term (compare at_least) place ts l = absurd (omega arith)
head_term (compare above) place ts l = absurd (omega arith)
head_term negation place ts l = absurd (omega arith)
head_term conjunction place ts l = absurd (omega arith)
head_term disjunction place ts l = absurd (omega arith)
head_term other_head place ts l = absurd (omega arith)

module _ {text : List ℕ} {at depth place start : ℕ} (names : List (List ℕ)) (here : OpenHere text at depth place start) where
  -- what is behind a list
  rest_forms : {next : ℕ} → ListEnd text start depth next → outermost (around text start) ≡ forms_at text next
  rest_forms e = ap outermost (sym e.levels)

  rest_levels : {next : ℕ} → ListEnd text start depth next → around text next ≡ around text at
  rest_levels e = ap outer e.levels ∙ here.levels

  pub outside_part : {head : ListHead} {next : ℕ} {c : Collected} → HeadRead text start (suc depth) head → 2 < word_code head.word → ListEnd text start depth next
      → TermSays (outside_term place) c → PartRead text at depth names record { term = Some c; next = next }
  outside_part read h end says = one_here record {
    term = outside_term place;
    terms =
        ap (terms_of names) here.forms
        ∙ head_outside names place (forms_at text start) (outermost (around text start)) (rw read.code_is at h)
        ∙ ap (λ (k : Forms). outside_term place ∷ terms_of names k) (rest_forms end);
    says = says;
    levels = rest_levels end;
    unbroken = end.unbroken;
  }

  pub list_part : {head : ListHead} (inside : ℕ) {r : ListTerm} → HeadRead text start (suc depth) head → word_code head.word ≤ 2 → inside - 1 ≡ depth
      → ListReads text head.next inside names (word_code head.word) place r → PartRead text at depth names record { term = Some r.term; next = r.next }
  unfolding ListReads terms_of
  list_part {head} inside {r} read l d reads =
      let parts = read.parts (omega arith) in
      let code : word_code head.word ≡ head_code (head_of parts.head) = read.code_is ∙ ap (λ (k : Forms). head_code (head_in k)) parts.forms in
      let whole = reads (head_of parts.head) code in
      let end : ListEnd text start depth r.next = record { levels = whole.closed.levels ∙ parts.levels; unbroken = rw d at whole.closed.unbroken } in
      let term : Term = list_term (head_of parts.head) place (terms_of names (forms_at text head.next)) in
      one_here record {
        term = term;
        terms =
            ap (terms_of names) here.forms
            ∙ ap (λ (k : Forms). terms_of names (list place k (outermost (around text start)))) parts.forms
            ∙ ap (λ (k : Forms). term ∷ terms_of names k) (rest_forms end);
        says = rw (head_term (head_of parts.head) place (terms_of names (forms_at text head.next)) (rw code at l)) at whole.says;
        levels = rest_levels end;
        unbroken = end.unbroken;
      }
