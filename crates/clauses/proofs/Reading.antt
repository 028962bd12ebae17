-- The formula that a place of the text has, by the form there; and the formulas of a list, one by one.
use Prim.Native.Nat.{ℕ, suc, ◌+◌, ◌-◌, ◌≤◌, ◌<◌}
use native.Mathlib.Omega.{arith}
use native.Mathlib.Numerals.{sub-one}
use mathlib.Core.Path.{◌≡◌, refl, sym, ap, ◌∙◌}
use mathlib.Core.Bool.{cond}
use Rattle.std.specs.Prelude.{Some, None}
use Rattle.std.proofs.lemmas.Option.{none-some, same_Some}
use mathlib.Core.Option.{Option, none, some}
use mathlib.Core.List.{List, [], ◌∷◌, ◌++◌, append-nil, append_assoc}
use lib.ListN.{length, length-append}
use Rattle.smtlib.specs.Lexicon.{most_nesting}
use Rattle.smtlib.specs.Forms.{Forms, nothing, list}
use Rattle.smtlib.specs.Terms.{head_of, terms_of}
use Rattle.smtlib.specs.Formulas.{Clause, outside_clause, faults_among, list_clause, clauses_of}
use Rattle.smtlib.specs.Script.{lowest_of}
use Rattle.smtlib.specs.Laws.{lower_of}
use Rattle.lexicon.specs.Spots.{Position, spot_of}
use Rattle.forms.specs.Places.{forms_at, around, Unbroken}
use Rattle.forms.specs.declared.Form.{Form}
use Rattle.forms.specs.Read.{END, OPEN, ListEnd, ListEnds, OpenHere, WordHere, CloseHere, FormRead, FormReads, FormStands}
use Rattle.forms.specs.Following.{list_forms, list_rest}
use Rattle.terms.specs.declared.ListTerm.{ListTerm}
use Rattle.terms.specs.declared.ListHead.{ListHead}
use Rattle.terms.specs.Heads.{word_code, head_code, head_in, PartsBehind, HeadRead, HeadReads}
use Rattle.terms.specs.Read.{ListReads, Inside}
use Rattle.clauses.specs.declared.ClausePart.{ClausePart}
use Rattle.clauses.specs.Read.{takes_parts, ClauseRead, ClausePartRead, ClausesRead, ClauseReads}
use Rattle.clauses.proofs.Faults.{sides_faults, connective_tells, lowest_among, NoFormula, other_clauses}

-- ---- a part that was read

abbrev pub MaybeFormula : Type 0
MaybeFormula = Rattle.std.specs.Prelude.Option Position

abbrev pub part_of : MaybeFormula → ℕ → ClausePart
part_of formula next = record { formula = formula; next = next }

module _ {text : List ℕ} {at depth : ℕ} {names : List (List ℕ)} where
  ends_here : {next : ℕ} → CloseHere text at depth next → ClausePartRead text at depth names (part_of None next)
  ends_here h = record { no_more = λ e. (h.forms, h.closed); one_more = λ f e. absurd (none-some f e) }

  one_here : {fault : Position} {r : ClausePart} → r.formula ≡ Some fault → ClauseRead text at depth names fault r.next → ClausePartRead text at depth names r
  one_here {fault = fault} f h = record { no_more = λ e. absurd (none-some fault (sym e ∙ f)); one_more = λ g e. rw (same_Some g fault (sym e ∙ f)) h }

  word_read : {place next : ℕ} → WordHere text at depth place next → ClauseRead text at depth names (spot_of (some place)) next
  unfolding clauses_of lowest_of
  word_read {place = place} h = record {
    clause = outside_clause place;
    clauses = ap (clauses_of names) h.forms;
    fault_is = refl;
    levels = h.levels;
    unbroken = h.unbroken;
  }

  module _ {f : Form} (read : FormRead text at depth f) (o : f.kind ≡ OPEN) where
    -- a list that is no formula
    list_outside : {next : ℕ} → NoFormula (head_code (head_in (forms_at text f.next))) → ListEnd text f.next depth next → ClauseRead text at depth names (spot_of (some f.place)) next
    unfolding lowest_of
    list_outside {next = next} n e =
        let rest = list_rest text at depth f read o next e in
        record {
          clause = outside_clause f.place;
          clauses = ap (clauses_of names) (list_forms text at depth f read o next rest) ∙ other_clauses names f.place (forms_at text f.next) (forms_at text next) n;
          fault_is = refl;
          levels = rest.levels;
          unbroken = rest.unbroken;
        }

    -- a list with a head that it is read by
    list_read : {start : ℕ} {r : ClausePart} → (p : PartsBehind text f.next (suc depth) start) → ClausesRead text start (suc depth) names (head_of p.head) f.place r → ClausePartRead text at depth names r
    unfolding clauses_of
    list_read {start = start} {r = r} p c =
        let end : ListEnd text f.next depth r.next = record { levels = c.closed.levels ∙ p.levels; unbroken = rw (sub-one (suc depth)) at c.closed.unbroken } in
        let rest = list_rest text at depth f read o r.next end in
        one_here c.formula_is (record {
          clause = list_clause (head_of p.head) f.place (terms_of names (forms_at text start)) (clauses_of names (forms_at text start));
          clauses = ap (clauses_of names) (list_forms text at depth f read o r.next rest ∙ ap (λ (inner : Forms). list f.place inner (forms_at text r.next)) p.forms);
          fault_is = refl;
          levels = rest.levels;
          unbroken = rest.unbroken;
        })

-- ---- by the form that was read at a place of a list

module _ {text : List ℕ} {at nesting : ℕ} (i : Inside text at nesting) {f : Form} (told : FormStands text at f × FormReads text at f) where
  form_read : FormRead text at (most_nesting - nesting) f
  unfolding FormReads
  form_read = told.1 (most_nesting - nesting) i.unbroken

  form_there : f.kind ≡ END → ⊥
  form_there e = omega (arith, i.left, (form_read.end e).none_open)

  pub goes_further : at < f.next
  goes_further = omega (arith, told.0.not_before, told.0.goes_on form_there)

  pub part_ended : {names : List (List ℕ)} → f.kind < OPEN → ClausePartRead text at (most_nesting - nesting) names (part_of None f.next)
  part_ended l = ends_here (form_read.close (omega (arith, l, form_there)))

  pub part_word : {names : List (List ℕ)} → OPEN ≤ f.kind → (f.kind ≡ OPEN → ⊥) → ClausePartRead text at (most_nesting - nesting) names (part_of (Some (spot_of (some f.place))) f.next)
  part_word l n = one_here refl (word_read (form_read.word_here (omega (arith, l, n))))

  module _ (o : f.kind ≡ OPEN) where
    opened : OpenHere text at (most_nesting - nesting) f.place f.next
    opened = form_read.open_list o

    pub nesting_left : 0 < nesting
    nesting_left = omega (arith, opened.nested)

    deeper : most_nesting - (nesting - 1) ≡ suc (most_nesting - nesting)
    deeper = omega (arith, nesting_left, i.left)

    module _ (head : ListHead) (heads : HeadReads text f.next head) where
      head_read_lem : HeadRead text f.next (suc (most_nesting - nesting)) head
      unfolding HeadReads
      head_read_lem = heads (suc (most_nesting - nesting)) opened.unbroken

      pub part_outside : {names : List (List ℕ)} {next : ℕ} → NoFormula (word_code head.word) → ListEnds text f.next next → ClausePartRead text at (most_nesting - nesting) names (part_of (Some (spot_of (some f.place))) next)
      unfolding ListEnds
      part_outside n ends = one_here refl (list_outside form_read o (rw head_read_lem.code_is at n) (ends (most_nesting - nesting) opened.unbroken))

      module _ (most : word_code head.word ≤ 10) where
        behind : PartsBehind text f.next (suc (most_nesting - nesting)) head.next
        behind = head_read_lem.parts (omega (arith, most))

        pub parts_inside : head.next ≤ length text → Inside text head.next (nesting - 1)
        parts_inside l = record { here = l; left = omega (arith, i.left); unbroken = rw deeper behind.unbroken }

        code_is_head : word_code head.word ≡ head_code (head_of behind.head)
        code_is_head = head_read_lem.code_is ∙ ap (λ (forms : Forms). head_code (head_in forms)) behind.forms

        pub part_list : {names : List (List ℕ)} (r : ClausePart) → ClauseReads text head.next (most_nesting - (nesting - 1)) names (word_code head.word) f.place r → ClausePartRead text at (most_nesting - nesting) names r
        unfolding ClauseReads
        part_list r reads =
            let read = (rw deeper at reads) (head_of behind.head) code_is_head in
            list_read form_read o behind read

-- ---- a comparison

pub sides_read : (text : List ℕ) (at depth : ℕ) (names : List (List ℕ)) (head place : ℕ) (sides : ListTerm) → 3 ≤ head → head ≤ 7 → ListReads text at depth names head place sides → ClauseReads text at depth names head place (part_of (Some sides.term.fault) sides.next)
unfolding ListReads ClauseReads
sides_read text at depth names head place sides l m reads h e =
    let read = reads h e in
    record {
      formula_is = ap Some (read.says.fault_is ∙ ap (λ (l : List ℕ). spot_of (lowest_of l)) (sides_faults h place _ (clauses_of names (forms_at text at)) (omega arith) (omega arith)));
      closed = read.closed;
    }

-- ---- the formulas of a list so far

pub record ClausesSofar (text : List ℕ) (at depth : ℕ) (names : List (List ℕ)) (fault : Position) (number next : ℕ) : Type 0 where
  pub sofar : List Clause
  pub clauses : clauses_of names (forms_at text at) ≡ sofar ++ clauses_of names (forms_at text next)
  pub number_is : number ≡ length sofar
  pub fault_is : fault ≡ spot_of (lowest_of (faults_among sofar))
  pub levels : around text next ≡ around text at
  pub unbroken : Unbroken text next depth

module _ {text : List ℕ} {at depth : ℕ} {names : List (List ℕ)} where
  pub none_gathered : Unbroken text at depth → ClausesSofar text at depth names (spot_of none) 0 at
  unfolding lowest_of faults_among
  none_gathered u = record { sofar = []; clauses = refl; number_is = refl; fault_is = refl; levels = refl; unbroken = u }

  pub one_gathered : {fault least : Position} {number next behind : ℕ} {found : Position} → ClausesSofar text at depth names fault number next → ClauseRead text next depth names found behind → ((x y : Option ℕ) → fault ≡ spot_of x → found ≡ spot_of y → least ≡ spot_of (lower_of x y)) → ClausesSofar text at depth names least (number + 1) behind
  one_gathered {number = number} g c l =
      let sofar = g.sofar in
      record {
        sofar = sofar ++ (c.clause ∷ []);
        clauses = g.clauses ∙ ap (λ (ds : List Clause). sofar ++ ds) c.clauses ∙ sym (append_assoc sofar (c.clause ∷ []) _);
        number_is = rw (length-append sofar (c.clause ∷ [])) (omega (arith, g.number_is));
        fault_is = l (lowest_of (faults_among sofar)) (lowest_of c.clause.faults) g.fault_is c.fault_is ∙ ap spot_of (sym (lowest_among sofar c.clause));
        levels = c.levels ∙ g.levels;
        unbroken = c.unbroken;
      }

  pub all_gathered : {fault : Position} {number next behind head : ℕ} (place : ℕ) → ClausesSofar text at depth names fault number next → (forms_at text next ≡ nothing) × ListEnd text next (depth - 1) behind → 8 ≤ head → head ≤ 10 → ClauseReads text at depth names head place (part_of (Some (cond (takes_parts head number) fault (spot_of (some place)))) behind)
  unfolding ClauseReads clauses_of
  all_gathered place g e l m h c =
      let all : clauses_of names (forms_at text at) ≡ g.sofar = g.clauses ∙ ap (λ (f : Forms). g.sofar ++ clauses_of names f) e.0 ∙ append-nil g.sofar in
      record {
        formula_is = ap Some (rw (c, g.number_is, g.fault_is, all) (connective_tells h place _ g.sofar (omega arith) (omega arith)));
        closed = record { levels = e.1.levels ∙ g.levels; unbroken = e.1.unbroken };
      }
