-- An assertion's formula laid, by itself or joined to what is to come.
use Prim.Native.Nat.{ℕ, suc, ◌-◌, ◌<◌}
use native.Mathlib.Omega.{arith}
use mathlib.Core.Path.{◌≡◌, refl, sym, ap, ◌∙◌, subst}
use mathlib.Core.Bool.{Bool, true, false, true≢false}
use mathlib.Core.List.{List, [], ◌∷◌, ◌++◌, cons≢nil}
use lib.Dec.{leb, eqb}
use borrow.Author.Tests.{leb-true, leb-false, eqb-true, eqb-false}
use Rattle.std.proofs.Common.{Ok, Err}
use Rattle.scope.specs.declared.Refusal.{Refusal}
use Rattle.scope.specs.Question.{node_of}
use Rattle.smtlib.specs.Lexicon.{most_nesting}
use Rattle.smtlib.specs.Forms.{Bare, Forms, nothing, word, list}
use Rattle.smtlib.specs.Terms.{Head, plus, minus, times, compare, negation, conjunction, disjunction, other_head, head_of, Term, terms_of}
use Rattle.smtlib.specs.Formulas.{Formula, Clause, comparison, compared, negated, joining, list_clause, clauses_of}
use Rattle.smtlib.specs.Imported.{PlacedNode, connective, placed_from}
use Rattle.forms.specs.declared.Form.{Form}
use Rattle.forms.specs.Places.{forms_at}
use Rattle.forms.specs.Read.{CLOSE, OPEN, FormRead, FormReads}
use Rattle.forms.specs.Following.{ended_forms}
use Rattle.terms.specs.Read.{Inside}
use Rattle.laying.specs.declared.Laying.{Laying}
use Rattle.laying.specs.declared.Laid.{Laid}
use Rattle.laying.specs.Laid.{Layable, LaysMore, Refuses}
use Rattle.laying.specs.Texts.{ClauseLays}
use Rattle.laying.specs.Deeper.{Deepened, DeepenedIf}
use Rattle.laying.specs.More.{more_onward, refused_behind, refused_before}
use Rattle.importing.specs.Underway.{join_laid, JoinLaid, AssertionLaid, AssertionRefused, AssertionLays}

-- ---- the place of a formula is that of its form

joining_place : (join : ℕ → Formula → Formula → Formula) (at : ℕ) (clauses : List Clause) → (joining join at clauses).place ≡ at
unfolding joining
joining_place join at [] = refl
joining_place join at (c ∷ cs) = refl

parts_place : (h : Head) (at : ℕ) (terms : List Term) (clauses : List Clause) → (list_clause h at terms clauses).place ≡ at
unfolding list_clause comparison compared negated
parts_place plus at terms clauses = refl
parts_place minus at terms clauses = refl
parts_place times at terms clauses = refl
parts_place (compare r) at terms clauses = go terms
  where
    go : (terms : List Term) → (comparison r at terms).place ≡ at
    go [] = refl
    go (t ∷ []) = refl
    go (t ∷ u ∷ []) = refl
    go (t ∷ u ∷ v ∷ ts) = refl
parts_place negation at terms clauses = go clauses
  where
    go : (clauses : List Clause) → (negated at clauses).place ≡ at
    go [] = refl
    go (c ∷ []) = refl
    go (c ∷ d ∷ cs) = refl
parts_place conjunction at terms clauses = joining_place Formula.and at clauses
parts_place disjunction at terms clauses = joining_place Formula.or at clauses
parts_place other_head at terms clauses = refl

abbrev first_place : List Clause → ℕ
first_place [] = 0
first_place (c ∷ cs) = c.place

list_place : (names : List (List ℕ)) (at : ℕ) (inner rest : Forms) (c : Clause) (cs : List Clause) → clauses_of names (list at inner rest) ≡ c ∷ cs → c.place ≡ at
unfolding clauses_of
list_place names at nothing rest c cs e = ap (λ (l : List Clause). first_place l) (sym e)
list_place names at (word start h parts) rest c cs e = ap (λ (l : List Clause). first_place l) (sym e) ∙ parts_place (head_of h) at (terms_of names parts) (clauses_of names parts)
list_place names at (list start inner parts) rest c cs e = ap (λ (l : List Clause). first_place l) (sym e)

word_place : (names : List (List ℕ)) (at : ℕ) (w : Bare) (rest : Forms) (c : Clause) (cs : List Clause) → clauses_of names (word at w rest) ≡ c ∷ cs → c.place ≡ at
unfolding clauses_of
word_place names at w rest c cs e = ap (λ (l : List Clause). first_place l) (sym e)

no_place : (names : List (List ℕ)) (c : Clause) (cs : List Clause) → clauses_of names nothing ≡ c ∷ cs → ⊥
unfolding clauses_of
no_place names c cs e = cons≢nil (sym e)

module _ (text : List ℕ) (at depth : ℕ) (f : Form) (r : FormRead text at depth f) (names : List (List ℕ)) (c : Clause) (cs : List Clause) (e : clauses_of names (forms_at text at) ≡ c ∷ cs) where
  pub formula_place : c.place ≡ f.place
  formula_place = go (leb f.kind CLOSE) refl
    where
      open_or_word : (t : Bool) → eqb f.kind OPEN ≡ t → CLOSE < f.kind → c.place ≡ f.place
      open_or_word true k h = list_place names f.place _ _ c cs (ap (clauses_of names) (sym (r.open_list (eqb-true _ _ k)).forms) ∙ e)
      open_or_word false k h =
          let n : f.kind ≡ OPEN → ⊥ = eqb-false _ _ k in
          word_place names f.place _ _ c cs (ap (clauses_of names) (sym (r.word_here (omega arith)).forms) ∙ e)

      go : (t : Bool) → leb f.kind CLOSE ≡ t → c.place ≡ f.place
      go true k = absurd (no_place names c cs (ap (clauses_of names) (sym (ended_forms text at depth f r (leb-true _ _ k))) ∙ e))
      go false k = open_or_word (eqb f.kind OPEN) refl (leb-false _ _ k)

-- ---- laid behind its join, or by itself

module _ (place : ℕ) (c : Clause) (at_form : c.place ≡ place) (before : Laying) where
  -- the join itself is refused
  join_refused : (more : Bool) (r : Refusal) → (more ≡ true) × Refuses (connective place before.depth (node_of 4) ∷ []) before r → AssertionRefused more c before r
  join_refused more r k = record {
    joined = λ h ys. rw at_form (refused_before before (connective place before.depth (node_of 4) ∷ []) r k.1 (placed_from (suc before.depth) c.formula ++ ys));
    last = λ h. absurd (true≢false (sym k.0 ∙ h));
  }

  module _ (ready : Layable before) (begun : Laying) where
    module _ (d : Deepened (connective place before.depth (node_of 4)) before begun) where
      behind_refused : (r : Refusal) → Refuses (placed_from begun.depth c.formula) begun r → (ys : List PlacedNode) → Refuses (join_laid before.depth c ys) before r
      behind_refused r k ys = rw at_form (d.refused _ r (refused_before begun (placed_from (suc before.depth) c.formula) r (subst (λ (n : ℕ). Refuses (placed_from n c.formula) begun r) d.deeper k) ys))

      module _ (after : Laying) (laid : LaysMore (placed_from begun.depth c.formula) begun after) where
        m : LaysMore (placed_from (suc before.depth) c.formula) begun after
        m = subst (λ (k : ℕ). LaysMore (placed_from k c.formula) begun after) d.deeper laid

        join_n : after.n ≡ before.n
        join_n = (d.onward _ after m).n_kept

        join_laid_lem : JoinLaid c before after
        join_laid_lem = record {
          ready = record { few = omega (arith, join_n, ready.few) };
          deeper = m.depth_kept ∙ d.deeper;
          onward = λ ys later k. rw at_form (d.onward _ later (more_onward begun after _ m later ys k));
          refused = λ ys r k. rw at_form (d.refused _ r (refused_behind begun after _ m ys r k));
        }

    module _ (more : Bool) (d : DeepenedIf more (connective place before.depth (node_of 4)) before begun) where
      refused_laid : (r : Refusal) → Refuses (placed_from begun.depth c.formula) begun r → AssertionRefused more c before r
      refused_laid r k = record {
        joined = λ e. behind_refused (d.asked_for e) r k;
        last = λ e. subst (λ (l : Laying). Refuses (placed_from l.depth c.formula) l r) (d.as_before e) k;
      }

      behind_laid : (after : Laying) → LaysMore (placed_from begun.depth c.formula) begun after → AssertionLaid more c before after
      behind_laid after laid = go more refl
        where
          go : (t : Bool) → more ≡ t → AssertionLaid more c before after
          go true e = record { n_kept = join_n (d.asked_for e) after laid; joins = λ h. join_laid_lem (d.asked_for e) after laid; last = λ h. absurd (true≢false (sym e ∙ h)) }
          go false e =
              let by_itself : LaysMore (placed_from before.depth c.formula) before after = subst (λ (l : Laying). LaysMore (placed_from l.depth c.formula) l after) (d.as_before e) laid in
              record { n_kept = by_itself.n_kept; joins = λ h. absurd (true≢false (sym h ∙ e)); last = λ h. by_itself }

-- ---- in the text

pub assertion_ready : (more : Bool) (x : PlacedNode) (before begun : Laying) → Layable before → DeepenedIf more x before begun → Layable begun
assertion_ready more x before begun ready d = go more refl
  where
    go : (t : Bool) → more ≡ t → Layable begun
    go true e = (d.asked_for e).ready
    go false e = subst Layable (sym (d.as_before e)) ready

module _ (text : List ℕ) (at : ℕ) (names : List (List ℕ)) (i : Inside text at 31) (f : Form) (reads : FormReads text at f) (more : Bool) (before : Laying) where
  form_place : (c : Clause) (rest : List Clause) → clauses_of names (forms_at text at) ≡ c ∷ rest → c.place ≡ f.place
  unfolding FormReads
  form_place c rest e = formula_place text at (most_nesting - 31) f (reads (most_nesting - 31) i.unbroken) names c rest e

  pub assertion_refused : (r : Refusal) → (more ≡ true) × Refuses (connective f.place before.depth (node_of 4) ∷ []) before r → AssertionLays text at names more before (Err r)
  unfolding AssertionLays
  assertion_refused r k c rest e = join_refused f.place c (form_place c rest e) before more r k

  module _ (ready : Layable before) (begun : Laying) (d : DeepenedIf more (connective f.place before.depth (node_of 4)) before begun) where
    pub assertion_stopped : (r : Refusal) → ClauseLays text at (most_nesting - 31) names begun (Err r) → AssertionLays text at names more before (Err r)
    unfolding AssertionLays ClauseLays
    assertion_stopped r lays c rest e = refused_laid f.place c (form_place c rest e) before ready begun more d r (lays c rest e)

    pub assertion_follows : (r : Laid) → ClauseLays text at (most_nesting - 31) names begun (Ok r) → AssertionLays text at names more before (Ok r.laying)
    unfolding AssertionLays ClauseLays
    assertion_follows r lays c rest e = behind_laid f.place c (form_place c rest e) before ready begun more d r.laying (lays c rest e).laid
