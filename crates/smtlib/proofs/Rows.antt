-- Every atom that is read has six coefficients.
use Rattle.std.specs.Prelude.{◌≡◌, ℕ, suc, length, ℤ}
use Rattle.std.proofs.Math.Path.{refl}
use Rattle.std.proofs.Common.{subst, arith, length-drop}
use mathlib.Core.List.{List, [], ◌∷◌}
use Rattle.scope.specs.Sizes.{most_variables}
use Rattle.theory.specs.Numbers.Joined.{Each, each_append}
use Rattle.smtlib.specs.Forms.{Forms, nothing, word, list}
use Rattle.smtlib.specs.Terms.{Relation, equal, at_most, below, at_least, above, Head, plus, minus, times, compare, negation, conjunction, disjunction, other_head, head_of, Term, terms_of}
use Rattle.smtlib.specs.Formulas.{Formula, Clause, sides, compared, comparison, negated, joined_at, joining, list_clause, clauses_of}
use Rattle.smtlib.specs.Script.{Command, Script, names_of, script_of}
use Rattle.smtlib.specs.Imported.{conjoined}
use Rattle.smtlib.specs.Laws.{Seven, less_seven, terms_seven}
use Rattle.smtlib.specs.Rows.{RowsOfSix, ClauseOfSix}
use Rattle.smtlib.specs.Steps.{Change, nothing_new, new_name, new_sign, new_clause, CommandStep, script_keeps}

sides_seven : (r : Relation) (k l : List ℤ) → length k ≡ suc most_variables → length l ≡ suc most_variables → length (sides r k l) ≡ suc most_variables
unfolding sides
sides_seven equal k l e f = less_seven k l e f
sides_seven at_most k l e f = less_seven k l e f
sides_seven below k l e f = less_seven k l e f
sides_seven at_least k l e f = less_seven l k f e
sides_seven above k l e f = less_seven l k f e

comparison_six : (r : Relation) (at : ℕ) (ts : List Term) → Each Seven ts → ClauseOfSix (comparison r at ts)
unfolding comparison compared
comparison_six r at [] s = refl
comparison_six r at (t ∷ []) s = refl
comparison_six r at (t ∷ u ∷ []) s = omega (arith, length-drop 1 (sides r t.numbers u.numbers), sides_seven r t.numbers u.numbers s.0 s.1.0)
comparison_six r at (t ∷ u ∷ w ∷ ts) s = refl

negated_six : (at : ℕ) (cs : List Clause) → Each ClauseOfSix cs → ClauseOfSix (negated at cs)
unfolding negated
negated_six at [] h = refl
negated_six at (c ∷ []) h = h.0
negated_six at (c ∷ d ∷ cs) h = refl

module _ (join : ℕ → Formula → Formula → Formula) (both : (at : ℕ) (f g : Formula) → RowsOfSix f → RowsOfSix g → RowsOfSix (join at f g)) where
  joined_six : (at : ℕ) (c : Clause) (cs : List Clause) → Each ClauseOfSix (c ∷ cs) → RowsOfSix (joined_at join at c cs)
  unfolding joined_at
  joined_six at c [] h = h.0
  joined_six at c (d ∷ cs) h = both at c.formula (joined_at join d.place d cs) h.0 (joined_six d.place d cs h.1)

  joining_six : (at : ℕ) (cs : List Clause) → Each ClauseOfSix cs → ClauseOfSix (joining join at cs)
  unfolding joining
  joining_six at [] h = refl
  joining_six at (c ∷ cs) h = joined_six at c cs h

list_six : (d : Head) (at : ℕ) (ts : List Term) (cs : List Clause) → Each Seven ts → Each ClauseOfSix cs → ClauseOfSix (list_clause d at ts cs)
unfolding list_clause
list_six plus at ts cs s h = refl
list_six minus at ts cs s h = refl
list_six times at ts cs s h = refl
list_six (compare r) at ts cs s h = comparison_six r at ts s
list_six negation at ts cs s h = negated_six at cs h
list_six conjunction at ts cs s h = joining_six Formula.and (λ at f g p q. (p, q)) at cs h
list_six disjunction at ts cs s h = joining_six Formula.or (λ at f g p q. (p, q)) at cs h
list_six other_head at ts cs s h = refl

pub clauses_six : (names : List (List ℕ)) (forms : Forms) → Each ClauseOfSix (clauses_of names forms)
unfolding clauses_of
clauses_six names nothing = tt
clauses_six names (word at w rest) = (refl, clauses_six names rest)
clauses_six names (list at nothing rest) = (refl, clauses_six names rest)
clauses_six names (list at (word start h parts) rest) =
    (list_six (head_of h) at (terms_of names parts) (clauses_of names parts) (terms_seven names parts) (clauses_six names parts), clauses_six names rest)
clauses_six names (list at (list start inner parts) rest) = (refl, clauses_six names rest)

six_kept : (s r : Script) (c : Command) (parts : Forms) → CommandStep s r c parts → Each ClauseOfSix s.asserted → Each ClauseOfSix r.asserted
six_kept s r c parts step h = go step.change
  where
    go : Change s r c parts → Each ClauseOfSix r.asserted
    go (nothing_new d a q) = rw a h
    go (new_name k g i f room d a) = rw a h
    go (new_sign w g f d a) = rw a h
    go (new_clause k g i f d a) = rw a (each_append ClauseOfSix s.asserted (k ∷ []) h (subst (Each ClauseOfSix) i (clauses_six (names_of s.declarations) parts)))

conjoined_six : (cs : List Clause) → Each ClauseOfSix cs → RowsOfSix (conjoined cs)
conjoined_six [] h = refl
conjoined_six (c ∷ cs) h = joined_six Formula.and (λ at f g p q. (p, q)) c.place c cs h

pub script_six : (forms : Forms) → RowsOfSix (conjoined (script_of forms).asserted)
script_six forms = conjoined_six (script_of forms).asserted (script_keeps (λ s. Each ClauseOfSix s.asserted) six_kept tt forms)
