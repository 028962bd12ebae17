-- What the faults of a list are, by its head.
use Prim.Native.Nat.{ℕ, suc, ◌≤◌, ◌<◌}
use native.Mathlib.Omega.{arith}
use mathlib.Core.Path.{◌≡◌, refl, sym, ap, ◌∙◌}
use mathlib.Core.Bool.{cond}
use mathlib.Core.Option.{some}
use mathlib.Core.List.{List, [], ◌∷◌, ◌++◌, append-nil}
use lib.ListN.{length}
use borrow.Author.Tests.{ne_eqb}
use Rattle.smtlib.specs.Forms.{Forms, nothing, word, list}
use Rattle.smtlib.specs.Terms.{Relation, equal, at_most, below, at_least, above, Head, plus, minus, times, compare, negation, conjunction, disjunction, other_head, head_of, Term}
use Rattle.smtlib.specs.Formulas.{Formula, Clause, outside_clause, comparison, compared, faults_among, negated, joining, list_clause, clauses_of}
use Rattle.smtlib.specs.Script.{lowest_of}
use Rattle.smtlib.specs.Laws.{lower_of, lowest_append, faults_among_append}
use Rattle.lexicon.specs.Spots.{spot_of}
use Rattle.terms.specs.Heads.{head_code, head_in, KindSays}
use Rattle.terms.specs.declared.heads.ListKind.{ListKind}
use Rattle.terms.specs.Gathered.{sides_term, gathered}
use Rattle.clauses.specs.Read.{takes_parts}

-- ---- a comparison: its two sides'

comparison_faults : (r : Relation) (at : ℕ) (ts : List Term) → (comparison r at ts).faults ≡ (sides_term r at ts).faults
unfolding comparison compared sides_term
comparison_faults r at [] = refl
comparison_faults r at (t ∷ []) = refl
comparison_faults r at (t ∷ u ∷ []) = refl
comparison_faults r at (t ∷ u ∷ v ∷ ts) = refl

pub sides_faults : (h : Head) (at : ℕ) (ts : List Term) (cs : List Clause) → head_code h < 8 → 2 < head_code h → (gathered h at ts).faults ≡ (list_clause h at ts cs).faults
unfolding list_clause
sides_faults plus at ts cs l m = absurd (omega arith)
sides_faults minus at ts cs l m = absurd (omega arith)
sides_faults times at ts cs l m = absurd (omega arith)
sides_faults (compare r) at ts cs l m = sym (comparison_faults r at ts)
sides_faults negation at ts cs l m = absurd (omega arith)
sides_faults conjunction at ts cs l m = absurd (omega arith)
sides_faults disjunction at ts cs l m = absurd (omega arith)
sides_faults other_head at ts cs l m = absurd (omega arith)

-- ---- a connective: its parts', or its place alone

-- what it tells with these parts, by its code
abbrev Tells : ℕ → ℕ → List Clause → Clause → Type 0
Tells head at cs c = cond (takes_parts head (length cs)) (spot_of (lowest_of (faults_among cs))) (spot_of (some at)) ≡ spot_of (lowest_of c.faults)

negated_tells : (at : ℕ) (cs : List Clause) → Tells (head_code negation) at cs (negated at cs)
unfolding negated faults_among lowest_of
negated_tells at [] = refl
negated_tells at (c ∷ []) = ap (λ (l : List ℕ). spot_of (lowest_of l)) (append-nil c.faults)
negated_tells at (c ∷ d ∷ cs) = rw (ne_eqb (suc (suc (length cs))) 1 (omega arith)) refl

joining_tells : (head at : ℕ) (join : ℕ → Formula → Formula → Formula) (cs : List Clause) → head_code negation < head → Tells head at cs (joining join at cs)
unfolding joining faults_among lowest_of
joining_tells head at join [] l = rw (ne_eqb head 8 (omega arith)) refl
joining_tells head at join (c ∷ cs) l = rw (ne_eqb head 8 (omega arith), ne_eqb (suc (length cs)) 0 (omega arith)) refl

pub connective_tells : (h : Head) (at : ℕ) (ts : List Term) (cs : List Clause) → 8 ≤ head_code h → head_code h ≤ 10 → Tells (head_code h) at cs (list_clause h at ts cs)
unfolding list_clause
connective_tells plus at ts cs l m = absurd (omega arith)
connective_tells minus at ts cs l m = absurd (omega arith)
connective_tells times at ts cs l m = absurd (omega arith)
connective_tells (compare equal) at ts cs l m = absurd (omega arith)
connective_tells (compare at_most) at ts cs l m = absurd (omega arith)
connective_tells (compare below) at ts cs l m = absurd (omega arith)
connective_tells (compare at_least) at ts cs l m = absurd (omega arith)
connective_tells (compare above) at ts cs l m = absurd (omega arith)
connective_tells negation at ts cs l m = negated_tells at cs
connective_tells conjunction at ts cs l m = joining_tells 9 at _ cs (omega arith)
connective_tells disjunction at ts cs l m = joining_tells 10 at _ cs (omega arith)
connective_tells other_head at ts cs l m = absurd (omega arith)

-- one part more
pub lowest_among : (cs : List Clause) (c : Clause) → lowest_of (faults_among (cs ++ (c ∷ []))) ≡ lower_of (lowest_of (faults_among cs)) (lowest_of c.faults)
unfolding faults_among
lowest_among cs c =
    ap lowest_of (faults_among_append cs (c ∷ []) ∙ ap (λ (l : List ℕ). faults_among cs ++ l) (append-nil c.faults))
    ∙ lowest_append (faults_among cs) c.faults

-- ---- any other list: its place

abbrev pub NoFormula : ℕ → Type 0
NoFormula code = (3 ≤ code) × (code ≤ 10) → ⊥

pub no_formula : {code : ℕ} (k : ListKind) → KindSays code k → (k ≡ ListKind.Comparison → ⊥) → (k ≡ ListKind.Connective → ⊥) → NoFormula code
no_formula ListKind.Term s c n h = omega (arith, s, h.0)
no_formula ListKind.Comparison s c n h = absurd (c refl)
no_formula ListKind.Connective s c n h = absurd (n refl)
no_formula ListKind.Other s c n h = omega (arith, s, h.1)

other_list_outside : (h : Head) (at : ℕ) (ts : List Term) (cs : List Clause) → NoFormula (head_code h) → list_clause h at ts cs ≡ outside_clause at
unfolding list_clause
other_list_outside plus at ts cs n = refl
other_list_outside minus at ts cs n = refl
other_list_outside times at ts cs n = refl
other_list_outside (compare equal) at ts cs n = absurd (n (omega arith))
other_list_outside (compare at_most) at ts cs n = absurd (n (omega arith))
other_list_outside (compare below) at ts cs n = absurd (n (omega arith))
other_list_outside (compare at_least) at ts cs n = absurd (n (omega arith))
other_list_outside (compare above) at ts cs n = absurd (n (omega arith))
other_list_outside negation at ts cs n = absurd (n (omega arith))
other_list_outside conjunction at ts cs n = absurd (n (omega arith))
other_list_outside disjunction at ts cs n = absurd (n (omega arith))
other_list_outside other_head at ts cs n = refl

pub other_clauses : (names : List (List ℕ)) (at : ℕ) (inner rest : Forms) → NoFormula (head_code (head_in inner)) → clauses_of names (list at inner rest) ≡ outside_clause at ∷ clauses_of names rest
unfolding clauses_of
other_clauses names at nothing rest n = refl
other_clauses names at (word start w parts) rest n = ap (λ (c : Clause). c ∷ clauses_of names rest) (other_list_outside (head_of w) at _ _ n)
other_clauses names at (list start inner parts) rest n = refl
