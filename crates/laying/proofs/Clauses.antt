-- Formulas without fault: what their lists are, by their heads. Assumes nothing.
use Prim.Native.Nat.{ℕ, suc, ◌≤◌}
use native.Mathlib.Decide.{ℕ_discrete}
use native.Mathlib.Omega.{arith}
use mathlib.Core.Path.{◌≡◌, refl, sym, ap, ◌∙◌}
use mathlib.Core.Logic.{by_cases}
use mathlib.Core.Option.{Option, none, some}
use mathlib.Core.List.{List, [], ◌∷◌, ◌++◌, append-nil}
use lib.ListN.{length, get_or, drop}
use lib.IntN.{pos, neg_ℤ}
use Rattle.scope.specs.Question.{Node}
use Rattle.smtlib.specs.Forms.{Bare, Forms, nothing, word, list}
use Rattle.smtlib.specs.Terms.{Relation, equal, at_most, below, at_least, above, Head, plus, minus, times, compare, negation, conjunction, disjunction, other_head, head_of, Term, terms_of}
use Rattle.smtlib.specs.Formulas.{Formula, Clause, kind_for, lowered, comparison, compared, faults_among, negated, joined_at, joining, list_clause, clauses_of}
use Rattle.smtlib.specs.Imported.{connective, placed_from}
use Rattle.forms.specs.Read.{rest_of}
use Rattle.terms.specs.Heads.{head_code, head_in}
use Rattle.terms.specs.Gathered.{sides_term, gathered}
use Rattle.laying.specs.Noted.{relation_of, comparison_laid}
use Rattle.laying.specs.Joins.{join_of, clause_start}
use Rattle.laying.specs.Texts.{FirstFaultless, AllFaultless, form_start, join_code}

pub fault_there : {at : ℕ} {l : List ℕ} → ◌≡◌ {A = List ℕ} (at ∷ l) [] → ⊥
fault_there {at} {l} e = let n : length (at ∷ l) ≡ 0 = ap (λ (k : List ℕ). length k) e in omega arith

-- ---- forms that are no formula without fault

pub no_form_faultless : (names : List (List ℕ)) (f : Forms) → f ≡ nothing → FirstFaultless (clauses_of names f) → ⊥
unfolding clauses_of
no_form_faultless names f e h = rw e at h

pub word_faulty : (names : List (List ℕ)) (f : Forms) (at : ℕ) (w : Bare) (rest : Forms) → f ≡ word at w rest → FirstFaultless (clauses_of names f) → ⊥
unfolding clauses_of
word_faulty names f at w rest e h = fault_there (rw e at h)

other_clause : (h : Head) (at : ℕ) (ts : List Term) (cs : List Clause) → head_code other_head ≤ head_code h → (list_clause h at ts cs).faults ≡ [] → ⊥
unfolding list_clause
other_clause plus at ts cs e f = omega (arith, e)
other_clause minus at ts cs e f = omega (arith, e)
other_clause times at ts cs e f = omega (arith, e)
other_clause (compare equal) at ts cs e f = omega (arith, e)
other_clause (compare at_most) at ts cs e f = omega (arith, e)
other_clause (compare below) at ts cs e f = omega (arith, e)
other_clause (compare at_least) at ts cs e f = omega (arith, e)
other_clause (compare above) at ts cs e f = omega (arith, e)
other_clause negation at ts cs e f = omega (arith, e)
other_clause conjunction at ts cs e f = omega (arith, e)
other_clause disjunction at ts cs e f = omega (arith, e)
other_clause other_head at ts cs e f = fault_there f

pub other_list_faulty : (names : List (List ℕ)) (at : ℕ) (inner rest : Forms) → head_code other_head ≤ head_code (head_in inner) → FirstFaultless (clauses_of names (list at inner rest)) → ⊥
unfolding clauses_of
other_list_faulty names at nothing rest e h = fault_there h
other_list_faulty names at (word start w parts) rest e h = other_clause (head_of w) at _ _ e h
other_list_faulty names at (list start inner parts) rest e h = fault_there h

-- ---- comparisons

comparison_faultless : (r : Relation) (at : ℕ) (ts : List Term) → (comparison r at ts).faults ≡ [] → (sides_term r at ts).faults ≡ []
unfolding comparison compared sides_term
comparison_faultless r at [] f = f
comparison_faultless r at (t ∷ []) f = f
comparison_faultless r at (t ∷ u ∷ []) f = f
comparison_faultless r at (t ∷ u ∷ v ∷ ts) f = f

-- the atom, by the numbers of both sides
comparison_atom : (r : Relation) (at : ℕ) (ts : List Term) → (comparison r at ts).faults ≡ [] → let l = (sides_term r at ts).numbers in (comparison r at ts).formula ≡ Formula.atom at (kind_for r) (drop 1 l) (lowered r (neg_ℤ (get_or l 0 (pos 0))))
unfolding comparison compared sides_term
comparison_atom r at [] f = absurd (fault_there f)
comparison_atom r at (t ∷ []) f = absurd (fault_there f)
comparison_atom r at (t ∷ u ∷ []) f = refl
comparison_atom r at (t ∷ u ∷ v ∷ ts) f = absurd (fault_there f)

relation_of_lem : (r : Relation) → relation_of (head_code (compare r)) ≡ r
relation_of_lem equal = refl
relation_of_lem at_most = refl
relation_of_lem below = refl
relation_of_lem at_least = refl
relation_of_lem above = refl

pub relation_code : (head : ℕ) → 3 ≤ head → head ≤ 7 → head ≡ head_code (compare (relation_of head))
relation_code head l m =
    by_cases (ℕ_discrete head 3) (λ e. rw e refl)
    (λ a. by_cases (ℕ_discrete head 4) (λ e. rw e refl)
    (λ b. by_cases (ℕ_discrete head 5) (λ e. rw e refl)
    (λ c. by_cases (ℕ_discrete head 6) (λ e. rw e refl)
    (λ d. let e : head ≡ 7 = omega arith in rw e refl))))

-- a comparison without fault, from the numbers that were gathered
pub record SidesTold (depth head at : ℕ) (h : Head) (ts : List Term) (cs : List Clause) : Type 0 where
  pub gathered_faultless : (gathered h at ts).faults ≡ []
  pub placed : placed_from depth (list_clause h at ts cs).formula ≡ comparison_laid depth head at (gathered h at ts).numbers ∷ []

pub sides_told : (depth head at : ℕ) (h : Head) (ts : List Term) (cs : List Clause) → 3 ≤ head → head ≤ 7 → head ≡ head_code h → (list_clause h at ts cs).faults ≡ [] → SidesTold depth head at h ts cs
unfolding list_clause placed_from
sides_told depth head at plus ts cs l m e f = absurd (let z : ⊥ = omega (arith, e) in z)
sides_told depth head at minus ts cs l m e f = absurd (let z : ⊥ = omega (arith, e) in z)
sides_told depth head at times ts cs l m e f = absurd (let z : ⊥ = omega (arith, e) in z)
sides_told depth head at (compare r) ts cs l m e f = record {
  gathered_faultless = comparison_faultless r at ts f;
  placed = ap (placed_from depth) (comparison_atom r at ts f) ∙ rw (e, relation_of_lem r) refl;
}
sides_told depth head at negation ts cs l m e f = absurd (let z : ⊥ = omega (arith, e) in z)
sides_told depth head at conjunction ts cs l m e f = absurd (let z : ⊥ = omega (arith, e) in z)
sides_told depth head at disjunction ts cs l m e f = absurd (let z : ⊥ = omega (arith, e) in z)
sides_told depth head at other_head ts cs l m e f = absurd (let z : ⊥ = omega (arith, e) in z)

-- ---- connectives

-- the parts, and how they are placed: below a negation, or joined
pub record ConnectiveTold (depth code at : ℕ) (h : Head) (ts : List Term) (cs : List Clause) : Type 0 where
  pub parts_faultless : AllFaultless cs
  pub negates : code ≡ 8 → placed_from depth (list_clause h at ts cs).formula ≡ connective at depth Node.not ∷ placed_from (suc depth) (joining (join_of (join_code code)) at cs).formula
  pub joins : (code ≡ 8 → ⊥) → (list_clause h at ts cs).formula ≡ (joining (join_of (join_code code)) at cs).formula

negation_told : (depth code at : ℕ) (ts : List Term) (cs : List Clause) → code ≡ 8 → (negated at cs).faults ≡ [] → ConnectiveTold depth code at negation ts cs
unfolding list_clause negated joining joined_at faults_among placed_from
negation_told depth code at ts [] e f = absurd (fault_there f)
negation_told depth code at ts (c ∷ []) e f = record { parts_faultless = append-nil c.faults ∙ f; negates = λ z. refl; joins = λ z. absurd (z e) }
negation_told depth code at ts (c ∷ d ∷ cs) e f = absurd (fault_there f)

joining_told : (join : ℕ → Formula → Formula → Formula) (at : ℕ) (cs : List Clause) → (joining join at cs).faults ≡ [] → AllFaultless cs
unfolding joining
joining_told join at [] f = fault_there f
joining_told join at (c ∷ cs) f = f

pub connective_told : (depth code at : ℕ) (h : Head) (ts : List Term) (cs : List Clause) → 8 ≤ code → code ≡ head_code h → (list_clause h at ts cs).faults ≡ [] → ConnectiveTold depth code at h ts cs
unfolding list_clause
connective_told depth code at plus ts cs l e f = absurd (let z : ⊥ = omega (arith, e) in z)
connective_told depth code at minus ts cs l e f = absurd (let z : ⊥ = omega (arith, e) in z)
connective_told depth code at times ts cs l e f = absurd (let z : ⊥ = omega (arith, e) in z)
connective_told depth code at (compare equal) ts cs l e f = absurd (let z : ⊥ = omega (arith, e) in z)
connective_told depth code at (compare at_most) ts cs l e f = absurd (let z : ⊥ = omega (arith, e) in z)
connective_told depth code at (compare below) ts cs l e f = absurd (let z : ⊥ = omega (arith, e) in z)
connective_told depth code at (compare at_least) ts cs l e f = absurd (let z : ⊥ = omega (arith, e) in z)
connective_told depth code at (compare above) ts cs l e f = absurd (let z : ⊥ = omega (arith, e) in z)
connective_told depth code at negation ts cs l e f = negation_told depth code at ts cs e f
connective_told depth code at conjunction ts cs l e f =
    record { parts_faultless = joining_told Formula.and at cs f; negates = λ z. absurd (let y : ⊥ = omega (arith, e, z) in y); joins = λ z. rw e refl }
connective_told depth code at disjunction ts cs l e f =
    record { parts_faultless = joining_told Formula.or at cs f; negates = λ z. absurd (let y : ⊥ = omega (arith, e, z) in y); joins = λ z. rw e refl }
connective_told depth code at other_head ts cs l e f = absurd (fault_there f)

-- a head of a list without fault is one of eight
pub head_known : (h : Head) (at : ℕ) (ts : List Term) (cs : List Clause) → (list_clause h at ts cs).faults ≡ [] → 3 ≤ head_code h
unfolding list_clause
head_known plus at ts cs f = absurd (fault_there f)
head_known minus at ts cs f = absurd (fault_there f)
head_known times at ts cs f = absurd (fault_there f)
head_known (compare equal) at ts cs f = omega arith
head_known (compare at_most) at ts cs f = omega arith
head_known (compare below) at ts cs f = omega arith
head_known (compare at_least) at ts cs f = omega arith
head_known (compare above) at ts cs f = omega arith
head_known negation at ts cs f = omega arith
head_known conjunction at ts cs f = omega arith
head_known disjunction at ts cs f = omega arith
head_known other_head at ts cs f = omega arith

comparison_place : (r : Relation) (at : ℕ) (ts : List Term) → (comparison r at ts).place ≡ at
unfolding comparison compared
comparison_place r at [] = refl
comparison_place r at (t ∷ []) = refl
comparison_place r at (t ∷ u ∷ []) = refl
comparison_place r at (t ∷ u ∷ v ∷ ts) = refl

negated_place : (at : ℕ) (cs : List Clause) → (negated at cs).place ≡ at
unfolding negated
negated_place at [] = refl
negated_place at (c ∷ []) = refl
negated_place at (c ∷ d ∷ cs) = refl

joining_place : (join : ℕ → Formula → Formula → Formula) (at : ℕ) (cs : List Clause) → (joining join at cs).place ≡ at
unfolding joining
joining_place join at [] = refl
joining_place join at (c ∷ cs) = refl

-- a list's place is its formula's
list_place : (h : Head) (at : ℕ) (ts : List Term) (cs : List Clause) → (list_clause h at ts cs).place ≡ at
unfolding list_clause
list_place plus at ts cs = refl
list_place minus at ts cs = refl
list_place times at ts cs = refl
list_place (compare r) at ts cs = comparison_place r at ts
list_place negation at ts cs = negated_place at cs
list_place conjunction at ts cs = joining_place Formula.and at cs
list_place disjunction at ts cs = joining_place Formula.or at cs
list_place other_head at ts cs = refl

-- ---- the parts of a list

some_not_none : {A : Type 0} {a : A} → ◌≡◌ {A = Option A} (some a) none → ⊥
some_not_none e = let z : ◌≡◌ {A = ℕ} 0 1 = cc in omega arith

-- the first part, and those behind it
pub record FirstPart (names : List (List ℕ)) (forms : Forms) : Type 0 where
  pub first : Clause
  pub clauses : clauses_of names forms ≡ first ∷ clauses_of names (rest_of forms)
  pub first_faultless : first.faults ≡ []
  pub later_faultless : faults_among (clauses_of names (rest_of forms)) ≡ []

both_faultless : (k l : List ℕ) → k ++ l ≡ [] → (k ≡ []) × (l ≡ [])
both_faultless [] l e = (refl, e)
both_faultless (a ∷ k) l e = absurd (fault_there e)

first_part_of : (names : List (List ℕ)) (forms : Forms) (c : Clause) → clauses_of names forms ≡ c ∷ clauses_of names (rest_of forms) → AllFaultless (clauses_of names forms) → FirstPart names forms
unfolding faults_among
first_part_of names forms c e f =
    let h = both_faultless c.faults (faults_among (clauses_of names (rest_of forms))) (rw e at f) in
    record { first = c; clauses = e; first_faultless = h.0; later_faultless = h.1 }

pub first_part : (names : List (List ℕ)) (forms : Forms) → AllFaultless (clauses_of names forms) → FirstPart names forms
unfolding clauses_of
first_part names nothing f = absurd f
first_part names (word at w rest) f = first_part_of names (word at w rest) _ refl f
first_part names (list at nothing rest) f = first_part_of names (list at nothing rest) _ refl f
first_part names (list at (word start w parts) rest) f = first_part_of names (list at (word start w parts) rest) _ refl f
first_part names (list at (list start inner parts) rest) f = first_part_of names (list at (list start inner parts) rest) _ refl f

-- where the first part stands
pub clause_start_lem : (names : List (List ℕ)) (forms : Forms) → clause_start (clauses_of names forms) ≡ form_start forms
unfolding clauses_of
clause_start_lem names nothing = refl
clause_start_lem names (word at w rest) = refl
clause_start_lem names (list at nothing rest) = refl
clause_start_lem names (list at (word start w parts) rest) = ap some (list_place (head_of w) at (terms_of names parts) (clauses_of names parts))
clause_start_lem names (list at (list start inner parts) rest) = refl

-- where another part follows
pub later_parts : (names : List (List ℕ)) (place : ℕ) (forms : Forms) (p : FirstPart names forms) → form_start (rest_of forms) ≡ some place → AllFaultless (clauses_of names (rest_of forms))
unfolding clauses_of
later_parts names place forms p e = go (rest_of forms) e p.later_faultless
  where
    go : (rest : Forms) → form_start rest ≡ some place → faults_among (clauses_of names rest) ≡ [] → AllFaultless (clauses_of names rest)
    go nothing e f = some_not_none (sym e)
    go (word start w rest) e f = f
    go (list start nothing rest) e f = f
    go (list start (word s w parts) rest) e f = f
    go (list start (list s inner parts) rest) e f = f
