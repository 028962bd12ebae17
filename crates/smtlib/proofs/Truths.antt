-- A comparison's atom says what the comparison says, and a formula that is read without a fault is true where the text says so.
use Rattle.std.specs.Prelude.{◌≡◌, refl, Bool, ◌&&◌, ◌||◌, ℕ, length, get_or, take, drop, pos, neg_ℤ, ◌+ℤ◌, ◌-ℤ◌, ◌*ℤ◌, ◌≤ℤ◌, ◌<ℤ◌}
use Rattle.std.proofs.Math.Path.{sym, ap}
use Rattle.std.proofs.Common.{◌∙◌, arith}
use Rattle.std.proofs.Math.Bool.{false, not, and-true, or-false}
use mathlib.Core.List.{List, [], ◌∷◌, cons≢nil}
use Rattle.std.proofs.Math.IntN.{ℤ}
use Rattle.std.specs.Int.Signed.{le_z, lt_z, le_z_yes, lt_z_yes}
use Rattle.scope.specs.Whole.{eq_z}
use Rattle.scope.specs.States.{dot, compares, holds}
use Rattle.scope.specs.Tree.{true_for}
use Rattle.theory.specs.Numbers.Bridge.{as_D, linear}
use Rattle.theory.specs.Numbers.Integers.{eqZ→eq, eq→eq_z}
use Rattle.theory.specs.Numbers.Joined.{Each}
use Rattle.theory.specs.Numbers.Tests.{same_test}
use Rattle.smtlib.specs.Forms.{Forms, nothing, word, list}
use Rattle.smtlib.specs.Terms.{Relation, equal, at_most, below, at_least, above, Head, plus, minus, times, compare, negation, conjunction, disjunction, other_head, head_of, less, Term, faults_in, terms_of}
use Rattle.smtlib.specs.Formulas.{Formula, Clause, outside_clause, sides, kind_for, lowered, compared, comparison, faults_among, negated, joined_at, joining, list_clause, clauses_of}
use Rattle.smtlib.specs.Imported.{tree_of}
use Rattle.smtlib.specs.Meaning.{relates, chained, every, any, truth_by, values_of, truths_of}
use Rattle.smtlib.specs.Laws.{Seven, terms_seven}
use Rattle.smtlib.specs.Values.{value_at, less_value, append_none, collecting_none, two_faults, EachWorth, Named, terms_worth}

-- ---- comparisons: m + k = a - b

module _ (m k a b : ℤ) (e : m +ℤ k ≡ a -ℤ b) where
  eq_there : m +ℤ k ≡ a -ℤ b → m ≡ neg_ℤ k → a ≡ b
  eq_there = rw (as_D a, as_D b, as_D m, as_D k) (simp linear (omega arith))

  eq_back : m +ℤ k ≡ a -ℤ b → a ≡ b → m ≡ neg_ℤ k
  eq_back = rw (as_D a, as_D b, as_D m, as_D k) (simp linear (omega arith))

  le_there : m +ℤ k ≡ a -ℤ b → m ≤ℤ neg_ℤ k → a ≤ℤ b
  le_there = rw (as_D a, as_D b, as_D m, as_D k) (simp linear (omega arith))

  le_back : m +ℤ k ≡ a -ℤ b → a ≤ℤ b → m ≤ℤ neg_ℤ k
  le_back = rw (as_D a, as_D b, as_D m, as_D k) (simp linear (omega arith))

  lt_there : m +ℤ k ≡ a -ℤ b → m ≤ℤ (neg_ℤ k -ℤ pos 1) → a <ℤ b
  lt_there = rw (as_D a, as_D b, as_D m, as_D k) (simp linear (omega arith))

  lt_back : m +ℤ k ≡ a -ℤ b → a <ℤ b → m ≤ℤ (neg_ℤ k -ℤ pos 1)
  lt_back = rw (as_D a, as_D b, as_D m, as_D k) (simp linear (omega arith))

  equal_same : eq_z m (neg_ℤ k) ≡ eq_z a b
  equal_same = same_test (eq_z m (neg_ℤ k)) (eq_z a b) (λ t. eq→eq_z a b (eq_there e (eqZ→eq m (neg_ℤ k) t))) (λ t. eq→eq_z m (neg_ℤ k) (eq_back e (eqZ→eq a b t)))

  at_most_same : le_z m (neg_ℤ k) ≡ le_z a b
  at_most_same = same_test (le_z m (neg_ℤ k)) (le_z a b) (λ t. (le_there e (le_z_yes t)).le) (λ t. (le_back e (le_z_yes t)).le)

  below_same : le_z m (neg_ℤ k -ℤ pos 1) ≡ lt_z a b
  below_same = same_test (le_z m (neg_ℤ k -ℤ pos 1)) (lt_z a b) (λ t. (lt_there e (le_z_yes t)).lt) (λ t. (lt_back e (lt_z_yes t)).le)

-- coefficients beyond the values count nothing
dot_take : (l : List ℤ) (xs : List ℕ) → dot (take (length xs) l) xs ≡ dot l xs
unfolding dot
dot_take [] [] = refl
dot_take [] (x ∷ xs) = refl
dot_take (a ∷ l) [] = refl
dot_take (a ∷ l) (x ∷ xs) = ap (λ (z : ℤ). a *ℤ pos x +ℤ z) (dot_take l xs)

value_parts : (l : List ℤ) (xs : List ℕ) → dot (drop 1 l) xs +ℤ get_or l 0 (pos 0) ≡ value_at xs l
unfolding dot
value_parts [] xs = refl
value_parts (a ∷ l) xs = turned a (dot l xs)
  where
    turned : (a m : ℤ) → m +ℤ a ≡ a *ℤ pos 1 +ℤ m
    turned a m = rw (as_D a, as_D m) (simp linear (omega arith))

module _ (xs : List ℕ) where
  module _ (t u : List ℤ) (a b : ℤ) (long : length t ≡ length u) (e : value_at xs t ≡ a) (f : value_at xs u ≡ b) where
    left_less : dot (drop 1 (less t u)) xs +ℤ get_or (less t u) 0 (pos 0) ≡ a -ℤ b
    left_less = value_parts (less t u) xs ∙ less_value xs t u a b long e f

    right_less : dot (drop 1 (less u t)) xs +ℤ get_or (less u t) 0 (pos 0) ≡ b -ℤ a
    right_less = value_parts (less u t) xs ∙ less_value xs u t b a (sym long) f e

    sides_same : (r : Relation) → compares (kind_for r) (dot (drop 1 (sides r t u)) xs) (lowered r (neg_ℤ (get_or (sides r t u) 0 (pos 0)))) ≡ relates r a b
    unfolding sides
    sides_same equal = equal_same (dot (drop 1 (less t u)) xs) (get_or (less t u) 0 (pos 0)) a b left_less
    sides_same at_most = at_most_same (dot (drop 1 (less t u)) xs) (get_or (less t u) 0 (pos 0)) a b left_less
    sides_same below = below_same (dot (drop 1 (less t u)) xs) (get_or (less t u) 0 (pos 0)) a b left_less
    sides_same at_least = at_most_same (dot (drop 1 (less u t)) xs) (get_or (less u t) 0 (pos 0)) b a right_less
    sides_same above = below_same (dot (drop 1 (less u t)) xs) (get_or (less u t) 0 (pos 0)) b a right_less

  -- ---- clauses

  -- the tree of a formula, of as many names as there are values
  abbrev pub truth_in : Formula → Bool
  truth_in f = true_for (tree_of (length xs) f) xs

  abbrev pub ClauseSays : Clause → Bool → Type 0
  ClauseSays c t = c.faults ≡ [] → truth_in c.formula ≡ t

  abbrev pub EachSays : List Clause → List Bool → Type 0
  EachSays [] [] = Unit {0}
  EachSays [] (t ∷ l) = ⊥
  EachSays (c ∷ cs) [] = ⊥
  EachSays (c ∷ cs) (t ∷ l) = ClauseSays c t × EachSays cs l

  outside_says : (at : ℕ) (t : Bool) → ClauseSays (outside_clause at) t
  outside_says at t e = absurd (cons≢nil e)

  comparison_says : (r : Relation) (at : ℕ) (ts : List Term) (l : List ℤ) → Each Seven ts → EachWorth xs ts l → ClauseSays (comparison r at ts) (chained r l)
  unfolding comparison compared chained true_for tree_of holds
  comparison_says r at [] l s h = outside_says at (chained r l)
  comparison_says r at (t ∷ []) l s h = outside_says at (chained r l)
  comparison_says r at (t ∷ u ∷ []) [] s h = absurd h
  comparison_says r at (t ∷ u ∷ []) (a ∷ []) s h = absurd h.1
  comparison_says r at (t ∷ u ∷ []) (a ∷ b ∷ []) s h = λ e.
      let d : List ℤ = sides r t.numbers u.numbers in
      let f : (t.faults ≡ []) × (u.faults ≡ []) = two_faults t u (collecting_none at d (faults_in (t ∷ u ∷ [])) e) in
      ap (λ (z : ℤ). compares (kind_for r) z (lowered r (neg_ℤ (get_or d 0 (pos 0))))) (dot_take (drop 1 d) xs)
      ∙ sides_same t.numbers u.numbers a b (s.0 ∙ sym s.1.0) (h.0.value f.0) (h.1.0.value f.1) r ∙ sym (and-true (relates r a b))
  comparison_says r at (t ∷ u ∷ []) (a ∷ b ∷ c ∷ l) s h = absurd h.1.1
  comparison_says r at (t ∷ u ∷ w ∷ ts) l s h = outside_says at (chained r l)

  negated_says : (at : ℕ) (cs : List Clause) (l : List Bool) → EachSays cs l → ClauseSays (negated at cs) (not (every l))
  unfolding negated every true_for tree_of
  negated_says at [] l h = outside_says at (not (every l))
  negated_says at (c ∷ []) [] h = absurd h
  negated_says at (c ∷ []) (t ∷ []) h = λ e. ap not (h.0 e ∙ sym (and-true t))
  negated_says at (c ∷ []) (t ∷ s ∷ l) h = absurd h.1
  negated_says at (c ∷ d ∷ cs) l h = outside_says at (not (every l))

  all_true : (at : ℕ) (c : Clause) (cs : List Clause) (t : Bool) (l : List Bool) → EachSays (c ∷ cs) (t ∷ l) → faults_among (c ∷ cs) ≡ []
      → truth_in (joined_at Formula.and at c cs) ≡ every (t ∷ l)
  unfolding joined_at faults_among every true_for tree_of
  all_true at c [] t [] h e = h.0 (append_none c.faults [] e).0 ∙ sym (and-true t)
  all_true at c [] t (s ∷ l) h e = absurd h.1
  all_true at c (d ∷ cs) t [] h e = absurd h.1
  all_true at c (d ∷ cs) t (s ∷ l) h e =
      let f : (c.faults ≡ []) × (faults_among (d ∷ cs) ≡ []) = append_none c.faults (faults_among (d ∷ cs)) e in
      λ i. h.0 f.0 i && all_true d.place d cs s l h.1 f.1 i

  any_true : (at : ℕ) (c : Clause) (cs : List Clause) (t : Bool) (l : List Bool) → EachSays (c ∷ cs) (t ∷ l) → faults_among (c ∷ cs) ≡ []
      → truth_in (joined_at Formula.or at c cs) ≡ any (t ∷ l)
  unfolding joined_at faults_among any true_for tree_of
  any_true at c [] t [] h e = h.0 (append_none c.faults [] e).0 ∙ sym (or-false t)
  any_true at c [] t (s ∷ l) h e = absurd h.1
  any_true at c (d ∷ cs) t [] h e = absurd h.1
  any_true at c (d ∷ cs) t (s ∷ l) h e =
      let f : (c.faults ≡ []) × (faults_among (d ∷ cs) ≡ []) = append_none c.faults (faults_among (d ∷ cs)) e in
      λ i. h.0 f.0 i || any_true d.place d cs s l h.1 f.1 i

  and_says : (at : ℕ) (cs : List Clause) (l : List Bool) → EachSays cs l → ClauseSays (joining Formula.and at cs) (every l)
  unfolding joining
  and_says at [] l h = outside_says at (every l)
  and_says at (c ∷ cs) [] h = absurd h
  and_says at (c ∷ cs) (t ∷ l) h = all_true at c cs t l h

  or_says : (at : ℕ) (cs : List Clause) (l : List Bool) → EachSays cs l → ClauseSays (joining Formula.or at cs) (any l)
  unfolding joining
  or_says at [] l h = outside_says at (any l)
  or_says at (c ∷ cs) [] h = absurd h
  or_says at (c ∷ cs) (t ∷ l) h = any_true at c cs t l h

  list_says : (d : Head) (at : ℕ) (ts : List Term) (l : List ℤ) (cs : List Clause) (ps : List Bool) → Each Seven ts → EachWorth xs ts l → EachSays cs ps
      → ClauseSays (list_clause d at ts cs) (truth_by d l ps)
  unfolding list_clause
  list_says plus at ts l cs ps s h k = outside_says at false
  list_says minus at ts l cs ps s h k = outside_says at false
  list_says times at ts l cs ps s h k = outside_says at false
  list_says (compare r) at ts l cs ps s h k = comparison_says r at ts l s h
  list_says negation at ts l cs ps s h k = negated_says at cs ps k
  list_says conjunction at ts l cs ps s h k = and_says at cs ps k
  list_says disjunction at ts l cs ps s h k = or_says at cs ps k
  list_says other_head at ts l cs ps s h k = outside_says at false

  pub clauses_say : (v : List ℕ → ℤ) (names : List (List ℕ)) → Named xs v names → (forms : Forms) → EachSays (clauses_of names forms) (truths_of v forms)
  unfolding clauses_of truths_of
  clauses_say v names n nothing = tt
  clauses_say v names n (word at w rest) = (outside_says at false, clauses_say v names n rest)
  clauses_say v names n (list at nothing rest) = (outside_says at false, clauses_say v names n rest)
  clauses_say v names n (list at (word start h parts) rest) =
      let worths : EachWorth xs (terms_of names parts) (values_of v parts) = terms_worth xs v names n parts in
      let says : EachSays (clauses_of names parts) (truths_of v parts) = clauses_say v names n parts in
      (list_says (head_of h) at (terms_of names parts) (values_of v parts) (clauses_of names parts) (truths_of v parts) (terms_seven names parts) worths says, clauses_say v names n rest)
  clauses_say v names n (list at (list start inner parts) rest) = (outside_says at false, clauses_say v names n rest)
