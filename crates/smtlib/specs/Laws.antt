-- Laws of lists as the import collects them: the lowest of places, sums of collected numbers, faults one behind the other.
use Rattle.std.specs.Prelude.{◌≡◌, refl, Bool, true, false, cond, List, [], ◌∷◌, ◌++◌, ℕ, zero, suc, leb, length, replicate, ℤ, pos, neg_ℤ, ◌*ℤ◌}
use Rattle.std.proofs.Common.{sym, ap, ◌∙◌, append_assoc, arith, length-set, leb-true, leb-false, le-leb}
use Rattle.std.proofs.Math.Option.{Option, none, some}
use Rattle.std.proofs.lemmas.List.{length-map}
use Rattle.std.proofs.Math.IntN.{+ℤ_assoc, +ℤ_comm, +ℤ_idl}
use Rattle.std.proofs.lemmas.Bool.{lt-leb}
use Rattle.scope.specs.Sizes.{most_variables}
use Rattle.theory.specs.Numbers.Joined.{Each}
use Rattle.smtlib.specs.Forms.{Bare, numeral, symbol, reserved, other_word, Forms, nothing, word, list}
use Rattle.smtlib.specs.Terms.{Head, plus, minus, times, compare, negation, conjunction, disjunction, other_head, head_of, no_numbers, sums, opposite, scaled, less, Term, faults_in, total, plus_term, minus_term, product_term, times_term, list_term, index_from, name_term, word_term, terms_of}
use Rattle.smtlib.specs.Formulas.{Clause, faults_among}
use Rattle.smtlib.specs.Script.{lower, lowest_of}

-- ---- the lower of two places, each of which may be missing

abbrev pub lower_of : Option ℕ → Option ℕ → Option ℕ
lower_of none b = b
lower_of (some a) none = some a
lower_of (some a) (some b) = some (cond (leb a b) a b)

least_assoc : (a b c : ℕ) (s t : Bool) → leb a b ≡ s → leb b c ≡ t → cond (leb a (cond t b c)) a (cond t b c) ≡ cond (leb (cond s a b) c) (cond s a b) c
least_assoc a b c true true p q = rw (p, le-leb a c (omega (arith, leb-true a b p, leb-true b c q)))
least_assoc a b c true false p q = refl
least_assoc a b c false true p q = rw (p, q)
least_assoc a b c false false p q = rw (q, lt-leb a c (omega (arith, leb-false a b p, leb-false b c q)))

pub lower_assoc : (o p q : Option ℕ) → lower_of (lower_of o p) q ≡ lower_of o (lower_of p q)
lower_assoc none p q = refl
lower_assoc (some a) none q = refl
lower_assoc (some a) (some b) none = refl
lower_assoc (some a) (some b) (some c) = ap some (sym (least_assoc a b c (leb a b) (leb b c) refl refl))

pub lower_is : (a : ℕ) (o : Option ℕ) → lower a o ≡ lower_of (some a) o
lower_is a none = refl
lower_is a (some b) = refl

pub lowest_append : (k l : List ℕ) → lowest_of (k ++ l) ≡ lower_of (lowest_of k) (lowest_of l)
unfolding lowest_of
lowest_append [] l = refl
lowest_append (a ∷ k) l =
    ap (lower a) (lowest_append k l) ∙ lower_is a (lower_of (lowest_of k) (lowest_of l)) ∙ sym (lower_assoc (some a) (lowest_of k) (lowest_of l))
    ∙ ap (λ (o : Option ℕ). lower_of o (lowest_of l)) (sym (lower_is a (lowest_of k)))

-- ---- sums

pub sums_comm : (k l : List ℤ) → sums k l ≡ sums l k
unfolding sums
sums_comm [] [] = refl
sums_comm [] (b ∷ l) = refl
sums_comm (a ∷ k) [] = refl
sums_comm (a ∷ k) (b ∷ l) = λ i. +ℤ_comm a b i ∷ sums_comm k l i

pub sums_assoc : (k l m : List ℤ) → sums (sums k l) m ≡ sums k (sums l m)
unfolding sums
sums_assoc [] l m = refl
sums_assoc (a ∷ k) [] m = refl
sums_assoc (a ∷ k) (b ∷ l) [] = refl
sums_assoc (a ∷ k) (b ∷ l) (c ∷ m) = λ i. +ℤ_assoc a b c i ∷ sums_assoc k l m i

pub sums_length : (n : ℕ) (k l : List ℤ) → length k ≡ n → length l ≡ n → length (sums k l) ≡ n
unfolding sums
sums_length n [] l e f = e
sums_length n (a ∷ k) [] e f = f
sums_length zero (a ∷ k) (b ∷ l) e f = absurd (omega (arith, e))
sums_length (suc n) (a ∷ k) (b ∷ l) e f = ap suc (sums_length n k l (omega (arith, e)) (omega (arith, f)))

pub sums_nought : (n : ℕ) (l : List ℤ) → length l ≡ n → sums (replicate n (pos 0)) l ≡ l
unfolding sums
sums_nought zero [] e = refl
sums_nought zero (a ∷ l) e = absurd (omega (arith, e))
sums_nought (suc n) [] e = refl
sums_nought (suc n) (a ∷ l) e = λ i. +ℤ_idl a i ∷ sums_nought n l (omega (arith, e)) i

pub total_append : (ts : List Term) (t : Term) → total (ts ++ (t ∷ [])) ≡ sums (total ts) t.numbers
unfolding total
total_append [] t = sums_comm t.numbers no_numbers
total_append (u ∷ ts) t = ap (sums u.numbers) (total_append ts t) ∙ sym (sums_assoc u.numbers (total ts) t.numbers)

-- ---- a term has seven numbers

abbrev pub Seven : Term → Type 0
Seven t = length t.numbers ≡ suc most_variables

pub total_seven : (ts : List Term) → Each Seven ts → length (total ts) ≡ suc most_variables
unfolding total
total_seven [] h = refl
total_seven (t ∷ ts) h = sums_length (suc most_variables) t.numbers (total ts) h.0 (total_seven ts h.1)

opposite_length : (l : List ℤ) → length (opposite l) ≡ length l
unfolding opposite
opposite_length l = length-map l neg_ℤ

scaled_length : (z : ℤ) (l : List ℤ) → length (scaled z l) ≡ length l
unfolding scaled
scaled_length z l = length-map l (λ c. z *ℤ c)

pub less_seven : (k l : List ℤ) → length k ≡ suc most_variables → length l ≡ suc most_variables → length (less k l) ≡ suc most_variables
less_seven k l e f = sums_length (suc most_variables) k (opposite l) e (opposite_length l ∙ f)

plus_seven : (at : ℕ) (ts : List Term) → Each Seven ts → Seven (plus_term at ts)
unfolding plus_term
plus_seven at [] h = refl
plus_seven at (t ∷ []) h = refl
plus_seven at (t ∷ u ∷ ts) h = total_seven (t ∷ u ∷ ts) h

minus_seven : (at : ℕ) (ts : List Term) → Each Seven ts → Seven (minus_term at ts)
unfolding minus_term
minus_seven at [] h = refl
minus_seven at (t ∷ []) h = opposite_length t.numbers ∙ h.0
minus_seven at (t ∷ u ∷ []) h = less_seven t.numbers u.numbers h.0 h.1.0
minus_seven at (t ∷ u ∷ v ∷ ts) h = refl

product_seven : (p q : Bool) (at : ℕ) (t u : Term) → Seven t → Seven u → Seven (product_term p q at t u)
unfolding product_term
product_seven true q at t u h k = scaled_length _ u.numbers ∙ k
product_seven false true at t u h k = scaled_length _ t.numbers ∙ h
product_seven false false at t u h k = refl

times_seven : (at : ℕ) (ts : List Term) → Each Seven ts → Seven (times_term at ts)
unfolding times_term
times_seven at [] h = refl
times_seven at (t ∷ []) h = refl
times_seven at (t ∷ u ∷ []) h = product_seven t.numeric u.numeric at t u h.0 h.1.0
times_seven at (t ∷ u ∷ v ∷ ts) h = refl

pub list_seven : (d : Head) (at : ℕ) (ts : List Term) → Each Seven ts → Seven (list_term d at ts)
unfolding list_term
list_seven plus at ts h = plus_seven at ts h
list_seven minus at ts h = minus_seven at ts h
list_seven times at ts h = times_seven at ts h
list_seven (compare r) at ts h = refl
list_seven negation at ts h = refl
list_seven conjunction at ts h = refl
list_seven disjunction at ts h = refl
list_seven other_head at ts h = refl

name_seven : (at : ℕ) (o : Option ℕ) → Seven (name_term at o)
name_seven at none = refl
name_seven at (some i) = length-set no_numbers (suc i) (pos 1)

pub word_seven : (names : List (List ℕ)) (at : ℕ) (w : Bare) → Seven (word_term names at w)
unfolding word_term
word_seven names at (numeral v) = refl
word_seven names at (symbol w) = name_seven at (index_from 0 w names)
word_seven names at (reserved w) = refl
word_seven names at other_word = refl

pub terms_seven : (names : List (List ℕ)) (forms : Forms) → Each Seven (terms_of names forms)
unfolding terms_of
terms_seven names nothing = tt
terms_seven names (word at w rest) = (word_seven names at w, terms_seven names rest)
terms_seven names (list at nothing rest) = (refl, terms_seven names rest)
terms_seven names (list at (word start h parts) rest) = (list_seven (head_of h) at (terms_of names parts) (terms_seven names parts), terms_seven names rest)
terms_seven names (list at (list start inner parts) rest) = (refl, terms_seven names rest)

-- ---- faults

pub faults_in_append : (ts us : List Term) → faults_in (ts ++ us) ≡ faults_in ts ++ faults_in us
unfolding faults_in
faults_in_append [] us = refl
faults_in_append (t ∷ ts) us = ap (λ (l : List ℕ). t.faults ++ l) (faults_in_append ts us) ∙ sym (append_assoc t.faults (faults_in ts) (faults_in us))

pub faults_among_append : (cs ds : List Clause) → faults_among (cs ++ ds) ≡ faults_among cs ++ faults_among ds
unfolding faults_among
faults_among_append [] ds = refl
faults_among_append (c ∷ cs) ds = ap (λ (l : List ℕ). c.faults ++ l) (faults_among_append cs ds) ∙ sym (append_assoc c.faults (faults_among cs) (faults_among ds))
