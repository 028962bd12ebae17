-- Collecting like terms keeps the value: a term that is read without a fault is worth what the text says.
use Rattle.std.specs.Prelude.{◌≡◌, Bool, ℕ, zero, suc, ◌*◌, ◌<◌, length, get_or, set, replicate, ℤ, ◌+ℤ◌, ◌-ℤ◌, ◌*ℤ◌}
use Rattle.std.proofs.Math.Path.{refl, sym, ap}
use Rattle.std.proofs.Common.{◌∙◌, true≢false}
use Rattle.std.proofs.Math.Bool.{true, false}
use Rattle.std.proofs.Math.Option.{Option, none, some}
use mathlib.Core.List.{List, [], ◌∷◌, ◌++◌, cons≢nil}
use native.Mathlib.Omega.{arith}
use Rattle.std.proofs.lemmas.List.{length-map}
use Rattle.std.proofs.Math.IntN.{pos, neg_ℤ, +ℤ_idr}
use Rattle.scope.specs.Sizes.{most_variables}
use Rattle.scope.specs.States.{dot}
use Rattle.theory.specs.Numbers.Bridge.{as_D, linear}
use Rattle.theory.specs.Numbers.Joined.{Each}
use Rattle.smtlib.specs.Forms.{Bare, numeral, symbol, reserved, other_word, Forms, nothing, word, list}
use Rattle.smtlib.specs.Terms.{Head, plus, minus, times, compare, negation, conjunction, disjunction, other_head, head_of, one_of, sums, opposite, scaled, less, Term, outside_term, faults_in, collecting, collected, total, plus_term, minus_term, times_numeral, product_term, times_term, list_term, index_from, name_term, word_term, terms_of}
use Rattle.smtlib.specs.Meaning.{word_value, sum_of, product_of, difference_of, worked, values_of}
use Rattle.smtlib.specs.Laws.{Seven, total_seven, terms_seven}

-- ---- the value of collected numbers: the constant stands first

abbrev pub value_at : List ℕ → List ℤ → ℤ
value_at xs l = dot l (1 ∷ xs)

dot_sums : (k l : List ℤ) (xs : List ℕ) → length k ≡ length l → dot (sums k l) xs ≡ dot k xs +ℤ dot l xs
unfolding dot sums
dot_sums [] [] xs h = refl
dot_sums [] (b ∷ l) xs h = absurd (omega (arith, h))
dot_sums (a ∷ k) [] xs h = absurd (omega (arith, h))
dot_sums (a ∷ k) (b ∷ l) [] h = refl
dot_sums (a ∷ k) (b ∷ l) (x ∷ xs) h = first a b (pos x) (dot k xs) (dot l xs) (dot (sums k l) xs) (dot_sums k l xs (omega (arith, h)))
  where
    first : (a b x m n s : ℤ) → s ≡ m +ℤ n → (a +ℤ b) *ℤ x +ℤ s ≡ (a *ℤ x +ℤ m) +ℤ (b *ℤ x +ℤ n)
    first a b x m n s e = ap (λ (z : ℤ). (a +ℤ b) *ℤ x +ℤ z) e ∙ rw (as_D a, as_D b, as_D x, as_D m, as_D n) (simp linear (omega arith))

dot_scaled : (z : ℤ) (k : List ℤ) (xs : List ℕ) → dot (scaled z k) xs ≡ z *ℤ dot k xs
unfolding dot scaled
dot_scaled z [] xs = rw (as_D z) (simp linear (omega arith))
dot_scaled z (a ∷ k) [] = rw (as_D z) (simp linear (omega arith))
dot_scaled z (a ∷ k) (x ∷ xs) = first z a (pos x) (dot k xs) (dot (scaled z k) xs) (dot_scaled z k xs)
  where
    first : (z a x m s : ℤ) → s ≡ z *ℤ m → (z *ℤ a) *ℤ x +ℤ s ≡ z *ℤ (a *ℤ x +ℤ m)
    first z a x m s e = ap (λ (y : ℤ). (z *ℤ a) *ℤ x +ℤ y) e ∙ rw (as_D z, as_D a, as_D x, as_D m) (simp linear (omega arith))

dot_opposite : (k : List ℤ) (xs : List ℕ) → dot (opposite k) xs ≡ neg_ℤ (dot k xs)
unfolding dot opposite
dot_opposite [] xs = refl
dot_opposite (a ∷ k) [] = refl
dot_opposite (a ∷ k) (x ∷ xs) = first a (pos x) (dot k xs) (dot (opposite k) xs) (dot_opposite k xs)
  where
    first : (a x m s : ℤ) → s ≡ neg_ℤ m → neg_ℤ a *ℤ x +ℤ s ≡ neg_ℤ (a *ℤ x +ℤ m)
    first a x m s e = ap (λ (y : ℤ). neg_ℤ a *ℤ x +ℤ y) e ∙ rw (as_D a, as_D x, as_D m) (simp linear (omega arith))

-- nothing but one number, at i
dot_none : (n : ℕ) (xs : List ℕ) → dot (replicate n (pos 0)) xs ≡ pos 0
unfolding dot
dot_none zero xs = refl
dot_none (suc n) [] = refl
dot_none (suc n) (x ∷ xs) = nought (pos x) (dot (replicate n (pos 0)) xs) (dot_none n xs)
  where
    nought : (x s : ℤ) → s ≡ pos 0 → pos 0 *ℤ x +ℤ s ≡ pos 0
    nought x s e = ap (λ (y : ℤ). pos 0 *ℤ x +ℤ y) e ∙ rw (as_D x) (simp linear (omega arith))

pub dot_one : (n i : ℕ) (z : ℤ) (xs : List ℕ) → i < n → i < length xs → dot (set (replicate n (pos 0)) i z) xs ≡ z *ℤ pos (get_or xs i 0)
unfolding dot
dot_one zero i z xs h k = absurd (omega arith)
dot_one (suc n) zero z [] h k = absurd (omega arith)
dot_one (suc n) (suc i) z [] h k = absurd (omega arith)
dot_one (suc n) zero z (x ∷ xs) h k = ap (λ (y : ℤ). z *ℤ pos x +ℤ y) (dot_none n xs) ∙ +ℤ_idr (z *ℤ pos x)
dot_one (suc n) (suc i) z (x ∷ xs) h k = skip (pos x) (dot (set (replicate n (pos 0)) i z) xs) (z *ℤ pos (get_or xs i 0)) (dot_one n i z xs (omega arith) (omega arith))
  where
    skip : (x s y : ℤ) → s ≡ y → pos 0 *ℤ x +ℤ s ≡ y
    skip x s y e = ap (λ (y : ℤ). pos 0 *ℤ x +ℤ y) e ∙ rw (as_D x, as_D y) (simp linear (omega arith))

-- ---- faults

pub append_none : {A : Type 0} (k l : List A) → k ++ l ≡ [] → (k ≡ []) × (l ≡ [])
append_none [] l e = (refl, e)
append_none (a ∷ k) l e = absurd (cons≢nil e)

pub collecting_none : (at : ℕ) (l : List ℤ) (fs : List ℕ) → collecting at l fs ≡ [] → fs ≡ []
unfolding collecting
collecting_none at l [] e = refl
collecting_none at l (f ∷ fs) e = absurd (cons≢nil e)

one_fault : (t : Term) → faults_in (t ∷ []) ≡ [] → t.faults ≡ []
unfolding faults_in
one_fault t e = (append_none t.faults [] e).0

pub two_faults : (t u : Term) → faults_in (t ∷ u ∷ []) ≡ [] → (t.faults ≡ []) × (u.faults ≡ [])
unfolding faults_in
two_faults t u e =
    let f : (t.faults ≡ []) × (u.faults ++ [] ≡ []) = append_none t.faults (u.faults ++ []) e in
    (f.0, (append_none u.faults [] f.1).0)

-- ---- terms

module _ (xs : List ℕ) where
  pub less_value : (k l : List ℤ) (a b : ℤ) → length k ≡ length l → value_at xs k ≡ a → value_at xs l ≡ b → value_at xs (less k l) ≡ a -ℤ b
  unfolding opposite
  less_value k l a b h e f =
      dot_sums k (opposite l) (1 ∷ xs) (h ∙ sym (length-map l neg_ℤ)) ∙ ap (λ (z : ℤ). value_at xs k +ℤ z) (dot_opposite l (1 ∷ xs))
      ∙ ap (λ (z : ℤ). z -ℤ value_at xs l) e ∙ ap (λ (z : ℤ). a -ℤ z) f

  -- a term, and what the text says that it is worth
  pub record Worth (t : Term) (a : ℤ) : Type 0 where
    pub value : t.faults ≡ [] → value_at xs t.numbers ≡ a
    pub constant : t.numeric ≡ true → get_or t.numbers 0 (pos 0) ≡ a

  abbrev pub EachWorth : List Term → List ℤ → Type 0
  EachWorth [] [] = Unit {0}
  EachWorth [] (a ∷ l) = ⊥
  EachWorth (t ∷ ts) [] = ⊥
  EachWorth (t ∷ ts) (a ∷ l) = Worth t a × EachWorth ts l

  outside_worth : (at : ℕ) (a : ℤ) → Worth (outside_term at) a
  outside_worth at a = record { value = λ e. absurd (cons≢nil e); constant = λ e. absurd (true≢false (sym e)) }

  collected_worth : (at : ℕ) (l : List ℤ) (ts : List Term) (a : ℤ) → (faults_in ts ≡ [] → value_at xs l ≡ a) → Worth (collected at l ts) a
  collected_worth at l ts a f = record { value = λ e. f (collecting_none at l (faults_in ts) e); constant = λ e. absurd (true≢false (sym e)) }

  total_value : (ts : List Term) (l : List ℤ) → Each Seven ts → EachWorth ts l → faults_in ts ≡ [] → value_at xs (total ts) ≡ sum_of l
  unfolding total sum_of faults_in
  total_value [] [] s h e = dot_none (suc most_variables) (1 ∷ xs)
  total_value [] (a ∷ l) s h e = absurd h
  total_value (t ∷ ts) [] s h e = absurd h
  total_value (t ∷ ts) (a ∷ l) s h e =
      let f : (t.faults ≡ []) × (faults_in ts ≡ []) = append_none t.faults (faults_in ts) e in
      dot_sums t.numbers (total ts) (1 ∷ xs) (s.0 ∙ sym (total_seven ts s.1))
      ∙ ap (λ (z : ℤ). z +ℤ value_at xs (total ts)) (h.0.value f.0) ∙ ap (λ (z : ℤ). a +ℤ z) (total_value ts l s.1 h.1 f.1)

  plus_worth : (at : ℕ) (ts : List Term) (l : List ℤ) → Each Seven ts → EachWorth ts l → Worth (plus_term at ts) (sum_of l)
  unfolding plus_term
  plus_worth at [] l s h = outside_worth at (sum_of l)
  plus_worth at (t ∷ []) l s h = outside_worth at (sum_of l)
  plus_worth at (t ∷ u ∷ ts) l s h = collected_worth at (total (t ∷ u ∷ ts)) (t ∷ u ∷ ts) (sum_of l) (total_value (t ∷ u ∷ ts) l s h)

  minus_worth : (at : ℕ) (ts : List Term) (l : List ℤ) → Each Seven ts → EachWorth ts l → Worth (minus_term at ts) (difference_of l)
  unfolding minus_term difference_of sum_of
  minus_worth at [] l s h = outside_worth at (difference_of l)
  minus_worth at (t ∷ []) [] s h = absurd h
  minus_worth at (t ∷ []) (a ∷ []) s h =
      collected_worth at (opposite t.numbers) (t ∷ []) (neg_ℤ a) (λ e. dot_opposite t.numbers (1 ∷ xs) ∙ ap neg_ℤ (h.0.value (one_fault t e)))
  minus_worth at (t ∷ []) (a ∷ b ∷ l) s h = absurd h.1
  minus_worth at (t ∷ u ∷ []) [] s h = absurd h
  minus_worth at (t ∷ u ∷ []) (a ∷ []) s h = absurd h.1
  minus_worth at (t ∷ u ∷ []) (a ∷ b ∷ []) s h =
      collected_worth at (less t.numbers u.numbers) (t ∷ u ∷ []) (a -ℤ (b +ℤ pos 0))
      (λ e. less_value t.numbers u.numbers a b (s.0 ∙ sym s.1.0) (h.0.value (two_faults t u e).0) (h.1.0.value (two_faults t u e).1)
      ∙ ap (λ (z : ℤ). a -ℤ z) (sym (+ℤ_idr b)))
  minus_worth at (t ∷ u ∷ []) (a ∷ b ∷ c ∷ l) s h = absurd h.1.1
  minus_worth at (t ∷ u ∷ w ∷ ts) l s h = outside_worth at (difference_of l)

  times_one : (a b : ℤ) → a *ℤ b ≡ a *ℤ (b *ℤ pos 1)
  times_one a b = rw (as_D a, as_D b) (simp linear (omega arith))

  turned : (a b : ℤ) → b *ℤ a ≡ a *ℤ (b *ℤ pos 1)
  turned a b = rw (as_D a, as_D b) (simp linear (omega arith))

  -- a term that is a numeral, and another
  numeral_times : (t u : Term) (a b : ℤ) → t.numeric ≡ true → u.faults ≡ [] → Worth t a → Worth u b → value_at xs (times_numeral t u) ≡ a *ℤ b
  numeral_times t u a b p e h k =
      dot_scaled (get_or t.numbers 0 (pos 0)) u.numbers (1 ∷ xs) ∙ ap (λ (z : ℤ). z *ℤ value_at xs u.numbers) (h.constant p) ∙ ap (λ (z : ℤ). a *ℤ z) (k.value e)

  product_worth : (p q : Bool) (at : ℕ) (t u : Term) (a b : ℤ) → t.numeric ≡ p → u.numeric ≡ q → Worth t a → Worth u b
      → Worth (product_term p q at t u) (a *ℤ (b *ℤ pos 1))
  unfolding product_term
  product_worth true q at t u a b p s h k =
      collected_worth at (times_numeral t u) (t ∷ u ∷ []) (a *ℤ (b *ℤ pos 1)) (λ e. numeral_times t u a b p (two_faults t u e).1 h k ∙ times_one a b)
  product_worth false true at t u a b p s h k =
      collected_worth at (times_numeral u t) (t ∷ u ∷ []) (a *ℤ (b *ℤ pos 1)) (λ e. numeral_times u t b a s (two_faults t u e).0 k h ∙ turned a b)
  product_worth false false at t u a b p s h k = outside_worth at (a *ℤ (b *ℤ pos 1))

  times_worth : (at : ℕ) (ts : List Term) (l : List ℤ) → EachWorth ts l → Worth (times_term at ts) (product_of l)
  unfolding times_term product_of
  times_worth at [] l h = outside_worth at (product_of l)
  times_worth at (t ∷ []) l h = outside_worth at (product_of l)
  times_worth at (t ∷ u ∷ []) [] h = absurd h
  times_worth at (t ∷ u ∷ []) (a ∷ []) h = absurd h.1
  times_worth at (t ∷ u ∷ []) (a ∷ b ∷ []) h = product_worth t.numeric u.numeric at t u a b refl refl h.0 h.1.0
  times_worth at (t ∷ u ∷ []) (a ∷ b ∷ c ∷ l) h = absurd h.1.1
  times_worth at (t ∷ u ∷ w ∷ ts) l h = outside_worth at (product_of l)

  list_worth : (d : Head) (at : ℕ) (ts : List Term) (l : List ℤ) → Each Seven ts → EachWorth ts l → Worth (list_term d at ts) (worked d l)
  unfolding list_term
  list_worth plus at ts l s h = plus_worth at ts l s h
  list_worth minus at ts l s h = minus_worth at ts l s h
  list_worth times at ts l s h = times_worth at ts l h
  list_worth (compare r) at ts l s h = outside_worth at (pos 0)
  list_worth negation at ts l s h = outside_worth at (pos 0)
  list_worth conjunction at ts l s h = outside_worth at (pos 0)
  list_worth disjunction at ts l s h = outside_worth at (pos 0)
  list_worth other_head at ts l s h = outside_worth at (pos 0)

  -- each of these names is worth a natural, and so is one of it
  abbrev pub Named : (List ℕ → ℤ) → List (List ℕ) → Type 0
  Named v names = (w : List ℕ) (i : ℕ) → index_from 0 w names ≡ some i → (x : ℕ) × (v w ≡ pos x) × (value_at xs (one_of i) ≡ pos x)

  module _ (v : List ℕ → ℤ) (names : List (List ℕ)) (named : Named v names) where
    name_worth : (at : ℕ) (w : List ℕ) (o : Option ℕ) → index_from 0 w names ≡ o → Worth (name_term at o) (v w)
    name_worth at w none e = outside_worth at (v w)
    name_worth at w (some i) e = record { value = λ f. (named w i e).2 ∙ sym (named w i e).1; constant = λ f. absurd (true≢false (sym f)) }

    word_worth : (at : ℕ) (w : Bare) → Worth (word_term names at w) (word_value v w)
    unfolding word_term
    word_worth at (numeral k) =
        let one : k * 1 ≡ k = omega arith in
        record { value = λ e. dot_one (suc most_variables) 0 (pos k) (1 ∷ xs) (omega arith) (omega arith) ∙ ap pos one; constant = λ e. refl }
    word_worth at (symbol w) = name_worth at w (index_from 0 w names) refl
    word_worth at (reserved w) = outside_worth at (pos 0)
    word_worth at other_word = outside_worth at (pos 0)

    pub terms_worth : (forms : Forms) → EachWorth (terms_of names forms) (values_of v forms)
    unfolding terms_of values_of
    terms_worth nothing = tt
    terms_worth (word at w rest) = (word_worth at w, terms_worth rest)
    terms_worth (list at nothing rest) = (outside_worth at (pos 0), terms_worth rest)
    terms_worth (list at (word start h parts) rest) =
        (list_worth (head_of h) at (terms_of names parts) (values_of v parts) (terms_seven names parts) (terms_worth parts), terms_worth rest)
    terms_worth (list at (list start inner parts) rest) = (outside_worth at (pos 0), terms_worth rest)
