-- What a state means: an entry says of the digits still to come what is left to hold. A letter read keeps what is said, and where no
-- digit is left it is the entry's worth. So a word leads to an accepting state exactly where the values that it spells satisfy the question.
use Rattle.std.specs.Prelude.{◌≡◌, refl, ◌↔◌, Bool, true, false, cond, length, drop, replicate, T, eqb, ℤ, pos, ◌+ℤ◌, ◌-ℤ◌, ◌*ℤ◌, ◌≤ℤ◌}
use Rattle.std.proofs.Math.Path.{sym, ap}
use Rattle.std.proofs.Common.{◌∙◌, arith, length-take}
use mathlib.Core.List.{List, [], ◌∷◌, map}
use Prim.Native.Nat.{ℕ, zero, suc, ◌+◌, ◌*◌, ◌^◌, ◌≤◌, ◌<◌}
use Rattle.std.specs.Int.Signed.{le_z, le_z_yes}
use Rattle.scope.specs.declared.Question.{Question}
use Rattle.scope.specs.Whole.{eq_z, even, half}
use Rattle.scope.specs.Sizes.{most_variables}
use Rattle.scope.specs.Question.{Kind, equation, at_most, Atom, nodes_of, kinds_of, coefficients_of, atoms_from, atoms_of}
use Rattle.scope.specs.Words.{digit, letters, Word, spelled, Over}
use Rattle.scope.specs.States.{Entry, dead, live, sum_from, sum_at, halved, start_entry, step_entry, worth_live, worth, State, start_of, step_of, worths_of, formula_worth, accepting, dot, compares, holds, satisfied}
use Rattle.scope.specs.Numbering.{machine_of, after}
use Rattle.theory.specs.Numbers.Tests.{same_test}
use Rattle.theory.specs.Numbers.Bridge.{as_D, linear}
use Rattle.theory.specs.Numbers.Integers.{eqZ→eq, eq→eq_z}
use Rattle.theory.specs.Numbers.Half.{even_half, even_of_double, half_even, floor_half}
use Rattle.theory.specs.Words.Spelling.{digit_small, put_from, put, spelled_nil, spelled_cons, length_spelled, SpelledBy, every_tuple, word_of_values, word_of_values_spells}

-- ---- the sum of the values is the letter's sum and twice the sum of the rest

at_digit : (d : ℕ) (a : ℤ) → d < 2 → cond (eqb d 1) a (pos 0) ≡ a *ℤ pos d
at_digit zero a h = rw (as_D a) (simp linear (omega arith))
at_digit (suc zero) a h = rw (as_D a) (simp linear (omega arith))
at_digit (suc (suc n)) a h = absurd (omega arith)

one_more : (a r s d : ℤ) (δ x : ℕ) → r ≡ s +ℤ pos 2 *ℤ d → a *ℤ pos (δ + 2 * x) +ℤ r ≡ (a *ℤ pos δ +ℤ s) +ℤ pos 2 *ℤ (a *ℤ pos x +ℤ d)
one_more a r s d δ x = rw (as_D a, as_D r, as_D s, as_D d) (simp linear (omega arith))

dot_put_from : (a : List ℤ) (l j : ℕ) (xs : List ℕ) → length a ≤ length xs → dot a (put_from l j xs) ≡ sum_from l j a +ℤ pos 2 *ℤ dot a xs
unfolding dot put_from sum_from
dot_put_from [] l j xs h = refl
dot_put_from (a ∷ cs) l j [] h = absurd (omega arith)
dot_put_from (a ∷ cs) l j (x ∷ xs) h =
    rw (at_digit (digit l j) a (digit_small l j))
    (one_more a (dot cs (put_from l (suc j) xs)) (sum_from l (suc j) cs) (dot cs xs) (digit l j) x (dot_put_from cs l (suc j) xs (omega arith)))

dot_put : (a : List ℤ) (l : ℕ) (xs : List ℕ) → length a ≤ length xs → dot a (put l xs) ≡ sum_at a l +ℤ pos 2 *ℤ dot a xs
unfolding put sum_at
dot_put a l xs h = dot_put_from a l 0 xs h

dot_zeros : (a : List ℤ) (n : ℕ) → dot a (replicate n 0) ≡ pos 0
unfolding dot
dot_zeros [] n = refl
dot_zeros (a ∷ cs) zero = refl
dot_zeros (a ∷ cs) (suc n) = rw (dot_zeros cs n) (zero_term a)
  where
    zero_term : (a : ℤ) → a *ℤ pos 0 +ℤ pos 0 ≡ pos 0
    zero_term a = rw (as_D a) (simp linear (omega arith))

-- ---- what an entry says of the digits still to come

unfoldable pub says : Atom → Entry → List ℕ → Bool
says a dead xs = false
says a (live k) xs = compares a.kind (dot a.coefficients xs) k

-- with s the letter's sum and d the sum of the rest
eq_in : (s d k : ℤ) → s +ℤ pos 2 *ℤ d ≡ k → pos 2 *ℤ d ≡ k -ℤ s
eq_in s d k = rw (as_D s, as_D d, as_D k) (simp linear (omega arith))

eq_out : (s d k : ℤ) → pos 2 *ℤ d ≡ k -ℤ s → s +ℤ pos 2 *ℤ d ≡ k
eq_out s d k = rw (as_D s, as_D d, as_D k) (simp linear (omega arith))

le_in : (s d k h : ℤ) → (k -ℤ s) ≤ℤ (pos 2 *ℤ h +ℤ pos 1) → (s +ℤ pos 2 *ℤ d) ≤ℤ k → d ≤ℤ h
le_in s d k h = rw (as_D s, as_D d, as_D k, as_D h) (simp linear (omega arith))

le_out : (s d k h : ℤ) → (pos 2 *ℤ h) ≤ℤ (k -ℤ s) → d ≤ℤ h → (s +ℤ pos 2 *ℤ d) ≤ℤ k
le_out s d k h = rw (as_D s, as_D d, as_D k, as_D h) (simp linear (omega arith))

eq_half : (s d k : ℤ) → T (even (k -ℤ s)) → T (eq_z d (half (k -ℤ s))) → T (eq_z (s +ℤ pos 2 *ℤ d) k)
eq_half s d k v t =
    eq→eq_z (s +ℤ pos 2 *ℤ d) k (eq_out s d k (ap (λ (z : ℤ). pos 2 *ℤ z) (eqZ→eq d (half (k -ℤ s)) t) ∙ even_half (k -ℤ s) v))

eq_even : (s d k : ℤ) → T (eq_z (s +ℤ pos 2 *ℤ d) k) → T (even (k -ℤ s))
eq_even s d k t = even_of_double (k -ℤ s) d (eq_in s d k (eqZ→eq (s +ℤ pos 2 *ℤ d) k t))

eq_halved : (s d k : ℤ) → T (eq_z (s +ℤ pos 2 *ℤ d) k) → T (eq_z d (half (k -ℤ s)))
eq_halved s d k t = eq→eq_z d (half (k -ℤ s)) (sym (half_even (k -ℤ s) d (eq_in s d k (eqZ→eq (s +ℤ pos 2 *ℤ d) k t))))

-- by whether the number is even
says_if : (b : Bool) (a : Atom) (h : ℤ) (xs : List ℕ) (t : Bool) → (T b → t ≡ says a (live h) xs) → (T t → T b) → t ≡ says a (cond b (live h) dead) xs
unfolding says
says_if true a h xs t f g = f tt
says_if false a h xs t f g = same_test t false g (λ x. absurd x)

halved_says : (κ : Kind) (a : List ℤ) (c s k : ℤ) (xs : List ℕ)
    → compares κ (s +ℤ pos 2 *ℤ dot a xs) k ≡ says (record { kind = κ; coefficients = a; constant = c }) (halved κ (k -ℤ s)) xs
unfolding says
halved_says equation a c s k xs =
    let d : ℤ = dot a xs in
    says_if (even (k -ℤ s)) (record { kind = equation; coefficients = a; constant = c }) (half (k -ℤ s)) xs (eq_z (s +ℤ pos 2 *ℤ d) k)
    (λ v. same_test (eq_z (s +ℤ pos 2 *ℤ d) k) (eq_z d (half (k -ℤ s))) (eq_halved s d k) (eq_half s d k v))
    (eq_even s d k)
halved_says at_most a c s k xs =
    let d : ℤ = dot a xs in
    same_test (le_z (s +ℤ pos 2 *ℤ d) k) (le_z d (half (k -ℤ s)))
    (λ t. (le_in s d k (half (k -ℤ s)) (floor_half (k -ℤ s)).upper (le_z_yes t)).le)
    (λ t. (le_out s d k (half (k -ℤ s)) (floor_half (k -ℤ s)).lower (le_z_yes t)).le)

pub step_says : (a : Atom) (e : Entry) (l : ℕ) (xs : List ℕ) → length a.coefficients ≤ length xs → says a e (put l xs) ≡ says a (step_entry a e l) xs
unfolding says step_entry
step_says a dead l xs h = refl
step_says a (live k) l xs h = rw (dot_put a.coefficients l xs h) (halved_says a.kind a.coefficients a.constant (sum_at a.coefficients l) k xs)

zero_worth : (κ : Kind) (k : ℤ) → compares κ (pos 0) k ≡ worth_live κ k
zero_worth equation k = same_test (eq_z (pos 0) k) (eq_z k (pos 0)) (λ t. eq→eq_z k (pos 0) (sym (eqZ→eq (pos 0) k t))) (λ t. eq→eq_z (pos 0) k (sym (eqZ→eq k (pos 0) t)))
zero_worth at_most k = refl

zeros_say : (a : Atom) (e : Entry) (n : ℕ) → says a e (replicate n 0) ≡ worth a e
unfolding says worth
zeros_say a dead n = refl
zeros_say a (live k) n = rw (dot_zeros a.coefficients n) (zero_worth a.kind k)

-- ---- what a state says, atom by atom

unfoldable pub says_of : List Atom → State → List ℕ → List Bool
says_of [] es xs = []
says_of (a ∷ ats) [] xs = []
says_of (a ∷ ats) (e ∷ es) xs = says a e xs ∷ says_of ats es xs

-- no atom has more than n coefficients
pub data Within (n : ℕ) : List Atom → Type 0 where
  within-[] : Within n []
  within-∷ : {a : Atom} {ats : List Atom} → length a.coefficients ≤ n → Within n ats → Within n (a ∷ ats)

pub step_says_of : (xs : List ℕ) {ats : List Atom} (es : State) (l : ℕ) → Within (length xs) ats → says_of ats es (put l xs) ≡ says_of ats (step_of ats es l) xs
unfolding says_of step_of
step_says_of xs es l within-[] = refl
step_says_of xs [] l (within-∷ h w) = refl
step_says_of xs (e ∷ es) l (within-∷ {a} h w) = λ i. step_says a e l xs h i ∷ step_says_of xs es l w i

zeros_say_of : (ats : List Atom) (es : State) (n : ℕ) → says_of ats es (replicate n 0) ≡ worths_of ats es
unfolding says_of worths_of
zeros_say_of [] es n = refl
zeros_say_of (a ∷ ats) [] n = refl
zeros_say_of (a ∷ ats) (e ∷ es) n = λ i. zeros_say a e n i ∷ zeros_say_of ats es n i

start_says : (ats : List Atom) (xs : List ℕ) → says_of ats (start_of ats) xs ≡ map (λ (a : Atom). holds a xs) ats
unfolding says_of start_of start_entry says holds
start_says [] xs = refl
start_says (a ∷ ats) xs = ap (λ (bs : List Bool). holds a xs ∷ bs) (start_says ats xs)

-- ---- words

coefficients_within : (q : Question) (i : ℕ) → length (coefficients_of q i) ≤ q.n
unfolding coefficients_of
coefficients_within q i = omega (arith, length-take q.n (drop (most_variables * i) q.coefficients))

atoms_from_within : (q : Question) (i : ℕ) (κs : List Kind) → Within q.n (atoms_from q i κs)
unfolding atoms_from
atoms_from_within q i [] = within-[]
atoms_from_within q i (κ ∷ κs) = within-∷ (coefficients_within q i) (atoms_from_within q (suc i) κs)

atoms_within : (q : Question) → Within q.n (atoms_of q)
unfolding atoms_of
atoms_within q = atoms_from_within q 0 (kinds_of (nodes_of q))

module _ (q : Question) where
  -- the worths of the state that a word leads to are what the state at its beginning says of what the word spells
  after_says : (es : State) (w : Word) → worths_of (atoms_of q) (after (machine_of q) es w) ≡ says_of (atoms_of q) es (spelled q.n w)
  unfolding after machine_of
  after_says es [] = rw (spelled_nil q.n) (sym (zeros_say_of (atoms_of q) es q.n))
  after_says es (l ∷ w) =
      let xs : List ℕ = spelled q.n w in
      let h : Within (length xs) (atoms_of q) = rw (length_spelled q.n w) (atoms_within q) in
      rw (spelled_cons q.n l w) (after_says (step_of (atoms_of q) es l) w ∙ sym (step_says_of xs es l h))

  pub word_means : (w : Word) → (machine_of q).accepts (after (machine_of q) (machine_of q).start w) ≡ satisfied q (spelled q.n w)
  unfolding machine_of accepting satisfied
  word_means w = ap (formula_worth (nodes_of q)) (after_says (start_of (atoms_of q)) w ∙ start_says (atoms_of q) (spelled q.n w))

-- ---- the values that satisfy a question are those that the accepted words spell

pub record AcceptedWord (q : Question) (xs : List ℕ) : Type 0 where
  pub word : Word
  pub over : Over (letters q.n) word
  pub accepted : (machine_of q).accepts (after (machine_of q) (machine_of q).start word) ≡ true
  pub spells : spelled q.n word ≡ xs

module _ (q : Question) where
  pub accepted_satisfies : (w : Word) → (machine_of q).accepts (after (machine_of q) (machine_of q).start w) ≡ true → satisfied q (spelled q.n w) ≡ true
  accepted_satisfies w h = sym (word_means q w) ∙ h

  pub satisfied_accepted : (xs : List ℕ) → length xs ≡ q.n → satisfied q xs ≡ true → AcceptedWord q xs
  satisfied_accepted xs e h =
      let s : SpelledBy q.n xs = every_tuple q.n xs e in
      record { word = s.word; over = s.over; accepted = word_means q s.word ∙ ap (satisfied q) s.spells ∙ h; spells = s.spells }

  pub satisfied_iff_accepted_word : (xs : List ℕ) → length xs ≡ q.n → (satisfied q xs ≡ true) ↔ AcceptedWord q xs
  satisfied_iff_accepted_word xs e = (
    satisfied_accepted xs e,
    λ a. ap (satisfied q) (sym a.spells) ∙ accepted_satisfies a.word a.accepted,
  )

  -- values below 2 ^ k are judged by the word of k letters that spells them
  pub values_mean : (k : ℕ) (xs : List ℕ) → length xs ≡ q.n → Over (2 ^ k) xs
      → (machine_of q).accepts (after (machine_of q) (machine_of q).start (word_of_values k xs)) ≡ satisfied q xs
  values_mean k xs e o = word_means q (word_of_values k xs) ∙ ap (satisfied q) (rw e at (word_of_values_spells k xs o))
