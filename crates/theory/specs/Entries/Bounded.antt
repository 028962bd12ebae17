-- The bound: a state in range has a code below the product of the entries' counts, and states that differ have codes that differ.
-- So the distinct states in range are no more than the bound.
use Rattle.std.specs.Prelude.{◌≡◌, refl, ◌≢◌, List, [], ◌∷◌, ℕ, ◌+◌, ◌*◌, ◌≤◌, ◌<◌, length, ℤ, pos, nat_abs, ◌+ℤ◌, ◌-ℤ◌, ◌≤ℤ◌}
use Rattle.std.proofs.Common.{ap, ◌∙◌, sym, mul-le-mul_right, suc-mul, arith}
use Rattle.std.proofs.Math.Logic.{by_cases}
use Rattle.std.proofs.Math.Decide.{dec_lt}
use Rattle.std.specs.Int.Signed.{yes_non_neg, pos-nat_abs}
use Rattle.scope.specs.declared.Question.{Question}
use Rattle.scope.specs.Question.{Atom, atoms_of}
use Rattle.scope.specs.States.{Entry, dead, live, State}
use Rattle.scope.specs.Bound.{lowest, highest, entry_count, product, bound}
use Rattle.scope.specs.Numbering.{Rows, machine_of, after, row, word_of}
use Rattle.theory.specs.Numbers.Bridge.{as_D, linear}
use Rattle.theory.specs.Numbers.Integers.{≤ℤ_trans}
use Rattle.theory.specs.Entries.Range.{EntryIn, in_dead, in_live, StateIn, in-[], in-∷, reached_in}
use Rattle.theory.specs.Numbers.Pigeonhole.{pigeonhole}

-- ---- the distance from lo up to k

nonneg_sub : (lo k : ℤ) → lo ≤ℤ k → pos 0 ≤ℤ (k -ℤ lo)
nonneg_sub lo k = rw (as_D lo, as_D k) (simp linear (omega arith))

from_low : (lo k d : ℤ) → d ≡ k -ℤ lo → k ≡ lo +ℤ d
from_low lo k d = rw (as_D lo, as_D k, as_D d) (simp linear (omega arith))

distance : (lo k : ℤ) → lo ≤ℤ k → k ≡ lo +ℤ pos (nat_abs (k -ℤ lo))
distance lo k h = from_low lo k (pos (nat_abs (k -ℤ lo))) (pos-nat_abs (k -ℤ lo) (yes_non_neg (nonneg_sub lo k h)))

distance_le : (lo k hi : ℤ) → lo ≤ℤ k → k ≤ℤ hi → nat_abs (k -ℤ lo) ≤ nat_abs (hi -ℤ lo)
distance_le lo k hi l h = go lo (nat_abs (k -ℤ lo)) (nat_abs (hi -ℤ lo)) (rw (distance lo k l, distance lo hi (≤ℤ_trans lo k hi l h)) at h)
  where
    go : (lo : ℤ) (m n : ℕ) → (lo +ℤ pos m) ≤ℤ (lo +ℤ pos n) → m ≤ n
    go lo m n = rw (as_D lo) (simp linear (omega arith))

-- ---- an entry's code

unfoldable pub entry_code : Atom → Entry → ℕ
entry_code a dead = nat_abs (highest a -ℤ lowest a) + 1
entry_code a (live k) = nat_abs (k -ℤ lowest a)

entry_code_below : {a : Atom} {e : Entry} → EntryIn a e → entry_code a e < entry_count a
unfolding entry_code entry_count
entry_code_below (in_dead e) = rw e (omega arith)
entry_code_below {a} (in_live {k} l h) = omega (arith, distance_le (lowest a) k (highest a) l h)

entry_code_injective : {a : Atom} {e e' : Entry} → EntryIn a e → EntryIn a e' → entry_code a e ≡ entry_code a e' → e ≡ e'
unfolding entry_code
entry_code_injective (in_dead h) (in_dead h') c = refl
entry_code_injective {a} (in_dead h) (in_live {k} l u) c = absurd (omega (arith, distance_le (lowest a) k (highest a) l u))
entry_code_injective {a} (in_live {k} l u) (in_dead h) c = absurd (omega (arith, distance_le (lowest a) k (highest a) l u))
entry_code_injective {a} (in_live {k} l u) (in_live {k = k'} l' u') c =
    ap live (distance (lowest a) k l ∙ ap (λ (n : ℕ). lowest a +ℤ pos n) c ∙ sym (distance (lowest a) k' l'))

-- ---- a state's code

digit_below : (c n d p : ℕ) → c < n → d < p → c * p + d < n * p
digit_below c n d p h b = omega (arith, suc-mul c p, mul-le-mul_right p h)

digits_one : (c c' d d' p : ℕ) → d < p → d' < p → c * p + d ≡ c' * p + d' → (c ≡ c') × (d ≡ d')
digits_one c c' d d' p b b' e = (same, omega (arith, ap (λ (n : ℕ). n * p) same))
  where
    same : c ≡ c'
    same = by_cases (dec_lt c c')
        (λ h. absurd (omega (arith, digit_below c c' d p h b)))
        (λ n. by_cases (dec_lt c' c) (λ h. absurd (omega (arith, digit_below c' c d' p h b'))) (λ m. omega arith))

unfoldable pub code : List Atom → State → ℕ
code [] es = 0
code (a ∷ ats) [] = 0
code (a ∷ ats) (e ∷ es) = entry_code a e * product ats + code ats es

code_below : {ats : List Atom} {es : State} → StateIn ats es → code ats es < product ats
unfolding code product
code_below in-[] = omega arith
code_below (in-∷ {a} {ats} {e} {es} h s) = digit_below (entry_code a e) (entry_count a) (code ats es) (product ats) (entry_code_below h) (code_below s)

code_injective : {ats : List Atom} {es es' : State} → StateIn ats es → StateIn ats es' → code ats es ≡ code ats es' → es ≡ es'
unfolding code
code_injective in-[] in-[] c = refl
code_injective (in-∷ {a} {ats} {e} {es} h s) (in-∷ {e = e'} {es = es'} h' s') c =
    let d : (entry_code a e ≡ entry_code a e') × (code ats es ≡ code ats es') = digits_one (entry_code a e) (entry_code a e') (code ats es) (code ats es') (product ats) (code_below s) (code_below s') c in
    λ i. entry_code_injective h h' d.0 i ∷ code_injective s s' d.1 i

distinct_in_bound : (ats : List Atom) (k : ℕ) (state : ℕ → State)
    → ((i : ℕ) → i < k → StateIn ats (state i))
    → ((i j : ℕ) → i < j → j < k → state i ≢ state j)
    → k ≤ product ats
distinct_in_bound ats k state within apart = pigeonhole (λ i. code ats (state i)) k (product ats)
    (λ i h. code_below (within i h))
    (λ i j h b e. apart i j h b (code_injective (within i (omega arith)) (within j b) e))

-- rows of distinct states that their words lead to, as those of `numbered` are
module _ (q : Question) (l : Rows State) where
  pub rows_in : ((t : ℕ) → t < length l → after (machine_of q) (machine_of q).start (word_of (machine_of q) l t) ≡ (row (machine_of q) l t).state)
      → (t : ℕ) → t < length l → StateIn (atoms_of q) (row (machine_of q) l t).state
  rows_in leads t h = rw (leads t h) at (reached_in q (word_of (machine_of q) l t))

  pub rows_in_bound : ((t : ℕ) → t < length l → after (machine_of q) (machine_of q).start (word_of (machine_of q) l t) ≡ (row (machine_of q) l t).state)
      → ((t u : ℕ) → t < u → u < length l → (row (machine_of q) l t).state ≢ (row (machine_of q) l u).state)
      → length l ≤ bound q
  unfolding bound
  rows_in_bound leads apart = distinct_in_bound (atoms_of q) (length l) (λ t. (row (machine_of q) l t).state) (rows_in leads) apart
