-- The range of an entry: a letter's sum lies between -N and P, so an entry lies between `lowest` and `highest`, or is dead where its
-- atom is an equation; and so does every entry of a state that a word leads to.
use Rattle.std.specs.Prelude.{◌≡◌, refl, Bool, true, false, cond, ℕ, zero, suc, ◌+◌, ◌<◌, length, get_or, ℤ, pos, negsuc, neg_ℤ, ◌+ℤ◌, ◌-ℤ◌, ◌≤ℤ◌}
use Rattle.std.proofs.Common.{ap, zero-add, arith}
use mathlib.Core.List.{List, [], ◌∷◌}
use Rattle.std.proofs.Math.Dec.{eqb}
use Rattle.std.specs.Int.Signed.{≤ℤ_refl}
use Rattle.scope.specs.declared.Question.{Question}
use Rattle.scope.specs.Whole.{even, half}
use Rattle.scope.specs.Question.{Kind, equation, at_most, Atom, atoms_of}
use Rattle.scope.specs.Words.{Word, digit}
use Rattle.scope.specs.States.{Entry, dead, live, State, sum_from, sum_at, halved, start_entry, step_entry, start_of, step_of}
use Rattle.scope.specs.Bound.{positives, negatives, lowest, highest}
use Rattle.scope.specs.Numbering.{machine_of, after}
use Rattle.theory.specs.Numbers.Bridge.{as_D, linear}
use Rattle.theory.specs.Numbers.Half.{min_max, half_in_range}

-- ---- a letter's sum

-- one coefficient, taken or not
taken_low : (t : Bool) (a : ℤ) (n : ℕ) → neg_ℤ (pos n) ≤ℤ a → neg_ℤ (pos n) ≤ℤ cond t a (pos 0)
taken_low true a n h = h
taken_low false a n h = simp linear (omega arith)

taken_high : (t : Bool) (a : ℤ) (p : ℕ) → a ≤ℤ pos p → cond t a (pos 0) ≤ℤ pos p
taken_high true a p h = h
taken_high false a p h = simp linear (omega arith)

add_low : (x z : ℤ) (m n : ℕ) → neg_ℤ (pos m) ≤ℤ x → neg_ℤ (pos n) ≤ℤ z → neg_ℤ (pos (m + n)) ≤ℤ (x +ℤ z)
add_low x z m n = rw (as_D x, as_D z) (simp linear (omega arith))

add_high : (x z : ℤ) (p q : ℕ) → x ≤ℤ pos p → z ≤ℤ pos q → (x +ℤ z) ≤ℤ pos (p + q)
add_high x z p q = rw (as_D x, as_D z) (simp linear (omega arith))

module _ (letter j : ℕ) (a : ℤ) (cs : List ℤ) where
  next_low : (m n : ℕ) → neg_ℤ (pos m) ≤ℤ a → neg_ℤ (pos n) ≤ℤ sum_from letter (suc j) cs → neg_ℤ (pos (m + n)) ≤ℤ sum_from letter j (a ∷ cs)
  unfolding sum_from
  next_low m n h = let t = eqb (digit letter j) 1 in add_low (cond t a (pos 0)) (sum_from letter (suc j) cs) m n (taken_low t a m h)

  next_high : (p q : ℕ) → a ≤ℤ pos p → sum_from letter (suc j) cs ≤ℤ pos q → sum_from letter j (a ∷ cs) ≤ℤ pos (p + q)
  unfolding sum_from
  next_high p q h = let t = eqb (digit letter j) 1 in add_high (cond t a (pos 0)) (sum_from letter (suc j) cs) p q (taken_high t a p h)

sum_from_low : (letter j : ℕ) (a : List ℤ) → neg_ℤ (pos (negatives a)) ≤ℤ sum_from letter j a
unfolding negatives sum_from
sum_from_low letter j [] = ≤ℤ_refl (pos 0)
sum_from_low letter j (pos k ∷ cs) =
    rw zero-add at (next_low letter j (pos k) cs 0 (negatives cs) (simp linear (omega arith)) (sum_from_low letter (suc j) cs))
sum_from_low letter j (negsuc k ∷ cs) =
    next_low letter j (negsuc k) cs (suc k) (negatives cs) (≤ℤ_refl (negsuc k)) (sum_from_low letter (suc j) cs)

sum_from_high : (letter j : ℕ) (a : List ℤ) → sum_from letter j a ≤ℤ pos (positives a)
unfolding positives sum_from
sum_from_high letter j [] = ≤ℤ_refl (pos 0)
sum_from_high letter j (pos k ∷ cs) =
    next_high letter j (pos k) cs k (positives cs) (≤ℤ_refl (pos k)) (sum_from_high letter (suc j) cs)
sum_from_high letter j (negsuc k ∷ cs) =
    rw zero-add at (next_high letter j (negsuc k) cs 0 (positives cs) (simp linear (omega arith)) (sum_from_high letter (suc j) cs))

sum_low : (a : List ℤ) (letter : ℕ) → neg_ℤ (pos (negatives a)) ≤ℤ sum_at a letter
unfolding sum_at
sum_low a letter = sum_from_low letter 0 a

sum_high : (a : List ℤ) (letter : ℕ) → sum_at a letter ≤ℤ pos (positives a)
unfolding sum_at
sum_high a letter = sum_from_high letter 0 a

-- ---- an entry

pub data EntryIn (a : Atom) : Entry → Type 0 where
  in_dead : a.kind ≡ equation → EntryIn a dead
  in_live : {k : ℤ} → lowest a ≤ℤ k → k ≤ℤ highest a → EntryIn a (live k)

start_in : (a : Atom) → EntryIn a (start_entry a)
unfolding start_entry lowest highest
start_in a = in_live (min_max a.constant (neg_ℤ (pos (positives a.coefficients)))).low_a (min_max a.constant (pos (negatives a.coefficients))).high_a

halved_in : (a : Atom) (κ : Kind) (d : ℤ) → a.kind ≡ κ → (lowest a ≤ℤ half d) × (half d ≤ℤ highest a) → EntryIn a (halved κ d)
halved_in a equation d e h = go (even d)
  where
    go : (t : Bool) → EntryIn a (cond t (live (half d)) dead)
    go true = in_live h.0 h.1
    go false = in_dead e
halved_in a at_most d e h = in_live h.0 h.1

half_in : (a : Atom) (k : ℤ) (letter : ℕ) → lowest a ≤ℤ k → k ≤ℤ highest a
    → (lowest a ≤ℤ half (k -ℤ sum_at a.coefficients letter)) × (half (k -ℤ sum_at a.coefficients letter) ≤ℤ highest a)
unfolding lowest highest
half_in a k letter =
    let cs = a.coefficients in
    half_in_range a.constant k (sum_at cs letter) (pos (negatives cs)) (pos (positives cs)) (sum_low cs letter) (sum_high cs letter)

pub step_in : {a : Atom} {e : Entry} (letter : ℕ) → EntryIn a e → EntryIn a (step_entry a e letter)
unfolding step_entry
step_in letter (in_dead e) = in_dead e
step_in {a} letter (in_live {k} l h) = halved_in a a.kind (k -ℤ sum_at a.coefficients letter) refl (half_in a k letter l h)

-- ---- a state: an entry in range for each atom

pub data StateIn : List Atom → State → Type 0 where
  in-[] : StateIn [] []
  in-∷ : {a : Atom} {ats : List Atom} {e : Entry} {es : State} → EntryIn a e → StateIn ats es → StateIn (a ∷ ats) (e ∷ es)

pub length_in : {ats : List Atom} {es : State} → StateIn ats es → length es ≡ length ats
length_in in-[] = refl
length_in (in-∷ h s) = ap suc (length_in s)

pub entry_in : {ats : List Atom} {es : State} → StateIn ats es → (i : ℕ) (a : Atom) (e : Entry) → i < length ats → EntryIn (get_or ats i a) (get_or es i e)
entry_in in-[] i a e h = absurd (omega arith)
entry_in (in-∷ h s) zero a e b = h
entry_in (in-∷ h s) (suc i) a e b = entry_in s i a e (omega arith)

pub start_of_in : (ats : List Atom) → StateIn ats (start_of ats)
unfolding start_of
start_of_in [] = in-[]
start_of_in (a ∷ ats) = in-∷ (start_in a) (start_of_in ats)

pub step_of_in : {ats : List Atom} {es : State} (letter : ℕ) → StateIn ats es → StateIn ats (step_of ats es letter)
unfolding step_of
step_of_in letter in-[] = in-[]
step_of_in letter (in-∷ h s) = in-∷ (step_in letter h) (step_of_in letter s)

module _ (q : Question) where
  after_in : (es : State) (w : Word) → StateIn (atoms_of q) es → StateIn (atoms_of q) (after (machine_of q) es w)
  unfolding after machine_of
  after_in es [] s = s
  after_in es (letter ∷ w) s = after_in (step_of (atoms_of q) es letter) w (step_of_in letter s)

  pub reached_in : (w : Word) → StateIn (atoms_of q) (after (machine_of q) (machine_of q).start w)
  unfolding machine_of
  reached_in w = after_in (start_of (atoms_of q)) w (start_of_in (atoms_of q))
