-- Key cells tell states apart: where an atom's numbers fit, an entry in range is far smaller than a dead cell. And what the code's
-- signed numbers hold: the size of an entry and of a letter's sum.
use Rattle.std.specs.Prelude.{◌≡◌, ◌≢◌, Bool, true, false, cond, ◌&&◌, ℕ, zero, suc, ◌+◌, ◌*◌, ◌≤◌, ◌<◌, get_or, drop, T, ℤ, nat_abs, ◌≤ℤ◌}
use Rattle.std.proofs.Math.Path.{refl, ap}
use Rattle.std.proofs.Common.{sym, arith, length-take, leb→le}
use mathlib.Core.List.{List, [], ◌∷◌, map}
use Rattle.std.proofs.Math.ListN.{length}
use Rattle.std.proofs.Math.IntN.{pos, neg_ℤ}
use Rattle.std.specs.Int.Signed.{le_z}
use Rattle.std.specs.List.{list_all}
use Rattle.scope.specs.Sizes.{most_variables, most_coefficient, most_constant, coefficient_fits, constant_fits, numbers_fit}
use Rattle.scope.specs.declared.Question.{Question}
use Rattle.scope.specs.Question.{Kind, Atom, nodes_of, kinds_of, coefficients_of, constant_of, atoms_from, atoms_of, atom_count}
use Rattle.scope.specs.States.{Entry, live, State, cell_of, cells_of, dead_cell, sum_at}
use Rattle.scope.specs.Bound.{positives, negatives, lowest, highest}
use Rattle.theory.specs.Numbers.Bridge.{linear}
use Rattle.theory.specs.Numbers.Integers.{≤ℤ_trans}
use Rattle.theory.specs.Numbers.Magnitude.{abs_le, le_abs}
use Rattle.theory.specs.Numbers.Sums.{Small, positives_small, negatives_small, sum_at_small}
use Rattle.theory.specs.Entries.Range.{EntryIn, in_dead, in_live, StateIn, in-[], in-∷}

-- ---- atoms that fit

pub record AtomFits (a : Atom) : Type 0 where
  pub few : length a.coefficients ≤ most_variables
  pub small : Small most_coefficient a.coefficients
  pub constant : nat_abs a.constant ≤ most_constant

pub data AtomsFit : List Atom → Type 0 where
  fit-[] : AtomsFit []
  fit-∷ : {a : Atom} {ats : List Atom} → AtomFits a → AtomsFit ats → AtomsFit (a ∷ ats)

pub fits_at_lem : {ats : List Atom} → AtomsFit ats → (i : ℕ) (a : Atom) → i < length ats → AtomFits (get_or ats i a)
fits_at_lem fit-[] i a h = absurd (omega arith)
fits_at_lem (fit-∷ f fs) zero a h = f
fits_at_lem (fit-∷ f fs) (suc i) a h = fits_at_lem fs i a (omega arith)

both : (s t : Bool) → T (s && t) → T s × T t
both true t h = (tt, h)
both false t h = absurd h

all_small : (a : List ℤ) → T (list_all coefficient_fits a) → Small most_coefficient a
all_small [] h = tt
all_small (a ∷ cs) h =
    let p : T (coefficient_fits a) × T (list_all coefficient_fits cs) = both (coefficient_fits a) (list_all coefficient_fits cs) h in
    (leb→le (nat_abs a) most_coefficient p.0, all_small cs p.1)

pub numbers_fit_lem : (a : Atom) → length a.coefficients ≤ most_variables → T (numbers_fit a.coefficients a.constant) → AtomFits a
unfolding numbers_fit
numbers_fit_lem a h t =
    let p : T (list_all coefficient_fits a.coefficients) × T (constant_fits a.constant) = both (list_all coefficient_fits a.coefficients) (constant_fits a.constant) t in
    record { few = h; small = all_small a.coefficients p.0; constant = leb→le (nat_abs a.constant) most_constant p.1 }

variables_few : (q : Question) (i : ℕ) → length (coefficients_of q i) ≤ q.n
unfolding coefficients_of
variables_few q i = omega (arith, length-take q.n (drop (most_variables * i) q.coefficients))

length_atoms_from : (q : Question) (i : ℕ) (κs : List Kind) → length (atoms_from q i κs) ≡ length κs
unfolding atoms_from
length_atoms_from q i [] = refl
length_atoms_from q i (κ ∷ κs) = ap suc (length_atoms_from q (suc i) κs)

-- of a question whose numbers fit
module _ (q : Question) (variables : q.n ≤ most_variables) where
  atoms_from_fit : (i : ℕ) (κs : List Kind)
      → ((j : ℕ) → j < i + length κs → T (numbers_fit (coefficients_of q j) (constant_of q j)))
      → AtomsFit (atoms_from q i κs)
  unfolding atoms_from
  atoms_from_fit i [] h = fit-[]
  atoms_from_fit i (κ ∷ κs) h =
      fit-∷
      (numbers_fit_lem (record { kind = κ; coefficients = coefficients_of q i; constant = constant_of q i }) fewer (h i (omega arith)))
      (atoms_from_fit (suc i) κs (λ j b. h j (omega arith)))
    where
      fewer : length (coefficients_of q i) ≤ most_variables
      fewer = omega (arith, variables_few q i)

  pub atoms_fit : ((i : ℕ) → i < atom_count q → T (numbers_fit (coefficients_of q i) (constant_of q i))) → AtomsFit (atoms_of q)
  unfolding atoms_of atom_count
  atoms_fit h =
      let κs = kinds_of (nodes_of q) in
      atoms_from_fit 0 κs (λ j b. h j (omega (arith, length_atoms_from q 0 κs)))

-- ---- the size of an entry

either : (t : Bool) (P : ℤ → Type 0) {a b : ℤ} → P a → P b → P (cond t a b)
either true P x y = x
either false P x y = y

neg_pos_le : (m n : ℕ) → m ≤ n → neg_ℤ (pos n) ≤ℤ neg_ℤ (pos m)
neg_pos_le m n h = simp linear (omega arith)

pos_le : (m n : ℕ) → m ≤ n → pos m ≤ℤ pos n
pos_le m n h = simp linear (omega arith)

-- the most that a letter's sum is, either way
abbrev pub most_sum : ℕ
most_sum = most_variables * most_coefficient

module _ {a : Atom} (f : AtomFits a) where
  pub sum_size : (letter : ℕ) → nat_abs (sum_at a.coefficients letter) ≤ most_sum
  sum_size letter = sum_at_small most_coefficient most_variables letter a.coefficients f.small f.few

  lowest_size : neg_ℤ (pos most_constant) ≤ℤ lowest a
  unfolding lowest
  lowest_size =
      let cs = a.coefficients in
      let p : positives cs ≤ most_constant = omega (arith, positives_small most_coefficient cs f.small, f.few) in
      either (le_z a.constant (neg_ℤ (pos (positives cs)))) (λ (z : ℤ). neg_ℤ (pos most_constant) ≤ℤ z)
      (le_abs a.constant most_constant f.constant).0
      (neg_pos_le (positives cs) most_constant p)

  highest_size : highest a ≤ℤ pos most_constant
  unfolding highest
  highest_size =
      let cs = a.coefficients in
      let p : negatives cs ≤ most_constant = omega (arith, negatives_small most_coefficient cs f.small, f.few) in
      either (le_z a.constant (pos (negatives cs))) (λ (z : ℤ). z ≤ℤ pos most_constant)
      (pos_le (negatives cs) most_constant p)
      (le_abs a.constant most_constant f.constant).1

  pub live_size : {k : ℤ} → EntryIn a (live k) → nat_abs k ≤ most_constant
  live_size (in_live {k} l h) = abs_le k most_constant
      (≤ℤ_trans (neg_ℤ (pos most_constant)) (lowest a) k lowest_size l)
      (≤ℤ_trans k (highest a) (pos most_constant) h highest_size)

  pub live_not_dead : {k : ℤ} → EntryIn a (live k) → k ≢ dead_cell
  live_not_dead {k} s e = omega (arith, live_size s, ap nat_abs e)

  cell_of_injective : {e e' : Entry} → EntryIn a e → EntryIn a e' → cell_of e ≡ cell_of e' → e ≡ e'
  unfolding cell_of
  cell_of_injective (in_dead h) (in_dead h') c = refl
  cell_of_injective (in_dead h) (in_live l u) c = absurd (live_not_dead (in_live l u) (sym c))
  cell_of_injective (in_live l u) (in_dead h) c = absurd (live_not_dead (in_live l u) c)
  cell_of_injective (in_live l u) (in_live l' u') c = ap live c

-- ---- states

pub cells_of_injective : {ats : List Atom} {es es' : State} → AtomsFit ats → StateIn ats es → StateIn ats es' → cells_of es ≡ cells_of es' → es ≡ es'
unfolding cells_of
cells_of_injective fit-[] in-[] in-[] c = refl
cells_of_injective (fit-∷ f fs) (in-∷ {e} {es} h s) (in-∷ {e = e'} {es = es'} h' s') c =
    let first : cell_of e ≡ cell_of e' = cc in
    let rest : map cell_of es ≡ map cell_of es' = cc in
    λ i. cell_of_injective f h h' first i ∷ cells_of_injective fs s s' rest i
