-- What is gathered of a list's parts: none at first, then one more. Assumes nothing.
use Prim.Native.Nat.{ℕ, zero, suc, ◌*◌, ◌≤◌, ◌<◌}
use native.Mathlib.Omega.{arith}
use native.Mathlib.Decide.{ℕ_discrete}
use mathlib.Core.Path.{◌≡◌, refl, sym, ap, ◌∙◌}
use mathlib.Core.Bool.{false}
use mathlib.Core.Option.{Option, none}
use mathlib.Core.List.{List, [], ◌∷◌, ◌++◌, append-nil}
use lib.ListN.{length, replicate, length-append}
use lib.IntN.{ℤ, pos, nat_abs, ◌+ℤ◌}
use Rattle.smtlib.specs.Terms.{most_collected, no_numbers, collected_fit, Term, faults_in, total}
use Rattle.smtlib.specs.Script.{lowest_of}
use Rattle.smtlib.specs.Laws.{lower_of, lowest_append, sums_length, total_append, faults_in_append}
use Rattle.theory.specs.Numbers.Magnitude.{abs_add}
use Rattle.lexicon.specs.Spots.{spot_of}
use Rattle.terms.specs.declared.Collected.{Collected}
use Rattle.terms.specs.declared.gather.Piece.{Piece}
use Rattle.terms.specs.declared.gather.Gathering.{Gathering}
use Rattle.terms.specs.Seven.{number_count, lane_value, lane, SumAdded}
use Rattle.terms.specs.Gathered.{part_count}
use Rattle.terms.specs.Gathering.{NumbersFit, GatheringFits, PartKept, FirstKept, SecondKept, Totals, Gathers}
use Rattle.terms.specs.Read.{TermSays}
use Rattle.terms.proofs.Sevens.{lane_sums, fit_each}

-- ---- none

abbrev pub no_gathering : Gathering
no_gathering = record {
  count = 0;
  sum = record { low = no_numbers; high = no_numbers };
  first = record { numeric = false; numbers = no_numbers };
  second = record { numeric = false; numbers = no_numbers };
  fault = spot_of none;
}

lane_none : (n i : ℕ) → lane (replicate n (pos 0)) i ≡ pos 0
lane_none zero i = refl
lane_none (suc n) zero = refl
lane_none (suc n) (suc i) = lane_none n i

none_small : NumbersFit false no_numbers
unfolding collected_fit
none_small = record { within_limit = tt; numeral_small = λ e. omega arith }

pub none_fits : GatheringFits no_gathering
none_fits = record {
  lows = record { lanes = λ i h. rw (lane_none number_count i) (omega arith) };
  first_fits = none_small;
  second_fits = none_small;
}

pub none_gathers : Gathers [] no_gathering
unfolding part_count lowest_of faults_in total lane_value
none_gathers = record {
  count_is = refl;
  fault_is = refl;
  total_is = λ e. record { seven = refl; lanes = λ i h. rw (lane_none number_count i) };
  sum_small = λ i h. rw (lane_none number_count i) (omega arith);
  first_kept = tt;
  second_kept = tt;
}

-- ---- one more

abbrev pub piece_of : Collected → Piece
piece_of part = record { numeric = part.numeric; numbers = part.numbers }

-- what the code does with a part
pub record OneMore (g : Gathering) (part : Collected) (r : Gathering) : Type 0 where
  pub sum_added : SumAdded g.sum.low g.sum.high part.numbers r.sum.low r.sum.high
  pub lower_fault : (o p : Option ℕ) → g.fault ≡ spot_of o → part.fault ≡ spot_of p → r.fault ≡ spot_of (lower_of o p)
  pub count_few : g.count < 3 → r.count ≡ suc g.count
  pub count_most : 3 ≤ g.count → r.count ≡ 3
  pub first_new : g.count ≡ 0 → r.first ≡ piece_of part
  pub first_old : (g.count ≡ 0 → ⊥) → r.first ≡ g.first
  pub second_new : r.second ≡ piece_of part

pub both_empty : (k l : List ℕ) → k ++ l ≡ [] → (k ≡ []) × (l ≡ [])
both_empty [] l e = (refl, e)
both_empty (a ∷ k) l e = absurd (let z : ◌≡◌ {A = ℕ} 0 1 = cc in omega arith)

faults_more : (ts : List Term) (t : Term) → faults_in (ts ++ (t ∷ [])) ≡ faults_in ts ++ t.faults
unfolding faults_in
faults_more ts t = faults_in_append ts (t ∷ []) ∙ ap (λ (l : List ℕ). faults_in ts ++ l) (append-nil t.faults)

module _ {g r : Gathering} {part : Collected} (m : OneMore g part r) (ts : List Term) (t : Term) (had : Gathers ts g) (says : TermSays t part) (seven : length part.numbers ≡ number_count) where
  kept_more : PartKept t (piece_of part)
  kept_more = record { is_numeral = says.is_numeral; numbers_are = says.numbers_are }

  fault_more : r.fault ≡ spot_of (lowest_of (faults_in (ts ++ (t ∷ []))))
  fault_more =
      m.lower_fault (lowest_of (faults_in ts)) (lowest_of t.faults) had.fault_is says.fault_is
      ∙ ap spot_of (sym (ap lowest_of (faults_more ts t) ∙ lowest_append (faults_in ts) t.faults))

  total_more : faults_in (ts ++ (t ∷ [])) ≡ [] → Totals (ts ++ (t ∷ [])) r.sum.low r.sum.high
  total_more e =
      let none = both_empty (faults_in ts) t.faults (sym (faults_more ts t) ∙ e) in
      let old = had.total_is none.0 in
      let same = says.numbers_are none.1 in
      let long : length t.numbers ≡ number_count = sym (ap length same) ∙ seven in
      record {
        seven = ap length (total_append ts t) ∙ sums_length number_count (total ts) t.numbers old.seven long;
        lanes = λ i h.
            (m.sum_added.lanes i h).value
            ∙ (λ k. old.lanes i h k +ℤ lane (same k) i)
            ∙ sym (lane_sums (total ts) t.numbers i (old.seven ∙ sym long))
            ∙ sym (ap (λ (l : List ℤ). lane l i) (total_append ts t));
      }

  sum_more : (i : ℕ) → i < number_count → nat_abs (lane_value (lane r.sum.low i) (lane r.sum.high i)) ≤ length (ts ++ (t ∷ [])) * most_collected
  sum_more i h =
      rw ((m.sum_added.lanes i h).value, length-append)
      (omega (arith, abs_add (lane_value (lane g.sum.low i) (lane g.sum.high i)) (lane part.numbers i), had.sum_small i h, fit_each part.numbers i says.within_limit))

module _ {g r : Gathering} {part : Collected} (m : OneMore g part r) (t : Term) (kept : PartKept t (piece_of part)) where
  count_more : (ts : List Term) → g.count ≡ part_count ts → r.count ≡ part_count (ts ++ (t ∷ []))
  unfolding part_count
  count_more [] e = m.count_few (omega arith) ∙ ap suc e
  count_more (u ∷ []) e = m.count_few (omega arith) ∙ ap suc e
  count_more (u ∷ v ∷ []) e = m.count_few (omega arith) ∙ ap suc e
  count_more (u ∷ v ∷ w ∷ ts) e = m.count_most (omega arith)

  first_more : (ts : List Term) → g.count ≡ part_count ts → FirstKept ts g.first → FirstKept (ts ++ (t ∷ [])) r.first
  unfolding part_count
  first_more [] e k = rw (m.first_new e) kept
  first_more (u ∷ []) e k = rw (m.first_old (λ z. omega arith)) k
  first_more (u ∷ v ∷ []) e k = rw (m.first_old (λ z. omega arith)) k
  first_more (u ∷ v ∷ w ∷ ts) e k = rw (m.first_old (λ z. omega arith)) k

  second_more : (ts : List Term) → SecondKept (ts ++ (t ∷ [])) r.second
  second_more [] = tt
  second_more (u ∷ []) = rw m.second_new kept
  second_more (u ∷ v ∷ []) = tt
  second_more (u ∷ v ∷ w ∷ ts) = tt

pub more_gathers : {g r : Gathering} {part : Collected} → OneMore g part r → length part.numbers ≡ number_count
    → (ts : List Term) (t : Term) → Gathers ts g → TermSays t part → Gathers (ts ++ (t ∷ [])) r
more_gathers m seven ts t had says =
    let kept = kept_more m ts t had says seven in
    record {
      count_is = count_more m t kept ts had.count_is;
      fault_is = fault_more m ts t had says seven;
      total_is = total_more m ts t had says seven;
      sum_small = sum_more m ts t had says seven;
      first_kept = first_more m t kept ts had.count_is had.first_kept;
      second_kept = second_more m t kept ts;
    }

pub more_fits : {g r : Gathering} {part : Collected} → OneMore g part r → GatheringFits g → NumbersFit part.numeric part.numbers → GatheringFits r
more_fits {g} {r} {part} m had fits = record {
  lows = record { lanes = λ i h. (m.sum_added.lanes i h).low_small };
  first_fits = go (ℕ_discrete g.count 0);
  second_fits = rw m.second_new fits;
}
  where
    go : Dec (g.count ≡ 0) → NumbersFit r.first.numeric r.first.numbers
    go (yes e) = rw (m.first_new e) fits
    go (no n) = rw (m.first_old n) had.first_fits
