-- What the code has gathered of a list's parts so far.
use Rattle.std.specs.Prelude.{ℕ, ◌*◌, ◌≤◌, ◌<◌, ◌≡◌, Bool, true, cond, ◌&&◌, List, [], ◌∷◌, T, eqb, ltb, length, ℤ, nat_abs}
use Rattle.smtlib.specs.Terms.{most_numeral, most_collected, no_numbers, less, collected_fit, Term, faults_in, total}
use Rattle.smtlib.specs.Script.{lowest_of}
use Rattle.lexicon.specs.Spots.{spot_of}
use Rattle.terms.specs.declared.Collected.{Collected}
use Rattle.terms.specs.declared.gather.Piece.{Piece}
use Rattle.terms.specs.declared.gather.Gathering.{Gathering}
use Rattle.terms.specs.Seven.{number_count, lane_value, lane, LowFits, SumFlat}
use Rattle.terms.specs.Gathered.{part_count, product_with}

-- ---- sizes

pub record NumbersFit (numeric : Bool) (numbers : List ℤ) : Type 0 where
  pub within_limit : T (collected_fit numbers)
  pub numeral_small : numeric ≡ true → nat_abs (lane numbers 0) ≤ most_numeral

abbrev pub PartFits : Collected → Type 0
PartFits part = NumbersFit part.numeric part.numbers

abbrev pub PieceFits : Piece → Type 0
PieceFits p = NumbersFit p.numeric p.numbers

pub record GatheringFits (g : Gathering) : Type 0 where
  pub lows : LowFits g.sum.low
  pub first_fits : PieceFits g.first
  pub second_fits : PieceFits g.second

-- ---- what is known of the parts

pub record PartKept (t : Term) (p : Piece) : Type 0 where
  pub is_numeral : p.numeric ≡ t.numeric
  pub numbers_are : t.faults ≡ [] → p.numbers ≡ t.numbers

abbrev pub FirstKept : List Term → Piece → Type 0
FirstKept [] p = Unit {0}
FirstKept (t ∷ ts) p = PartKept t p

-- of two parts
abbrev pub SecondKept : List Term → Piece → Type 0
SecondKept [] p = Unit {0}
SecondKept (t ∷ []) p = Unit {0}
SecondKept (t ∷ u ∷ []) p = PartKept u p
SecondKept (t ∷ u ∷ v ∷ ts) p = Unit {0}

pub record Totals (ts : List Term) (low high : List ℤ) : Type 0 where
  pub seven : length (total ts) ≡ number_count
  pub lanes : (i : ℕ) → i < number_count → lane_value (lane low i) (lane high i) ≡ lane (total ts) i

pub record Gathers (ts : List Term) (g : Gathering) : Type 0 where
  pub count_is : g.count ≡ part_count ts
  pub fault_is : g.fault ≡ spot_of (lowest_of (faults_in ts))
  pub total_is : faults_in ts ≡ [] → Totals ts g.sum.low g.sum.high
  pub sum_small : (i : ℕ) → i < number_count → nat_abs (lane_value (lane g.sum.low i) (lane g.sum.high i)) ≤ length ts * most_collected
  pub first_kept : FirstKept ts g.first
  pub second_kept : SecondKept ts g.second

-- ---- the numbers of the whole, by the head's code

-- of any head but plus
unfoldable pub numbers_by : ℕ → Gathering → List ℤ
numbers_by head g =
    cond (eqb head 2) (product_with g.first.numeric g.first.numbers g.second.numbers)
    (cond (eqb head 1 && eqb g.count 1) (less no_numbers g.first.numbers)
    (cond (ltb head 6) (less g.first.numbers g.second.numbers)
    (less g.second.numbers g.first.numbers)))

pub record NumbersBy (head : ℕ) (g : Gathering) (r : List ℤ) : Type 0 where
  pub of_plus : head ≡ 0 → SumFlat g.sum.low g.sum.high r
  pub of_others : (head ≡ 0 → ⊥) → r ≡ numbers_by head g
