-- The seven numbers of a term as the code has them, and a sum of any number of terms: of each number a low and a high part.
use Rattle.std.specs.Prelude.{ℕ, suc, ◌≤◌, ◌<◌, ◌≡◌, Bool, List, leb, length, get_or, ℤ, pos, nat_abs, ◌+ℤ◌, ◌*ℤ◌}
use Rattle.scope.specs.Sizes.{most_variables}
use Rattle.smtlib.specs.Terms.{most_collected}

-- 2 ^ 50
abbrev pub high_unit : ℕ
high_unit = 1125899906842624

-- 2 ^ 49
abbrev pub most_low : ℕ
most_low = 562949953421312

-- 2 ^ 60
abbrev pub most_high : ℕ
most_high = 1152921504606846976

abbrev pub number_count : ℕ
number_count = suc most_variables

unfoldable pub lane_value : ℤ → ℤ → ℤ
lane_value low high = low +ℤ (high *ℤ pos high_unit)

-- ---- one number of a sum

pub record LaneFits (low high : ℤ) : Type 0 where
  pub low_small : nat_abs low ≤ most_low
  pub high_small : nat_abs high ≤ most_high

pub record LaneAdded (low high part newLow newHigh : ℤ) : Type 0 where
  pub value : lane_value newLow newHigh ≡ lane_value low high +ℤ part
  pub low_small : nat_abs newLow ≤ most_low

abbrev pub small_number : ℤ → Bool
small_number z = leb (nat_abs z) most_collected

-- a number of the sum, or one that is as little within the limit
pub record LaneFlat (low high r : ℤ) : Type 0 where
  pub same_test : small_number r ≡ small_number (lane_value low high)
  pub same_value : nat_abs r ≤ most_collected → r ≡ lane_value low high

-- ---- all seven

abbrev pub lane : List ℤ → ℕ → ℤ
lane l i = get_or l i (pos 0)

pub record LowFits (low : List ℤ) : Type 0 where
  pub lanes : (i : ℕ) → i < number_count → nat_abs (lane low i) ≤ most_low

pub record SumFits (low high : List ℤ) : Type 0 where
  pub lanes : (i : ℕ) → i < number_count → LaneFits (lane low i) (lane high i)

pub record SumAdded (low high part newLow newHigh : List ℤ) : Type 0 where
  pub lanes : (i : ℕ) → i < number_count → LaneAdded (lane low i) (lane high i) (lane part i) (lane newLow i) (lane newHigh i)

pub record SumFlat (low high r : List ℤ) : Type 0 where
  pub seven : length r ≡ number_count
  pub lanes : (i : ℕ) → i < number_count → LaneFlat (lane low i) (lane high i) (lane r i)
