-- The letters' sums, cell by cell, row by row and digit by digit. Assumes nothing.
use mathlib.Core.Path.{◌≡◌, refl, sym, ◌∙◌}
use mathlib.Core.List.{List}
use mathlib.Core.Logic.{by_cases}
use Prim.Native.Nat.{ℕ, ◌+◌, ◌*◌, ◌-◌, ◌/◌, ◌%◌, ◌^◌, ◌≤◌, ◌<◌}
use native.Mathlib.Decide.{dec_lt}
use native.Mathlib.Nat.{pow-suc, zero-add}
use native.Mathlib.Numerals.{add-one}
use native.Mathlib.Omega.{arith}
use borrow.Author.Count.{below_none, below_more}
use lib.ListN.{length, get_or, set, take, drop, replicate, length-set, length-drop, length-take, get_or-replicate, get_or-eq_default}
use lib.Pow.{pow_mono}
use lib.Seq.{get_or-set_same, get_or-set_other, get_or-take, get_or-drop, take-take}
use lib.IntN.{ℤ, pos, nat_abs, ◌+ℤ◌}
use mir.Syntax.{w32}
use mir.Val.{SFits}
use Rattle.scope.specs.States.{sum_at, sum_from}
use Rattle.theory.specs.Entries.KeyCells.{most_sum}
use Rattle.theory.specs.Numbers.Magnitude.{abs_add, fits_abs}
use Rattle.theory.specs.Numbers.Sums.{Small, small_get_d, small_take, sum_at_small, sum_without, sum_with}
use Rattle.step.specs.Eight.{listed, length_listed, get_d_listed, padded, get_d_padded, padded_next}
use Rattle.step.specs.Cells.{digit_adds, Coefficients, Sums, Adding, SumsAdded}

-- ---- cells

pub added_none : {adds sums : List ℤ} {from to many : ℕ} → Adding adds sums from to many → SumsAdded adds sums sums from to 0
added_none a = record { whole = a.whole; same = λ k h. refl; more = below_none _ }

module _ {adds before sums : List ℤ} {from to : ℕ} (a : Adding adds before from to 8) (i : ℕ) (h : i < 8) (s : SumsAdded adds before sums from to i) where
  -- what the next cell becomes
  abbrev next : ℤ
  next = get_or sums (from + i) (pos 0) +ℤ get_or adds i (pos 0)

  cell_same : get_or sums (from + i) (pos 0) ≡ get_or before (from + i) (pos 0)
  cell_same = s.same (from + i) (omega (arith, a.apart))

  pub next_fits : SFits w32 next
  next_fits =
      let z : nat_abs (get_or sums (from + i) (pos 0)) ≤ most_sum = rw cell_same (a.sums_small i h) in
      fits_abs w32 next (omega (arith, abs_add (get_or sums (from + i) (pos 0)) (get_or adds i (pos 0)), z, a.adds_small i (omega arith)))

  pub added_next : SumsAdded adds before (set sums (to + i) next) from to (i + 1)
  added_next = record {
    whole = length-set sums (to + i) next ∙ s.whole;
    same = λ k l. get_or-set_other sums (to + i) k next (pos 0) (λ e. omega arith) ∙ s.same k l;
    more = below_more (λ k. get_or (set sums (to + i) next) (to + k) (pos 0) ≡ get_or before (from + k) (pos 0) +ℤ get_or adds (k % 8) (pos 0)) i
        (λ k l. get_or-set_other sums (to + i) (to + k) next (pos 0) (λ e. omega arith) ∙ s.more k l)
        (let e : i % 8 ≡ i = omega arith in get_or-set_same sums (to + i) next (pos 0) (omega (arith, a.room, s.whole)) ∙ rw (e, cell_same));
  }

-- ---- rows

module _ {adds before sums : List ℤ} {count letter : ℕ} (l : letter < count) (s : SumsAdded adds before sums 0 (8 * count) (8 * letter)) where
  pub row_asked : Adding adds before 0 (8 * count) (8 * count) → Adding adds sums (8 * letter) (8 * (count + letter)) 8
  row_asked a = record {
    whole = s.whole;
    apart = omega arith;
    room = omega (arith, a.room);
    sums_small = λ k h.
        let p : 8 * letter + k < 8 * count = omega arith in
        rw (s.same (8 * letter + k) p) (rw (zero-add (8 * letter + k)) at (a.sums_small (8 * letter + k) p));
    adds_small = a.adds_small;
  }

  pub row_added : {after : List ℤ} → SumsAdded adds sums after (8 * letter) (8 * (count + letter)) 8 → SumsAdded adds before after 0 (8 * count) (8 * (letter + 1))
  row_added {after} r = record {
    whole = r.whole;
    same = λ k h. r.same k (omega arith) ∙ s.same k h;
    more = λ k h. by_cases (dec_lt k (8 * letter)) (λ p. r.same (8 * count + k) (omega arith) ∙ s.more k p) (λ p. at_row k h (omega arith));
  }
    where
      at_row : (k : ℕ) → k < 8 * (letter + 1) → 8 * letter ≤ k → get_or after (8 * count + k) (pos 0) ≡ get_or before (0 + k) (pos 0) +ℤ get_or adds (k % 8) (pos 0)
      at_row k h o =
          let d : ℕ = k - 8 * letter in
          let to : 8 * (count + letter) + d ≡ 8 * count + k = omega arith in
          let from : 8 * letter + d ≡ k = omega arith in
          let column : d % 8 ≡ k % 8 = omega arith in
          rw zero-add (rw (to, from, column, s.same k (omega arith)) at (r.more d (omega arith)))

-- ---- what a digit adds

module _ (cs : List ℤ) (j : ℕ) where
  abbrev item : ℕ → ℤ
  item i = get_or cs (6 * i + j) (pos 0)

  pub adds_none : replicate 8 (pos 0) ≡ digit_adds 0 cs j
  unfolding digit_adds listed padded
  adds_none = refl

  pub adds_next : (i : ℕ) → i < 8 → set (digit_adds i cs j) i (item i) ≡ digit_adds (i + 1) cs j
  unfolding digit_adds listed
  adds_next i h =
      let few : length (listed item i) < 8 = rw (length_listed item i) h in
      rw (add-one i) (rw (length_listed item i) at (padded_next (pos 0) (item i) (listed item i) few))

  module _ (m i : ℕ) where
    add_some : i < m → get_or (digit_adds m cs j) i (pos 0) ≡ get_or (drop (6 * i) cs) j (pos 0)
    unfolding digit_adds
    add_some h = get_d_padded (pos 0) (listed item m) i ∙ get_d_listed item m i (pos 0) h ∙ sym (get_or-drop (6 * i) cs j (pos 0))

    add_none : m ≤ i → get_or (digit_adds m cs j) i (pos 0) ≡ pos 0
    unfolding digit_adds
    add_none h = get_d_padded (pos 0) (listed item m) i ∙ get_or-eq_default (listed item m) (pos 0) (rw (length_listed item m) h)

-- ---- digits

-- a letter of one digit more is without that digit, or with it
with_digit : (j : ℕ) (P : ℕ → Type 0) → ((low : ℕ) → low < 2 ^ j → P low) → ((low : ℕ) → low < 2 ^ j → P (2 ^ j + low))
    → (letter : ℕ) → letter < 2 ^ (j + 1) → P letter
with_digit j P without with letter b =
    let twice : 2 ^ (j + 1) ≡ 2 ^ j * 2 = rw (add-one j) (pow-suc 2 j) in
    by_cases (dec_lt letter (2 ^ j)) (without letter)
    (λ o. let e : 2 ^ j + (letter - 2 ^ j) ≡ letter = omega arith in rw e at (with (letter - 2 ^ j) (omega arith)))

module _ {n m : ℕ} {cs : List ℤ} (c : Coefficients n m cs) where
  abbrev row : ℕ → List ℤ
  row i = drop (6 * i) cs

  pub no_digits : Sums 0 m cs (replicate 512 (pos 0))
  unfolding sum_at sum_from
  no_digits = record { sum_is = λ letter i l h. zeros letter i l (omega (arith, c.atoms)); blank = λ letter i l o h. zeros letter i l h }
    where
      zeros : (letter i : ℕ) → letter < 2 ^ 0 → i < 8 → get_or (replicate 512 (pos 0)) (8 * letter + i) (pos 0) ≡ pos 0
      zeros letter i l h = get_or-replicate 512 (8 * letter + i) (pos 0) (pos 0) (omega arith)

  module _ {j : ℕ} (l : j < n) {sums : List ℤ} (s : Sums j m cs sums) where
    pub digit_asked : length sums ≡ 512 → Adding (digit_adds m cs j) sums 0 (8 * 2 ^ j) (8 * 2 ^ j)
    digit_asked whole =
        let few : 2 ^ j ≤ 2 ^ 5 = pow_mono {j = 5} (omega (arith, c.variables)) in
        record {
          whole = whole;
          apart = omega arith;
          room = omega arith;
          sums_small = λ k h.
              let e : 0 + k ≡ 8 * (k / 8) + k % 8 = omega arith in
              rw e (small (k / 8) (k % 8) (omega arith) (omega arith));
          adds_small = λ i h. by_cases (dec_lt i m) (λ p. rw (add_some cs j m i p) (item_small i p)) (λ p. rw (add_none cs j m i (omega arith)) (omega arith));
        }
      where
        item_small : (i : ℕ) → i < m → nat_abs (get_or (row i) j (pos 0)) ≤ 4096
        item_small i h = rw (get_or-take n (row i) j (pos 0) l) at (small_get_d 4096 j (take n (row i)) (c.small i h))

        sum_small : (letter i : ℕ) → i < m → nat_abs (sum_at (take j (row i)) letter) ≤ most_sum
        sum_small letter i h =
            let least : j ≤ n = omega arith in
            let first : Small 4096 (take j (row i)) = rw (take-take j n (row i) least) at (small_take 4096 j (take n (row i)) (c.small i h)) in
            sum_at_small 4096 6 letter (take j (row i)) first (omega (arith, length-take j (row i), c.variables))

        small : (letter i : ℕ) → letter < 2 ^ j → i < 8 → nat_abs (get_or sums (8 * letter + i) (pos 0)) ≤ most_sum
        small letter i b h =
            by_cases (dec_lt i m) (λ p. rw (s.sum_is letter i b p) (sum_small letter i p)) (λ p. rw (s.blank letter i b (omega arith) h) (omega arith))

    pub digit_added : {after : List ℤ} → SumsAdded (digit_adds m cs j) sums after 0 (8 * 2 ^ j) (8 * 2 ^ j) → Sums (j + 1) m cs after
    digit_added {after} r = record {
      sum_is = λ letter i b h.
          let few : i < 8 = omega (arith, c.atoms) in
          with_digit j (λ k. get_or after (8 * k + i) (pos 0) ≡ sum_at (take (j + 1) (row i)) k)
          (λ low p. same_at_lem low i p few ∙ s.sum_is low i p h ∙ sym (sum_without (row i) j (long i h) low p))
          (λ low p. more_at low i p few ∙ rw (s.sum_is low i p h, add_some cs j m i h) (sym (sum_with (row i) j (long i h) low p))) letter b;
      blank = λ letter i b o few.
          with_digit j (λ k. get_or after (8 * k + i) (pos 0) ≡ pos 0)
          (λ low p. same_at_lem low i p few ∙ s.blank low i p o few)
          (λ low p. more_at low i p few ∙ rw (s.blank low i p o few, add_none cs j m i o)) letter b;
    }
      where
        long : (i : ℕ) → i < m → j < length (row i)
        long i h = rw (length-drop (6 * i) cs) (omega (arith, c.whole, c.atoms, c.variables))

        same_at_lem : (low i : ℕ) → low < 2 ^ j → i < 8 → get_or after (8 * low + i) (pos 0) ≡ get_or sums (8 * low + i) (pos 0)
        same_at_lem low i p h = r.same (8 * low + i) (omega arith)

        more_at : (low i : ℕ) → low < 2 ^ j → i < 8 → get_or after (8 * (2 ^ j + low) + i) (pos 0) ≡ get_or sums (8 * low + i) (pos 0) +ℤ get_or (digit_adds m cs j) i (pos 0)
        more_at low i p h =
            let to : 8 * 2 ^ j + (8 * low + i) ≡ 8 * (2 ^ j + low) + i = omega arith in
            let from : 0 + (8 * low + i) ≡ 8 * low + i = omega arith in
            let column : (8 * low + i) % 8 ≡ i = omega arith in
            rw (to, from, column) at (r.more (8 * low + i) (omega arith))
