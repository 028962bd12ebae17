-- The numbering in the middle of a row, where the loop that explores stands: what trying one letter does to the rows, that they are
-- the first of all that get numbered, and by which of its ends (found, never, no room) the loop knows the verdict.
use Prim.Native.Nat.{ℕ, zero, suc, ◌+◌, ◌-◌, ◌≤◌, ◌<◌}
use Rattle.std.specs.Prelude.{◌≡◌, ◌≢◌, Bool, take, leb}
use Rattle.std.proofs.Math.Path.{refl, ap}
use Rattle.std.proofs.Common.{sym, ◌∙◌, zero-add, add-suc, add-sub_of_le, take_at}
use Rattle.std.proofs.Math.Logic.{by_cases}
use Rattle.std.proofs.Math.Bool.{true, false}
use mathlib.Core.List.{[], ◌∷◌, ◌++◌}
use Rattle.std.proofs.Math.Decide.{dec_lt}
use Rattle.std.proofs.Math.Nat.{add-zero}
use native.Mathlib.Omega.{arith}
use Rattle.std.proofs.Math.ListN.{length, length-append, get_or-append}
use Rattle.std.proofs.Math.Seq.{get_or-append_seam}
use Rattle.std.proofs.Math.Arith.{lt→nleb}
use Rattle.std.specs.Float.Ieee.Bits.{is_false}
use Rattle.scope.specs.Numbering.{Machine, Row, Rows, start_row, row, has, added_if, tried, tried_all, expanded_if, numbered}
use Rattle.scope.specs.Deciding.{found, never, no_room, verdict, counted}
use Rattle.theory.specs.Machine.Lawful.{Lawful}
use Rattle.theory.specs.Machine.Prefix.{Prefix, prefix_refl, prefix_trans, prefix_length, prefix_row, tried_prefix, tried_all_prefix, numbered_prefix_le, numbered_stays_le}
use Rattle.theory.specs.Machine.Table.{HasRow, has_true, has_false}
use Rattle.theory.specs.Machine.Verdicts.{NoneOf, is_found, is_never, is_no_room_lem, verdict_by_lem}

module _ {S : Type 0} (m : Machine S) where
  -- the rows while row i is expanded: its letters below a are tried
  abbrev pub partial : ℕ → ℕ → Rows S
  partial i a = tried_all m (numbered m i) i 0 a

  abbrev pub target : Rows S → ℕ → ℕ → S
  target l i a = m.step (row m l i).state a

  abbrev pub new_row : Rows S → ℕ → ℕ → Row S
  new_row l i a = record { state = target l i a; from = i; letter = a }

  -- no row has the state
  abbrev pub NoRow : Rows S → S → Type 0
  NoRow l s = (t : ℕ) → t < length l → (row m l t).state ≢ s

  -- letter a of row i leads to a state that has no row while that row is expanded
  abbrev pub New : ℕ → ℕ → Type 0
  New i a = NoRow (partial i a) (target (partial i a) i a)

  -- the rows with its row
  abbrev pub rows_grown : ℕ → ℕ → Rows S
  rows_grown i a = partial i a ++ (new_row (partial i a) i a ∷ [])

  -- ---- letter by letter, and from row to row

  tried_all_last : (l : Rows S) (i a n : ℕ) → tried_all m l i a (suc n) ≡ tried m (tried_all m l i a n) i (a + n)
  unfolding tried_all
  tried_all_last l i a zero = rw add-zero
  tried_all_last l i a (suc n) = let e : suc a + n ≡ a + suc n = omega arith in tried_all_last (tried m l i a) i (suc a) n ∙ rw e

  pub partial_zero : (i : ℕ) → partial i 0 ≡ numbered m i
  unfolding tried_all
  partial_zero i = refl

  partial_suc : (i a : ℕ) → partial i (suc a) ≡ tried m (partial i a) i a
  partial_suc i a = tried_all_last (numbered m i) i 0 a ∙ rw zero-add

  pub partial_all : (i : ℕ) → i < length (numbered m i) → partial i m.letters ≡ numbered m (suc i)
  unfolding numbered expanded_if
  partial_all i h = rw (is_false (leb (length (numbered m i)) i) (lt→nleb (length (numbered m i)) i h))

  -- ---- the rows so far are the first of all that get numbered

  partial_prefix : (i a n : ℕ) → Prefix (partial i a) (partial i (a + n))
  partial_prefix i a zero = rw add-zero (prefix_refl _)
  partial_prefix i a (suc n) = rw (add-suc, partial_suc i (a + n)) (prefix_trans (partial_prefix i a n) (tried_prefix m (partial i (a + n)) i (a + n)))

  partial_numbered : (i a r : ℕ) → i < length (numbered m i) → a ≤ m.letters → i < r → Prefix (partial i a) (numbered m r)
  partial_numbered i a r h p q =
      let all : Prefix (partial i a) (partial i m.letters) = rw (add-sub_of_le p) at (partial_prefix i a (m.letters - a)) in
      prefix_trans (rw (partial_all i h) at all) (numbered_prefix_le m q)

  pub partial_longer : (i a : ℕ) → length (numbered m i) ≤ length (partial i a)
  partial_longer i a = prefix_length (tried_all_prefix m (numbered m i) i 0 a)

  -- the row being expanded is the same all along
  partial_row : (i a : ℕ) → i < length (numbered m i) → row m (partial i a) i ≡ row m (numbered m i) i
  partial_row i a h = prefix_row m i (tried_all_prefix m (numbered m i) i 0 a) h

  prefix_take : {l l' : Rows S} → Prefix l l' → take (length l) l' ≡ l
  prefix_take {l} p = rw p.is (take_at l p.rest (length l) refl)

  prefix_none : {l l' : Rows S} → Prefix l l' → NoneOf m l (length l) → NoneOf m l' (length l)
  prefix_none p n t h = rw (prefix_row m t p h) (n t h)

  -- ---- the rows with a new one

  module _ (i a : ℕ) where
    pub grown_length : length (rows_grown i a) ≡ suc (length (partial i a))
    grown_length = simp length-append (omega arith)

    grown_row : row m (rows_grown i a) (length (partial i a)) ≡ new_row (partial i a) i a
    grown_row = get_or-append_seam (partial i a) _ [] (start_row m)

    -- none of them accepts if none of the others does, nor the new one
    pub grown_none : NoneOf m (partial i a) (length (partial i a)) → m.accepts (target (partial i a) i a) ≡ false → NoneOf m (rows_grown i a) (length (rows_grown i a))
    grown_none n e t p =
        by_cases (dec_lt t (length (partial i a)))
        (λ x. rw (get_or-append (partial i a) _ (start_row m) t x) (n t x))
        (λ x. let d : t ≡ length (partial i a) = omega (arith, grown_length) in rw (d, grown_row) e)

module _ {S : Type 0} (m : Machine S) (ok : Lawful m) where
  -- ---- whether the target has a row

  has_row : {l : Rows S} {s : S} → HasRow m l s → has m l s ≡ true
  has_row {l} {s} h = go (has m l s) refl
    where
      go : (b : Bool) → has m l s ≡ b → b ≡ true
      go true e = refl
      go false e = absurd (has_false m ok l s e h.at h.inside h.is)

  has_no_row : (l : Rows S) (s : S) → NoRow m l s → has m l s ≡ false
  has_no_row l s n = go (has m l s) refl
    where
      go : (b : Bool) → has m l s ≡ b → b ≡ false
      go true e = let h = has_true m ok l s e in absurd (n h.at h.inside h.is)
      go false e = refl

  tried_old : (l : Rows S) (i a : ℕ) → HasRow m l (target m l i a) → tried m l i a ≡ l
  unfolding tried added_if
  tried_old l i a h = rw (has_row h)

  tried_new : (l : Rows S) (i a : ℕ) → NoRow m l (target m l i a) → tried m l i a ≡ l ++ (new_row m l i a ∷ [])
  unfolding tried added_if
  tried_new l i a n = rw (has_no_row l (target m l i a) n)

  pub partial_old : (i a : ℕ) → HasRow m (partial m i a) (target m (partial m i a) i a) → partial m i (suc a) ≡ partial m i a
  partial_old i a h = partial_suc m i a ∙ tried_old (partial m i a) i a h

  pub partial_new : (i a : ℕ) → New m i a → partial m i (suc a) ≡ rows_grown m i a
  partial_new i a n = partial_suc m i a ∙ tried_new (partial m i a) i a n

  -- a letter that was tried leads to a state that has a row
  tried_has : (l : Rows S) (i a : ℕ) → HasRow m (tried m l i a) (target m l i a)
  unfolding tried added_if
  tried_has l i a = go (has m l (target m l i a)) refl
    where
      go : (b : Bool) → has m l (target m l i a) ≡ b → HasRow m (added_if m b l (new_row m l i a)) (target m l i a)
      go true e = has_true m ok l (target m l i a) e
      go false e = record {
        at = length l;
        inside = simp length-append (omega arith);
        is = ap (λ (r : Row S). r.state) (get_or-append_seam l (new_row m l i a) [] (start_row m));
      }

  -- so a letter that leads where an earlier one of the row led has nothing to add
  pub repeated_old : (i a b : ℕ) → i < length (numbered m i) → b < a → target m (partial m i a) i a ≡ target m (partial m i a) i b
      → HasRow m (partial m i a) (target m (partial m i a) i a)
  repeated_old i a b h below same =
      let p : Prefix (partial m i (suc b)) (partial m i a) = rw (add-sub_of_le below) at (partial_prefix m i (suc b) (a - suc b)) in
      let r : HasRow m (partial m i (suc b)) (target m (partial m i b) i b) = rw (partial_suc m i b) (tried_has (partial m i b) i b) in
      record {
        at = r.at;
        inside = omega (arith, r.inside, prefix_length p);
        is =
            ap (λ (x : Row S). x.state) (prefix_row m r.at p r.inside)
            ∙ r.is
            ∙ ap (λ (x : Row S). m.step x.state b) (partial_row m i b h ∙ sym (partial_row m i a h))
            ∙ sym same;
      }

  -- ---- a new row comes while row i is expanded

  module _ (i a : ℕ) (there : i < length (numbered m i)) (letter_ok : a < m.letters) (new : New m i a) where
    module _ (r : ℕ) (room : i < r) where
      grown_numbered : Prefix (rows_grown m i a) (numbered m r)
      grown_numbered = rw (partial_new i a new) at (partial_numbered m i (suc a) r there letter_ok room)

      -- ---- found, at the new row

      pub found_row : row m (numbered m r) (length (partial m i a)) ≡ new_row m (partial m i a) i a
      found_row = prefix_row m (length (partial m i a)) grown_numbered (omega (arith, grown_length m i a)) ∙ grown_row m i a

      pub found_end : length (partial m i a) < r → NoneOf m (partial m i a) (length (partial m i a)) → m.accepts (target m (partial m i a) i a) ≡ true
          → verdict m r (numbered m r) ≡ found (length (partial m i a))
      found_end h n e =
          let c = length (partial m i a) in
          let p = partial_numbered m i a r there (omega arith) room in
          verdict_by_lem m (is_found c h (omega (arith, grown_length m i a, prefix_length grown_numbered)) (rw found_row e) (prefix_none m p n))

      pub found_counted : counted (found (length (partial m i a))) r (numbered m r) ≡ rows_grown m i a
      found_counted = rw grown_numbered.is (take_at (rows_grown m i a) _ (suc (length (partial m i a))) (grown_length m i a))

      -- ---- no room, before the new row

      module _ (full : length (partial m i a) ≡ r) where
        pub no_room_more : r < length (numbered m r)
        no_room_more = omega (arith, prefix_length grown_numbered, grown_length m i a)

        pub no_room_taken : take r (numbered m r) ≡ partial m i a
        no_room_taken = rw full at (prefix_take m (partial_numbered m i a r there (omega arith) room))

        pub no_room_end : NoneOf m (partial m i a) (length (partial m i a)) → verdict m r (numbered m r) ≡ no_room
        no_room_end n = verdict_by_lem m (is_no_room_lem no_room_more (rw full at (prefix_none m (partial_numbered m i a r there (omega arith) room) n)))

-- ---- the ends at which no letter stands

module _ {S : Type 0} (m : Machine S) where
  pub start_rows : numbered m 0 ≡ start_row m ∷ []
  unfolding numbered
  start_rows = refl

  start_prefix : (r : ℕ) → Prefix (start_row m ∷ []) (numbered m r)
  start_prefix r = let z : 0 ≤ r = omega arith in rw start_rows at (numbered_prefix_le m z)

  pub start_none : m.accepts m.start ≡ false → NoneOf m (numbered m 0) (length (numbered m 0))
  unfolding numbered start_row
  start_none e zero p = e
  start_none e (suc t) p = absurd (omega arith)

  -- found, at the start
  pub start_found : (r : ℕ) → 0 < r → m.accepts m.start ≡ true → verdict m r (numbered m r) ≡ found 0
  unfolding start_row
  start_found r h e =
      let p = start_prefix r in
      verdict_by_lem m (is_found 0 h (prefix_length p) (rw (prefix_row m 0 p (omega arith)) e) (λ t q. absurd (omega arith)))

  pub start_counted : (r : ℕ) → counted (found 0) r (numbered m r) ≡ start_row m ∷ []
  start_counted r = prefix_take m (start_prefix r)

  -- no room for the start
  pub no_rows : verdict m 0 (numbered m 0) ≡ no_room
  no_rows = verdict_by_lem m (is_no_room_lem (prefix_length (start_prefix 0)) (λ t q. absurd (omega arith)))

  pub no_rows_more : 0 < length (numbered m 0)
  no_rows_more = prefix_length (start_prefix 0)

  -- never, where every row is expanded
  module _ (i r : ℕ) (all : length (numbered m i) ≤ i) (room : i ≤ r) where
    pub all_rows : numbered m r ≡ numbered m i
    all_rows = numbered_stays_le m room all

    pub all_fit : length (numbered m r) ≤ r
    all_fit = rw all_rows (omega arith)

    pub never_end : NoneOf m (numbered m i) (length (numbered m i)) → verdict m r (numbered m r) ≡ never
    never_end n = verdict_by_lem m (is_never all_fit (rw all_rows n))
