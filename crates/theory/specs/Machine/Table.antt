-- What holds of the rows at each moment of the numbering. `Rooted` says how the rows hang together; `Table l i a`, that besides
-- just what comes before letter a of row i has been tried. `numbered_table` is that the numbering keeps it.
use Prim.Native.Nat.{ℕ, zero, suc, ◌+◌, ◌≤◌, ◌<◌}
use Rattle.std.specs.Prelude.{◌≡◌, ◌≢◌, ◌⊎◌, Bool, ◌||◌, length, leb}
use Rattle.std.proofs.Math.Path.{refl}
use Rattle.std.proofs.Common.{sym, ◌∙◌, inl, inr, ⊎_elim, zero-add}
use Rattle.std.proofs.Math.Logic.{by_cases}
use Rattle.std.proofs.Math.Bool.{true, false, true≢false}
use mathlib.Core.List.{[], ◌∷◌}
use Rattle.std.proofs.Math.Decide.{dec_lt}
use native.Mathlib.Omega.{arith}
use Rattle.std.proofs.Math.ListN.{length-append, get_or-append}
use Rattle.std.proofs.Math.Seq.{get_or-append_seam}
use Rattle.std.proofs.Math.Dec.{leb→le, nleb→lt}
use Rattle.scope.specs.Numbering.{Machine, Row, Rows, start_row, row, has, added_if, tried, tried_all, expanded_if, numbered}
use Rattle.theory.specs.Machine.Lawful.{Lawful}
use Rattle.theory.specs.Machine.Prefix.{prefix_length, tried_prefix}

or-false : (a b : Bool) → a || b ≡ false → (a ≡ false) × (b ≡ false)
or-false true b e = absurd (true≢false e)
or-false false b e = (refl, e)

-- letter b of row j comes before letter a of row i
pub data Before (j b i a : ℕ) : Type 0 where
  earlier : j < i → Before j b i a
  within : j ≡ i → b < a → Before j b i a

before_next : {j b i a : ℕ} → Before j b i a → Before j b i (suc a)
before_next (earlier p) = earlier p
before_next (within e p) = within e (omega arith)

before_last : {j b i a : ℕ} → Before j b i (suc a) → Before j b i a ⊎ ((j ≡ i) × (b ≡ a))
before_last (earlier p) = inl (earlier p)
before_last {b} {a} (within e p) = by_cases (dec_lt b a) (λ q. inl (within e q)) (λ q. inr (e, omega arith))

before_row : {j b i a : ℕ} → Before j b i a → Before j b (suc i) 0
before_row (earlier p) = earlier (omega arith)
before_row (within e p) = earlier (omega arith)

module _ {S : Type 0} (m : Machine S) where
  -- r, as row t of l, is a step from a row before it
  pub record Stepped (l : Rows S) (t : ℕ) (r : Row S) : Type 0 where
    pub back : r.from < t
    pub letter_ok : r.letter < m.letters
    pub target : r.state ≡ m.step (row m l r.from).state r.letter

  -- row 0 is the start's, every other row is a step, these steps go up, and the states differ
  pub record Rooted (l : Rows S) : Type 0 where
    pub not_empty : 0 < length l
    pub start_row : row m l 0 ≡ start_row m
    pub stepped : (t : ℕ) → 0 < t → t < length l → Stepped l t (row m l t)
    pub sorted : (t u : ℕ) → 0 < t → t < u → u < length l → Before (row m l t).from (row m l t).letter (row m l u).from (row m l u).letter
    pub apart : (t u : ℕ) → t < u → u < length l → (row m l t).state ≢ (row m l u).state

  -- the target of letter b of row j has a row, which was there once that letter was tried
  pub record Covered (l : Rows S) (j b : ℕ) : Type 0 where
    pub at : ℕ
    pub inside : at < length l
    pub target : (row m l at).state ≡ m.step (row m l j).state b
    pub no_later : 0 < at → Before (row m l at).from (row m l at).letter j (suc b)

  -- what comes before letter a of row i has been tried, and nothing else
  pub record Table (l : Rows S) (i a : ℕ) : Type 0 where
    pub rooted : Rooted l
    pub past : (t : ℕ) → 0 < t → t < length l → Before (row m l t).from (row m l t).letter i a
    pub covered : (j b : ℕ) → j < length l → b < m.letters → Before j b i a → Covered l j b

  -- ---- the test for a row

  pub record HasRow (l : Rows S) (s : S) : Type 0 where
    pub at : ℕ
    pub inside : at < length l
    pub is : (row m l at).state ≡ s

module _ {S : Type 0} (m : Machine S) (ok : Lawful m) where
  pub has_true : (l : Rows S) (s : S) → has m l s ≡ true → HasRow m l s
  unfolding has
  has_true [] s e = absurd (true≢false (sym e))
  has_true (r ∷ l) s e = go (m.same r.state s) refl e (has_true l s)
    where
      go : (b : Bool) → m.same r.state s ≡ b → b || has m l s ≡ true → (has m l s ≡ true → HasRow m l s) → HasRow m (r ∷ l) s
      go true p q ih = record { at = 0; inside = omega arith; is = ok.same_sound r.state s p }
      go false p q ih = let h = ih q in record { at = suc h.at; inside = omega arith; is = h.is }

  pub has_false : (l : Rows S) (s : S) → has m l s ≡ false → (t : ℕ) → t < length l → (row m l t).state ≢ s
  unfolding has
  has_false [] s e t h d = omega arith
  has_false (r ∷ l) s e zero h d = let x = (or-false (m.same r.state s) (has m l s) e).0 in true≢false (sym (ok.same_refl s) ∙ (rw d at x))
  has_false (r ∷ l) s e (suc t) h d = has_false l s (or-false (m.same r.state s) (has m l s) e).1 t (omega arith) d

  -- ---- one letter is tried

  module _ (l : Rows S) (i a : ℕ) (inside : i < length l) (letter_ok : a < m.letters) (k : Table m l i a) where
    -- its target has a row already
    tried_old : HasRow m l (m.step (row m l i).state a) → Table m l i (suc a)
    tried_old h = record {
      rooted = k.rooted;
      past = λ t z p. before_next (k.past t z p);
      covered = λ j b p q x. ⊎_elim (k.covered j b p q) (λ e. rw (e.0, e.1) here) (before_last x);
    }
      where
        here : Covered m l i a
        here = record { at = h.at; inside = h.inside; target = h.is; no_later = λ z. before_next (k.past h.at z h.inside) }

    -- its target is new, and has the last row of l'
    module _
        (l' : Rows S)
        (length_is : length l' ≡ suc (length l))
        (old : (t : ℕ) → t < length l → row m l' t ≡ row m l t)
        (last : row m l' (length l) ≡ record { state = m.step (row m l i).state a; from = i; letter = a })
        (new : (t : ℕ) → t < length l → (row m l t).state ≢ m.step (row m l i).state a)
      where
        place : (t : ℕ) → t < length l' → (t < length l) ⊎ (t ≡ length l)
        place t h = by_cases (dec_lt t (length l)) inl (λ p. inr (omega arith))

        stepped_old : (t : ℕ) → 0 < t → t < length l → Stepped m l' t (row m l' t)
        stepped_old t z p =
            let s = k.rooted.stepped t z p in
            rw (old t p) record { back = s.back; letter_ok = s.letter_ok; target = rw (old (row m l t).from (omega arith)) s.target }

        stepped_last : Stepped m l' (length l) (row m l' (length l))
        stepped_last = rw last record { back = inside; letter_ok = letter_ok; target = rw (old i inside) refl }

        sorted_last : (t : ℕ) → 0 < t → t < length l → Before (row m l' t).from (row m l' t).letter (row m l' (length l)).from (row m l' (length l)).letter
        sorted_last t z p = rw (last, old t p) (k.past t z p)

        apart_last : (t : ℕ) → t < length l → (row m l' t).state ≢ (row m l' (length l)).state
        apart_last t p = rw (last, old t p) (new t p)

        past_last : Before (row m l' (length l)).from (row m l' (length l)).letter i (suc a)
        past_last = rw last (within refl (omega arith))

        covered_old : (j b : ℕ) → b < m.letters → Before j b i a → j < length l → Covered m l' j b
        covered_old j b q x p =
            let c = k.covered j b p q x in
            record {
              at = c.at;
              inside = omega arith;
              target = rw (old c.at c.inside, old j p) c.target;
              no_later = rw (old c.at c.inside) c.no_later;
            }

        covered_last : Covered m l' i a
        covered_last = record { at = length l; inside = omega arith; target = rw (last, old i inside) refl; no_later = λ z. past_last }

        before_old : {j b : ℕ} → Before j b i a → j < length l
        before_old (earlier x) = omega arith
        before_old (within e x) = omega arith

        tried_new : Table m l' i (suc a)
        tried_new = record {
          rooted = record {
            not_empty = omega arith;
            start_row = old 0 k.rooted.not_empty ∙ k.rooted.start_row;
            stepped = λ t z h. ⊎_elim (stepped_old t z) (λ e. rw e stepped_last) (place t h);
            sorted = λ t u z h g. ⊎_elim (λ p. rw (old t (omega arith), old u p) (k.rooted.sorted t u z h p)) (λ e. rw e (sorted_last t z (omega arith))) (place u g);
            apart = λ t u h g. ⊎_elim (λ p. rw (old t (omega arith), old u p) (k.rooted.apart t u h p)) (λ e. rw e (apart_last t (omega arith))) (place u g);
          };
          past = λ t z h. ⊎_elim (λ p. rw (old t p) (before_next (k.past t z p))) (λ e. rw e past_last) (place t h);
          covered = λ j b p q x. ⊎_elim (λ y. covered_old j b q y (before_old y)) (λ e. rw (e.0, e.1) covered_last) (before_last x);
        }

    tried_table : Table m (tried m l i a) i (suc a)
    unfolding tried added_if
    tried_table = go (has m l (m.step (row m l i).state a)) refl
      where
        go : (b : Bool) → has m l (m.step (row m l i).state a) ≡ b
            → Table m (added_if m b l (record { state = m.step (row m l i).state a; from = i; letter = a })) i (suc a)
        go true e = tried_old (has_true l _ e)
        go false e =
            tried_new _ (simp length-append (omega arith)) (λ t h. get_or-append l _ (start_row m) t h) (get_or-append_seam l _ [] (start_row m)) (has_false l _ e)

  -- ---- one row is expanded

  tried_all_table : (l : Rows S) (i a n : ℕ) → i < length l → a + n ≡ m.letters → Table m l i a → Table m (tried_all m l i a n) i m.letters
  unfolding tried_all
  tried_all_table l i a zero h e k = let d : a ≡ m.letters = omega arith in rw d at k
  tried_all_table l i a (suc n) h e k =
      tried_all_table (tried m l i a) i (suc a) n (omega (arith, prefix_length (tried_prefix m l i a))) (omega arith) (tried_table l i a h (omega arith) k)

  next_row : (l : Rows S) (i a : ℕ) → Table m l i a → ((j b : ℕ) → j < length l → b < m.letters → j ≤ i → Before j b i a) → Table m l (suc i) 0
  next_row l i a k was = record { rooted = k.rooted; past = λ t z p. before_row (k.past t z p); covered = covered' }
    where
      covered' : (j b : ℕ) → j < length l → b < m.letters → Before j b (suc i) 0 → Covered m l j b
      covered' j b p q (earlier x) = k.covered j b p q (was j b p q (omega arith))
      covered' j b p q (within e x) = absurd (omega arith)

  expanded_if_table : (b : Bool) (l : Rows S) (i : ℕ) → leb (length l) i ≡ b → Table m l i 0 → Table m (expanded_if m b l i) (suc i) 0
  unfolding expanded_if
  expanded_if_table true l i e k = next_row l i 0 k (λ j b p q r. earlier (omega (arith, leb→le (length l) i (rw e tt))))
  expanded_if_table false l i e k =
      next_row _ i m.letters (tried_all_table l i 0 m.letters (nleb→lt (length l) i (rw e tt)) (zero-add _) k)
      (λ j b p q r. by_cases (dec_lt j i) earlier (λ x. within (omega arith) q))

  pub numbered_table : (f : ℕ) → Table m (numbered m f) f 0
  unfolding numbered
  numbered_table zero = record {
    rooted = record {
      not_empty = omega arith;
      start_row = refl;
      stepped = λ t z p. absurd (omega arith);
      sorted = λ t u z h p. absurd (omega arith);
      apart = λ t u h p. absurd (omega arith);
    };
    past = λ t z p. absurd (omega arith);
    covered = λ j b p q h. absurd (nothing h);
  }
    where
      nothing : {j b : ℕ} → Before j b 0 0 → ⊥
      nothing (earlier p) = omega arith
      nothing (within e p) = omega arith
  numbered_table (suc f) = expanded_if_table (leb (length (numbered m f)) f) (numbered m f) f refl (numbered_table f)

  pub numbered_rooted : (f : ℕ) → Rooted m (numbered m f)
  numbered_rooted f = (numbered_table f).rooted
