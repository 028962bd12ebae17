-- The word of a row: it leads to the row's state, it is the first word that does, and the words increase with the rows.
use Prim.Native.Nat.{ℕ, zero, suc, ◌+◌, ◌≤◌, ◌<◌}
use Rattle.std.specs.Prelude.{◌≡◌, length}
use Rattle.std.proofs.Math.Path.{refl, ap}
use Rattle.std.proofs.Common.{sym, ◌∙◌, arith}
use Rattle.std.proofs.Math.Logic.{by_cases}
use mathlib.Core.List.{[], ◌∷◌}
use Rattle.std.proofs.Math.Decide.{dec_lt}
use Rattle.std.proofs.Math.Nat.{le_refl}
use Rattle.scope.specs.Words.{Word, ◌▹◌, ◌≺◌, ◌≼◌, shorter, equal, less, Over, over-[]}
use Rattle.theory.specs.Words.Order.{over-▹, length-▹, ≺-▹, ≺_last, ≼-▹, ≼_last, ≼_trans, []-least, words_by}
use Rattle.scope.specs.Numbering.{Machine, Rows, row, after, start_row, numbered, word_within, word_of}
use Rattle.theory.specs.Machine.Lawful.{Lawful}
use Rattle.theory.specs.Machine.Prefix.{Prefix, prefix_length, prefix_row, numbered_prefix, numbered_prefix_le}
use Rattle.theory.specs.Machine.Table.{Before, earlier, within, Rooted, Table, Covered, HasRow, numbered_table, numbered_rooted}

module _ {S : Type 0} (m : Machine S) where
  after-▹ : (s : S) (w : Word) (a : ℕ) → after m s (w ▹ a) ≡ m.step (after m s w) a
  unfolding after
  after-▹ s [] a = refl
  after-▹ s (b ∷ w) a = after-▹ (m.step s b) w a

  pub word_start : (l : Rows S) → word_of m l 0 ≡ []
  unfolding word_of word_within
  word_start l = refl

  module _ {l : Rows S} (k : Rooted m l) where
    -- ---- the word of a row is one letter more than the word of the row that it is from

    within_enough : (n n' t : ℕ) → t ≤ n → t ≤ n' → t < length l → word_within m l n t ≡ word_within m l n' t
    unfolding word_within
    within_enough zero zero t p q h = refl
    within_enough zero (suc n') zero p q h = refl
    within_enough zero (suc n') (suc t) p q h = absurd (omega arith)
    within_enough (suc n) zero zero p q h = refl
    within_enough (suc n) zero (suc t) p q h = absurd (omega arith)
    within_enough (suc n) (suc n') zero p q h = refl
    within_enough (suc n) (suc n') (suc t) p q h =
        let b = (k.stepped (suc t) (omega arith) h).back in
        ap (λ (w : Word). w ▹ (row m l (suc t)).letter) (within_enough n n' (row m l (suc t)).from (omega arith) (omega arith) (omega arith))

    pub word_row : (t : ℕ) → 0 < t → t < length l → word_of m l t ≡ word_of m l (row m l t).from ▹ (row m l t).letter
    unfolding word_of word_within
    word_row zero z h = absurd (omega arith)
    word_row (suc t) z h =
        let b = (k.stepped (suc t) (omega arith) h).back in
        ap (λ (w : Word). w ▹ (row m l (suc t)).letter) (within_enough t _ (row m l (suc t)).from (omega arith) (le_refl _) (omega arith))

    -- induction from a row to those that are from it
    rows_by : (P : ℕ → Type 0) → P 0 → ((t : ℕ) → 0 < t → t < length l → P (row m l t).from → P t) → (t : ℕ) → t < length l → P t
    rows_by P base next t h = go t t (le_refl t) h
      where
        go : (n t : ℕ) → t ≤ n → t < length l → P t
        go zero zero p h = base
        go zero (suc t) p h = absurd (omega arith)
        go (suc n) zero p h = base
        go (suc n) (suc t) p h = let b = (k.stepped (suc t) (omega arith) h).back in next (suc t) (omega arith) h (go n _ (omega arith) (omega arith))

    -- ---- what the words are

    pub after_word : (t : ℕ) → t < length l → after m m.start (word_of m l t) ≡ (row m l t).state
    unfolding after start_row
    after_word = rows_by _ (rw (word_start l, k.start_row) refl) (λ t z h ih. rw (word_row t z h, after-▹, ih) (sym (k.stepped t z h).target))

    pub word_over : (t : ℕ) → t < length l → Over m.letters (word_of m l t)
    word_over = rows_by _ (rw (word_start l) over-[]) (λ t z h ih. rw (word_row t z h) (over-▹ ih (k.stepped t z h).letter_ok))

    pub word_length : (t : ℕ) → t < length l → length (word_of m l t) ≤ t
    word_length = rows_by _ (rw (word_start l) (omega arith)) (λ t z h ih. rw (word_row t z h, length-▹) (omega (arith, ih, (k.stepped t z h).back)))

    pub words_increase : (t u : ℕ) → t < u → u < length l → word_of m l t ≺ word_of m l u
    words_increase t u p h = rows_by (λ u. (t : ℕ) → t < u → word_of m l t ≺ word_of m l u) (λ t p. absurd (omega arith)) next u h t p
      where
        next : (u : ℕ) → 0 < u → u < length l → ((t : ℕ) → t < (row m l u).from → word_of m l t ≺ word_of m l (row m l u).from) → (t : ℕ) → t < u → word_of m l t ≺ word_of m l u
        next u z h ih zero p = rw (word_start l, word_row u z h) (shorter (rw length-▹ (omega arith)))
        next u z h ih (suc t) p = rw (word_row u z h, word_row (suc t) (omega arith) (omega arith)) (by (k.sorted (suc t) u (omega arith) p h))
          where
            by : {j b : ℕ} → Before j b (row m l u).from (row m l u).letter → word_of m l j ▹ b ≺ word_of m l (row m l u).from ▹ (row m l u).letter
            by {j} {b} (earlier q) = ≺-▹ b (row m l u).letter (ih j q)
            by (within e q) = rw e (≺_last (word_of m l (row m l u).from) q)

    pub words_not_decrease : (t u : ℕ) → t ≤ u → u < length l → word_of m l t ≼ word_of m l u
    words_not_decrease t u p h = by_cases (dec_lt t u) (λ x. less (words_increase t u x h)) (λ x. let e : t ≡ u = omega arith in equal (rw e))

    -- the word of a target's row is at most the word by which it was looked at
    covered_word : {j b : ℕ} → j < length l → (c : Covered m l j b) → word_of m l c.at ≼ word_of m l j ▹ b
    covered_word {j} {b} h c = go c.at c.inside c.no_later
      where
        by : {j' b' : ℕ} → Before j' b' j (suc b) → word_of m l j' ▹ b' ≼ word_of m l j ▹ b
        by {j'} {b'} (earlier x) = less (≺-▹ b' b (words_increase j' j x h))
        by (within e x) = rw e (≼_last (word_of m l j) (omega arith))

        go : (t : ℕ) → t < length l → (0 < t → Before (row m l t).from (row m l t).letter j (suc b)) → word_of m l t ≼ word_of m l j ▹ b
        go zero p f = rw (word_start l) ([]-least _)
        go (suc t) p f = rw (word_row (suc t) (omega arith) p) (by (f (omega arith)))

    pub row_unique : (t u : ℕ) → t < length l → u < length l → (row m l t).state ≡ (row m l u).state → t ≡ u
    row_unique t u p q e =
        by_cases (dec_lt t u) (λ x. absurd (k.apart t u x q e)) (λ x. by_cases (dec_lt u t) (λ y. absurd (k.apart u t y p (sym e))) (λ y. omega arith))

  -- where every row is expanded, every word leads to a row
  pub closed : {l : Rows S} {i a : ℕ} → Table m l i a → length l ≤ i → {w : Word} → Over m.letters w → HasRow m l (after m m.start w)
  unfolding after start_row
  closed {l} k full = words_by (λ w. HasRow m l (after m m.start w)) (record { at = 0; inside = k.rooted.not_empty; is = rw k.rooted.start_row refl }) next
    where
      next : (w : Word) (b : ℕ) → b < m.letters → HasRow m l (after m m.start w) → HasRow m l (after m m.start (w ▹ b))
      next w b p h =
          let c = k.covered h.at b h.inside p (earlier (omega arith)) in
          record { at = c.at; inside = c.inside; is = rw (after-▹, ← h.is) c.target }

  -- ---- the word of a row is the first word that leads to its state

  -- the words of rows stay as they are
  pub prefix_word : {l l' : Rows S} → Prefix l l' → Rooted m l → Rooted m l' → (t : ℕ) → t < length l → word_of m l' t ≡ word_of m l t
  prefix_word {l} {l'} p k k' = rows_by k _ (word_start l' ∙ sym (word_start l)) next
    where
      next : (t : ℕ) → 0 < t → t < length l → word_of m l' (row m l t).from ≡ word_of m l (row m l t).from → word_of m l' t ≡ word_of m l t
      next t z h ih = rw (word_row k' t z (omega (arith, prefix_length p)), word_row k t z h, prefix_row m t p h, ih)

module _ {S : Type 0} (m : Machine S) (ok : Lawful m) where
  -- w leads to a row of some numbering by f expansions or more, and that row's word is at most w
  pub record Reached (f : ℕ) (w : Word) : Type 0 where
    pub stage : ℕ
    pub later : f ≤ stage
    pub at : ℕ
    pub inside : at < length (numbered m stage)
    pub is : (row m (numbered m stage) at).state ≡ after m m.start w
    pub first : word_of m (numbered m stage) at ≼ w

  pub reached : (f : ℕ) {w : Word} → Over m.letters w → Reached f w
  unfolding after start_row
  reached f = words_by (Reached f) base next
    where
      base : Reached f []
      base =
          let k = numbered_rooted m ok f in
          record { stage = f; later = le_refl f; at = 0; inside = k.not_empty; is = rw k.start_row refl; first = equal (word_start m (numbered m f)) }

      next : (w : Word) (b : ℕ) → b < m.letters → Reached f w → Reached f (w ▹ b)
      next w b h r =
          let g : ℕ = r.stage + suc r.at in
          let k = numbered_table m ok g in
          let p = numbered_prefix m r.stage (suc r.at) in
          let q : r.at < length (numbered m g) = omega (arith, prefix_length p) in
          let c = k.covered r.at b q h (earlier (omega arith)) in
          let n : word_of m (numbered m g) r.at ≼ w = rw (prefix_word m p (numbered_rooted m ok r.stage) k.rooted r.at r.inside) r.first in
          record {
            stage = g;
            later = omega arith;
            at = c.at;
            inside = c.inside;
            is = rw (after-▹ m, ← r.is, ← (prefix_row m r.at p r.inside)) c.target;
            first = ≼_trans (covered_word m k.rooted q c) (≼-▹ b n);
          }

  pub first_word : (f t : ℕ) → t < length (numbered m f) → {w : Word} → Over m.letters w → after m m.start w ≡ (row m (numbered m f) t).state
      → word_of m (numbered m f) t ≼ w
  first_word f t h o e =
      let r = reached f o in
      let k = numbered_rooted m ok r.stage in
      let p = numbered_prefix_le m r.later in
      let d : t ≡ r.at = row_unique m k t r.at (omega (arith, prefix_length p)) r.inside (rw (prefix_row m t p h) (sym (r.is ∙ e))) in
      rw (← (prefix_word m p (numbered_rooted m ok f) k t h), d) r.first
