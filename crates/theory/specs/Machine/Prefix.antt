-- What is numbered stays numbered: the rows after fewer expansions are the first of the rows after more, and where every row is
-- expanded they are all.
use Prim.Native.Nat.{ℕ, zero, suc, ◌+◌, ◌-◌, ◌≤◌, ◌<◌}
use Rattle.std.specs.Prelude.{◌≡◌, Bool, [], ◌∷◌, ◌++◌, length, leb}
use Rattle.std.proofs.Math.Path.{refl}
use Rattle.std.proofs.Common.{sym, ◌∙◌, append_assoc, append-nil, add-sub_of_le, arith, length-append, le→leb}
use Rattle.std.proofs.Math.Bool.{true, false}
use Rattle.std.proofs.Math.Nat.{add-suc, add-zero}
use Rattle.std.proofs.Math.ListN.{get_or-append}
use Rattle.std.specs.Float.Ieee.Bits.{is_true}
use Rattle.scope.specs.Numbering.{Machine, Row, Rows, start_row, row, added_if, tried, tried_all, expanded_if, numbered}

pub record Prefix {S : Type 0} (l l' : Rows S) : Type 0 where
  pub rest : Rows S
  pub is : l' ≡ l ++ rest

module _ {S : Type 0} where
  pub prefix_refl : (l : Rows S) → Prefix l l
  prefix_refl l = record { rest = []; is = sym (append-nil l) }

  pub prefix_trans : {l l' l'' : Rows S} → Prefix l l' → Prefix l' l'' → Prefix l l''
  prefix_trans {l} p q = record { rest = p.rest ++ q.rest; is = q.is ∙ rw (p.is, append_assoc) }

  pub prefix_length : {l l' : Rows S} → Prefix l l' → length l ≤ length l'
  prefix_length {l} p = rw (p.is, length-append) (omega arith)

module _ {S : Type 0} (m : Machine S) where
  pub prefix_row : {l l' : Rows S} (t : ℕ) → Prefix l l' → t < length l → row m l' t ≡ row m l t
  prefix_row {l} t p h = rw p.is (get_or-append l p.rest (start_row m) t h)

  added_if_prefix : (b : Bool) (l : Rows S) (r : Row S) → Prefix l (added_if m b l r)
  unfolding added_if
  added_if_prefix true l r = prefix_refl l
  added_if_prefix false l r = record { rest = r ∷ []; is = refl }

  pub tried_prefix : (l : Rows S) (i a : ℕ) → Prefix l (tried m l i a)
  unfolding tried
  tried_prefix l i a = added_if_prefix _ l _

  pub tried_all_prefix : (l : Rows S) (i a n : ℕ) → Prefix l (tried_all m l i a n)
  unfolding tried_all
  tried_all_prefix l i a zero = prefix_refl l
  tried_all_prefix l i a (suc n) = prefix_trans (tried_prefix l i a) (tried_all_prefix (tried m l i a) i (suc a) n)

  expanded_if_prefix : (b : Bool) (l : Rows S) (i : ℕ) → Prefix l (expanded_if m b l i)
  unfolding expanded_if
  expanded_if_prefix true l i = prefix_refl l
  expanded_if_prefix false l i = tried_all_prefix l i 0 m.letters

  pub numbered_prefix : (f g : ℕ) → Prefix (numbered m f) (numbered m (f + g))
  unfolding numbered
  numbered_prefix f zero = rw add-zero (prefix_refl _)
  numbered_prefix f (suc g) = rw add-suc (prefix_trans (numbered_prefix f g) (expanded_if_prefix _ _ _))

  pub numbered_prefix_le : {f g : ℕ} → f ≤ g → Prefix (numbered m f) (numbered m g)
  numbered_prefix_le {f} {g} h = rw (add-sub_of_le h) at (numbered_prefix f (g - f))

  -- ---- where every row is expanded, no row comes any more

  full : (l : Rows S) (i : ℕ) → length l ≤ i → expanded_if m (leb (length l) i) l i ≡ l
  unfolding expanded_if
  full l i h = rw (is_true (leb (length l) i) (le→leb (length l) i h))

  numbered_stays : (r g : ℕ) → length (numbered m r) ≤ r → numbered m (r + g) ≡ numbered m r
  unfolding numbered
  numbered_stays r zero h = rw add-zero
  numbered_stays r (suc g) h = let e = numbered_stays r g h in rw (add-suc, e) (full (numbered m r) (r + g) (omega arith))

  pub numbered_stays_le : {r r' : ℕ} → r ≤ r' → length (numbered m r) ≤ r → numbered m r' ≡ numbered m r
  numbered_stays_le {r} {r'} g h = rw (add-sub_of_le g) at (numbered_stays r (r' - r) h)
