-- The number of a state: `number_of` names the state's row where there is one, and the targets of expanded rows have rows.
use Prim.Native.Nat.{ℕ, zero, suc, ◌≤◌, ◌<◌}
use Rattle.std.specs.Prelude.{◌≡◌, Bool, length}
use Rattle.std.proofs.Math.Path.{refl}
use Rattle.std.proofs.Math.Bool.{true, false}
use mathlib.Core.List.{[], ◌∷◌}
use Rattle.std.proofs.Common.{arith}
use Rattle.scope.specs.Words.{Word, Over}
use Rattle.scope.specs.Numbering.{Machine, Rows, row, after, number_if, numbered, number_of}
use Rattle.theory.specs.Machine.Lawful.{Lawful}
use Rattle.theory.specs.Machine.Table.{earlier, Rooted, HasRow, numbered_table}
use Rattle.theory.specs.Machine.Firsts.{row_unique, closed}

-- the row of a state's number is the state's
pub record HasNumber {S : Type 0} (m : Machine S) (l : Rows S) (s : S) : Type 0 where
  pub inside : number_of m l s < length l
  pub is : (row m l (number_of m l s)).state ≡ s

module _ {S : Type 0} (m : Machine S) (ok : Lawful m) where
  number_at_lem : (l : Rows S) (s : S) (t : ℕ) → t < length l → (row m l t).state ≡ s → HasNumber m l s
  unfolding number_of number_if
  number_at_lem [] s t h e = absurd (omega arith)
  number_at_lem (r ∷ l) s zero h e = let b = ok.same_refl s in record { inside = rw (e, b) (omega arith); is = rw (e, b) }
  number_at_lem (r ∷ l) s (suc t) h e = go (m.same r.state s) refl (number_at_lem l s t (omega arith) e)
    where
      go : (b : Bool) → m.same r.state s ≡ b → HasNumber m l s → HasNumber m (r ∷ l) s
      go true p k = record { inside = rw p (omega arith); is = rw p (ok.same_sound r.state s p) }
      go false p k = record { inside = rw p (omega arith); is = rw p k.is }

  -- a state that has a row has the row of its number
  row_number : {l : Rows S} {s : S} → HasRow m l s → HasNumber m l s
  row_number {l} {s} h = number_at_lem l s h.at h.inside h.is

  -- and where the rows are distinct, its row is its number
  pub number_is : {l : Rows S} → Rooted m l → (t : ℕ) → t < length l → number_of m l (row m l t).state ≡ t
  number_is {l} k t h =
      let n = number_at_lem l (row m l t).state t h refl in
      row_unique m k (number_of m l (row m l t).state) t n.inside h n.is

  -- ---- the targets of the rows that are expanded have numbers; where every row is, so has every state that a word leads to

  pub number_step : (f j b : ℕ) → j < f → j < length (numbered m f) → b < m.letters → HasNumber m (numbered m f) (m.step (row m (numbered m f) j).state b)
  number_step f j b h p q =
      let c = (numbered_table m ok f).covered j b p q (earlier h) in
      row_number (record { at = c.at; inside = c.inside; is = c.target })

  pub number_word : (f : ℕ) → length (numbered m f) ≤ f → {w : Word} → Over m.letters w → HasNumber m (numbered m f) (after m m.start w)
  number_word f g o = row_number (closed m (numbered_table m ok f) g o)
