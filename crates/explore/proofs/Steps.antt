-- What trying a letter does to the rows that are there, over any lawful machine of key rows: the target has a row, or gets one.
use Prim.Native.Nat.{ℕ, suc, ◌+◌, ◌*◌, ◌≤◌, ◌<◌}
use mathlib.Core.Path.{◌≡◌, sym, ap, ◌∙◌}
use mathlib.Core.Bool.{true, false, true≢false}
use Rattle.std.specs.Prelude.{Option, Some, None, is_some}
use mathlib.Core.List.{List}
use native.Mathlib.Nat.{mul-le-mul_right}
use native.Mathlib.Omega.{arith}
use lib.ListN.{take}
use lib.Seq.{take-take, paste}
use lib.IntN.{ℤ}
use Rattle.scope.specs.Numbering.{Machine, row}
use Rattle.theory.specs.Machine.Lawful.{Lawful}
use Rattle.theory.specs.Machine.Table.{HasRow}
use Rattle.theory.specs.Machine.Exploring.{partial, target, New, rows_grown, partial_old, partial_new, grown_none}
use Rattle.theory.specs.Machine.Simulation.{AllGood}
use Rattle.index.specs.Rows.{row_at, stored_front}
use Rattle.index.specs.Index.{Finds}
use Rattle.plan.specs.declared.Plan.{Plan}
use Rattle.plan.specs.declared.Stand.{Stand}
use Rattle.plan.specs.Machine.{KeyRow}
use Rattle.plan.specs.Moves.{going_at}
use Rattle.explore.specs.Areas.{Held, Stored, RowRoom, held_row_lem, held_more}
use Rattle.explore.specs.Standing.{Lent, There, Stands, FoundLast}
use Rattle.explore.specs.Stages.{has_begun}

one_row : (count width : ℕ) → 0 < count → width ≤ count * width
one_row count width h = let e : 1 * width ≤ count * width = mul-le-mul_right width h in omega arith

module _ (M : Machine (List ℤ)) (ok : Lawful M) {plan : Plan} {keys : List ℤ} {path : List ℕ} {s : Stand} (t : Stands M plan keys path s) (below : s.row < s.count) where
  abbrev now : ℕ → Type 0
  now count = There M plan keys path count (partial M s.row (suc s.letter))

  pub old_row : HasRow M (partial M s.row s.letter) (target M (partial M s.row s.letter) s.row s.letter) → now s.count
  old_row h = rw (partial_old M ok s.row s.letter h) t.rows_there

  -- what the index finds of the target's cells
  module _ (good : AllGood (KeyRow plan.width) (partial M s.row s.letter)) (key : List ℤ)
      (key_is : take plan.width key ≡ target M (partial M s.row s.letter) s.row s.letter) {found : Option ℕ} (f : Finds keys plan.width key s.count found) where
    state_of : (u : ℕ) → u < s.count → row_at keys plan.width u ≡ (row M (partial M s.row s.letter) u).state
    state_of u h = held_row_lem M plan.width t.rows_there.held good u h

    pub is_old : is_some found ≡ true → HasRow M (partial M s.row s.letter) (target M (partial M s.row s.letter) s.row s.letter)
    is_old = go found f
      where
        go : (o : Option ℕ) → Finds keys plan.width key s.count o → is_some o ≡ true
            → HasRow M (partial M s.row s.letter) (target M (partial M s.row s.letter) s.row s.letter)
        go (Some r) g e = record {
          at = r;
          inside = omega (arith, t.rows_there.held.count_is, g.says.0);
          is = sym (state_of r g.says.0) ∙ g.says.1 ∙ key_is;
        }
        go None g e = absurd (true≢false (sym e))

    pub is_new : is_some found ≡ false → New M s.row s.letter
    is_new = go found f
      where
        go : (o : Option ℕ) → Finds keys plan.width key s.count o → is_some o ≡ false → New M s.row s.letter
        go (Some r) g e = absurd (true≢false e)
        go None g e =
            λ u p q.
            let h : u < s.count = omega (arith, t.rows_there.held.count_is) in
            g.says u h (state_of u h ∙ q ∙ sym key_is)

  -- it has the next row
  module _ (new : New M s.row s.letter) {key : List ℤ} (key_is : take plan.width key ≡ target M (partial M s.row s.letter) s.row s.letter)
      (room : RowRoom plan.width plan.noting s.count key keys path) {keys' : List ℤ} {path' : List ℕ}
      (stored : Stored plan.width plan.noting s.count key s.row s.letter keys path keys' path') (free : s.count < plan.rows) where
    held_grown : Held plan.width plan.noting (rows_grown M s.row s.letter) (s.count + 1) keys' path'
    held_grown = rw key_is at (held_more room stored t.rows_there.held)

    pub new_row_lem : Lent plan keys' path'
        → (plan.testing ≡ true → M.accepts (target M (partial M s.row s.letter) s.row s.letter) ≡ false)
        → There M plan keys' path' (s.count + 1) (partial M s.row (suc s.letter))
    new_row_lem lent refused = rw (partial_new M ok s.row s.letter new) (record {
      lent = lent;
      count_ok = omega arith;
      start_is =
          let h : plan.width ≤ s.count * plan.width = one_row s.count plan.width (omega arith) in
          rw stored.keys_are
          (sym (take-take plan.width (s.count * plan.width) (paste keys (s.count * plan.width) key plan.width) h)
          ∙ ap (take plan.width) (stored_front keys key plan.width s.count room.keys_room)
          ∙ take-take plan.width (s.count * plan.width) keys h
          ∙ t.rows_there.start_is);
      start_row = t.rows_there.start_row;
      held = held_grown;
      none = λ d. grown_none M s.row s.letter (t.rows_there.none d) (refused d);
    })

    pub found_row : plan.testing ≡ true → M.accepts (target M (partial M s.row s.letter) s.row s.letter) ≡ true
        → FoundLast M plan keys' path' (going_at (s.count + 1) s.row s.letter)
    found_row d e = record {
      is_tested = d;
      spot = record { begun = has_begun M t below; letter_ok = t.letter_ok; new = new };
      count_ok = omega arith;
      held = held_grown;
      none = t.rows_there.none d;
      accepts = e;
    }
