-- One letter tried at one row, with what the code's calls give: the target's cells, whether a row has them, and the row that is added.
use Prim.Native.Nat.{ℕ, suc, ◌+◌, ◌*◌, ◌≤◌, ◌<◌}
use mathlib.Core.Path.{◌≡◌, refl, sym, ap, ◌∙◌}
use mathlib.Core.Bool.{Bool, true, false, ◌&&◌, true≢false}
use mathlib.Core.List.{List}
use Rattle.std.specs.Prelude.{Option, is_some, Result, Ok, Err}
use native.Mathlib.Numerals.{add-one}
use native.Mathlib.Omega.{arith}
use lib.ListN.{length, take}
use lib.IntN.{ℤ}
use Rattle.scope.specs.Numbering.{Machine, row}
use Rattle.theory.specs.Machine.Lawful.{Lawful}
use Rattle.theory.specs.Machine.Exploring.{partial, target, New, partial_zero, partial_all}
use Rattle.theory.specs.Machine.Simulation.{AllGood, good_at}
use Rattle.step.specs.Cells.{step_cells}
use Rattle.step.specs.Laws.{step_length}
use Rattle.index.specs.Rows.{row_at, row_end, stored_front}
use Rattle.index.specs.Index.{Finds}
use Rattle.plan.specs.declared.Plan.{Plan}
use Rattle.plan.specs.declared.Stand.{Stand}
use Rattle.plan.specs.declared.Stop.{Stop}
use Rattle.plan.specs.declared.Stop.TheVariants.{Full}
use Rattle.plan.specs.Machine.{KeyRow, Task, Runs}
use Rattle.plan.specs.Loaded.{Loaded, Steps, key_accepts, steps, target_is}
use Rattle.plan.specs.Moves.{After, next_letter, next_row, Moved, going_at}
use Rattle.plan.proofs.Skipping.{all_passed}
use Rattle.explore.specs.Areas.{path_count_le, Kept, RowRoom, kept_refl, kept_more, held_row_lem}
use Rattle.explore.specs.Standing.{Lent, Linked, There, Stands, RowOf, Tried, FrontStays, RowFits, RowAdded}
use Rattle.explore.specs.Stages.{has_begun}
use Rattle.explore.proofs.Steps.{old_row, is_old, is_new, new_row_lem, found_row}

both : (a b : Bool) → a && b ≡ true → (a ≡ true) × (b ≡ true)
both true b e = (refl, e)
both false b e = absurd (true≢false (sym e))

neither : (a b : Bool) → a ≡ true → a && b ≡ false → b ≡ false
neither true b d e = e
neither false b d e = absurd (true≢false (sym d))

pub ok_same : {s t : Stand} → ◌≡◌ {A = Result Stand Stop} (Ok s) (Ok t) → s ≡ t
ok_same e = cc

pub not_ok : {e : Stop} {s : Stand} → ◌≡◌ {A = Result Stand Stop} (Err e) (Ok s) → ⊥
not_ok q = cc

further : {plan : Plan} {i a i' a' : ℕ} → a < 64 → After plan i a i' a' → i * 64 + a < i' * 64 + a'
further h (next_letter p skips) = omega (arith, skips.later)
further h (next_row skips) = omega arith

module _ {plan : Plan} {sums start : List ℤ} {M : Machine (List ℤ)} (runs : Runs plan sums start M) {keys : List ℤ} {path : List ℕ} {s : Stand}
    (task : Task plan sums) (t : Stands M plan keys path s) (below : s.row < s.count) where
  pub letter_below : s.letter < plan.letters
  letter_below = rw runs.letters_are at t.letter_ok

  ok : Lawful M
  ok = runs.lawful

  good : AllGood (KeyRow plan.width) (partial M s.row s.letter)
  good = let h : s.letter ≤ plan.letters = omega (arith, letter_below) in runs.rows_good task t.rows_there.start_row s.row s.letter h

  row_is : row_at keys plan.width s.row ≡ (row M (partial M s.row s.letter) s.row).state
  row_is = held_row_lem M plan.width t.rows_there.held good s.row below

  pub row_within : s.row * plan.width + plan.width ≤ length keys
  row_within =
      let h : s.row < plan.rows = omega (arith, t.rows_there.count_ok) in
      omega (arith, row_end s.row plan.rows plan.width h, t.rows_there.lent.keys_room)

  -- ---- the row's target

  module _ {row₀ : List ℤ} (r : RowOf plan keys s row₀) where
    state : List ℤ
    state = (row M (partial M s.row s.letter) s.row).state

    good_state : KeyRow plan.width state
    unfolding state
    good_state = good_at M good s.row (omega (arith, t.rows_there.held.count_is))

    loaded : Loaded plan state row₀
    unfolding state
    loaded = record { cells = r.cells ∙ row_is; key = r.key }

    pub stepping : Steps plan sums s.letter row₀
    stepping = steps runs task good_state loaded s.letter letter_below

    abbrev key : List ℤ
    key = step_cells plan.kinds 8 sums s.letter row₀

    key_target : take plan.width key ≡ target M (partial M s.row s.letter) s.row s.letter
    unfolding state
    key_target = target_is runs task good_state loaded s.letter

    room_for_lem : s.count < plan.rows → RowRoom plan.width plan.noting s.count key keys path
    room_for_lem h = record {
      long = rw (step_length plan.kinds sums s.letter row₀ 8) task.narrow;
      keys_room = omega (arith, row_end s.count plan.rows plan.width h, t.rows_there.lent.keys_room);
      path_room =
          let e : s.count + 1 ≤ plan.rows = omega arith in
          omega (arith, path_count_le plan.noting (s.count + 1) plan.rows e, t.rows_there.lent.path_room);
    }

    pub row_fits_in : s.count < plan.rows → {links : List ℕ} → Linked plan keys links s.count → RowFits plan s key keys path links
    row_fits_in h linked = record {
      room = room_for_lem h;
      is_key = stepping.keyed;
      number = omega (arith, t.rows_there.lent.few_rows);
      link = omega (arith, linked.room);
      from = omega (arith, t.rows_there.lent.few_rows);
      letter = omega (arith, letter_below, task.few_letters);
    }

    -- ---- where it goes on

    goes_on_lem : {keys' : List ℤ} {path' : List ℕ} (count' : ℕ) → s.count ≤ count' → {i a : ℕ} → After plan s.row s.letter i a
        → There M plan keys' path' count' (partial M s.row (suc s.letter))
        → Stands M plan keys' path' (going_at count' i a)
    goes_on_lem count' more {a = a} (next_letter p skips) there = record {
      rows_there =
          rw (all_passed runs task s.row (has_begun M t below) s.letter a skips.later (omega arith) skips.between) there;
      letter_ok = rw runs.letters_are p;
      begun = λ _. has_begun M t below;
      row_ok = omega arith;
    }
    goes_on_lem count' more (next_row skips) there = record {
      rows_there =
          let e : partial M s.row (suc s.letter) ≡ partial M (s.row + 1) 0 =
          sym (all_passed runs task s.row (has_begun M t below) s.letter plan.letters skips.later (omega arith) skips.between)
          ∙ ap (partial M s.row) (sym runs.letters_are)
          ∙ partial_all M s.row (has_begun M t below)
          ∙ sym (partial_zero M (suc s.row))
          ∙ rw add-one in
          rw (← e) there;
      letter_ok = rw runs.letters_are task.some_letters;
      begun = λ ne. absurd (ne refl);
      row_ok = omega arith;
    }

    moved : {keys' : List ℤ} {path' links' : List ℕ} {count' : ℕ} {to : Stand} → Moved plan s count' to → s.count ≤ count'
        → There M plan keys' path' count' (partial M s.row (suc s.letter))
        → Kept plan.width plan.noting count' keys path keys' path' → Linked plan keys' links' count'
        → Tried M plan s keys path keys' path' links' (Ok to)
    moved {count' = count'} {to} mv more there kept linked = record {
      went = record {
        more = rw mv.count_is more;
        kept = rw mv.count_is kept;
        there = rw (← mv.count_is) at (goes_on_lem count' more mv.place there);
      };
      linked = λ r e. rw (← ok_same e, mv.count_is) linked;
      on = λ r e. rw (← ok_same e) (further (omega (arith, letter_below, task.few_letters)) mv.place);
    }

    module _ {found : Option ℕ} (finds : Finds keys plan.width key s.count found) where
      pub tried_old : is_some found ≡ true → {links : List ℕ} → Linked plan keys links s.count → {to : Stand} → Moved plan s s.count to
          → Tried M plan s keys path keys path links (Ok to)
      tried_old h linked mv =
          moved mv (omega arith)
          (old_row M ok t below (is_old M ok t below good key key_target finds h))
          (kept_refl plan.width plan.noting s.count keys path) linked

      new : is_some found ≡ false → New M s.row s.letter
      new h = is_new M ok t below good key key_target finds h

      pub tried_full : is_some found ≡ false → s.count ≡ plan.rows → {links : List ℕ}
          → Tried M plan s keys path keys path links (Err (Full s))
      tried_full h full = record {
        went = record {
          more = omega arith;
          kept = kept_refl plan.width plan.noting s.count keys path;
          there = record { stands = t; new = new h; below = below; full = full };
        };
        linked = λ r e. absurd (not_ok e);
        on = λ r e. absurd (not_ok e);
      }

      -- ---- it has the next row

      module _ (h : is_some found ≡ false) (free : s.count < plan.rows) {keys' : List ℤ} {path' links' : List ℕ} {b : Bool}
          (added : RowAdded plan s key keys path keys' path' links' b) where
        answer : b ≡ plan.testing && M.accepts (target M (partial M s.row s.letter) s.row s.letter)
        answer = added.says ∙ ap (λ (x : Bool). plan.testing && x) (key_accepts runs stepping.keyed ∙ ap M.accepts key_target)

        stays : Kept plan.width plan.noting (s.count + 1) keys path keys' path'
        stays = kept_more (room_for_lem free) added.stored

        pub front_stays : FrontStays plan s keys keys'
        front_stays = rw added.stored.keys_are (stored_front keys key plan.width s.count (room_for_lem free).keys_room)

        pub tried_found : b ≡ true → Tried M plan s keys path keys' path' links' (Err (Stop.Found (going_at (s.count + 1) s.row s.letter)))
        tried_found e =
            let y = both plan.testing (M.accepts (target M (partial M s.row s.letter) s.row s.letter)) (sym answer ∙ e) in
            record {
              went = record {
                more = omega arith;
                kept = stays;
                there = found_row M ok t below (new h) key_target (room_for_lem free) added.stored free y.0 y.1;
              };
              linked = λ r e. absurd (not_ok e);
              on = λ r e. absurd (not_ok e);
            }

        pub tried_new : Lent plan keys' path' → Linked plan keys' links' (s.count + 1) → b ≡ false → {to : Stand} → Moved plan s (s.count + 1) to
            → Tried M plan s keys path keys' path' links' (Ok to)
        tried_new lent linked e mv =
            moved mv (omega arith)
            (new_row_lem M ok t below (new h) key_target (room_for_lem free) added.stored free lent
            (λ d. neither plan.testing (M.accepts (target M (partial M s.row s.letter) s.row s.letter)) d (sym answer ∙ e)))
            stays linked
