-- By its ends exploring knows the verdict over the rows lent, and the areas hold the rows of every state counted.
use Rattle.std.specs.Prelude.{ℕ, suc, ◌*◌, ◌≤◌, ◌<◌, ◌≡◌, Bool, Result, Ok, Err, List, length, ℤ}
use Rattle.std.proofs.Math.Path.{refl}
use Rattle.std.proofs.Common.{sym, ap, ◌∙◌, mul-le-mul_right, arith, le-leb}
use Rattle.std.proofs.Math.Logic.{by_cases}
use Rattle.std.proofs.Math.Bool.{true, false}
use Rattle.std.proofs.Math.Decide.{ℕ_discrete}
use Rattle.std.proofs.lemmas.Bool.{lt-leb}
use Rattle.scope.specs.Numbering.{Machine, Rows, row, numbered}
use Rattle.scope.specs.Deciding.{Verdict, found, never, no_room, counted}
use Rattle.theory.specs.Machine.Lawful.{Lawful}
use Rattle.theory.specs.Machine.Exploring.{partial, new_row, grown_length, partial_zero, partial_longer, found_end, found_row, found_counted, no_room_end, no_room_more, no_room_taken, never_end, all_fit, all_rows}
use Rattle.plan.specs.declared.Plan.{Plan}
use Rattle.plan.specs.declared.Stand.{Stand}
use Rattle.plan.specs.declared.Stop.{Stop}
use Rattle.plan.specs.declared.Stop.TheVariants.{Full}
use Rattle.plan.specs.declared.Explored.{Explored}
use Rattle.plan.specs.Moves.{with_rows, explored_by}
use Rattle.explore.specs.Areas.{path_count, path_count_le, Held, Kept, keys_front, path_front}
use Rattle.explore.specs.Standing.{Lent, Stands, FoundLast, FullAt, ExploringEnded}
use Rattle.explore.specs.Outcome.{outcome, explored_as, Numbered}
use Rattle.explore.specs.Stages.{has_begun}

module _ (M : Machine (List ℤ)) (ok : Lawful M) (plan : Plan) (keys₀ : List ℤ) (path₀ : List ℕ) {keys : List ℤ} {path : List ℕ} (lent : Lent plan keys path) where
  abbrev rows : ℕ
  rows = plan.rows

  numbered_as : (v : Verdict) → outcome plan.testing M rows ≡ v → {l : Rows (List ℤ)} → counted v rows (numbered M rows) ≡ l → {count : ℕ} → count ≤ rows
      → Held plan.width plan.noting l count keys path → Kept plan.width plan.noting count keys₀ path₀ keys path
      → {r : Explored} → r ≡ explored_as M v rows (numbered M rows) → Numbered M plan keys₀ path₀ keys path r
  numbered_as v e c {count} h held kept a =
      let k : count * plan.width ≤ length keys = omega (arith, mul-le-mul_right plan.width h, lent.keys_room) in
      let p : path_count plan.noting count ≤ length path = omega (arith, path_count_le plan.noting count rows h, lent.path_room) in
      record { answer = rw e a; keys_after = rw (e, c) (keys_front held k kept); path_after = rw (e, c) (path_front held p kept) }

  -- ---- a state that accepts

  module _ {few : ℕ} {s : Stand} (less : few ≤ rows) (f : FoundLast M (with_rows plan few) keys path s) (kept : Kept plan.width plan.noting s.count keys₀ path₀ keys path) where
    abbrev before : Rows (List ℤ)
    before = partial M s.row s.letter

    last : s.count ≡ suc (length before)
    last = sym f.held.count_is ∙ grown_length M s.row s.letter

    within : s.row < rows
    within = omega (arith, last, f.spot.begun, f.count_ok, partial_longer M s.row s.letter)

    found_outcome : outcome plan.testing M rows ≡ found (length before)
    found_outcome =
        rw f.is_tested
        (found_end M ok s.row s.letter f.spot.begun f.spot.letter_ok f.spot.new rows within (omega (arith, last, f.count_ok)) f.none f.accepts)

    its_row : row M (numbered M rows) (length before) ≡ new_row M before s.row s.letter
    its_row = found_row M ok s.row s.letter f.spot.begun f.spot.letter_ok f.spot.new rows within

    pub found_numbered : Numbered M plan keys₀ path₀ keys path (Explored.Found s.count s.row s.letter)
    found_numbered =
        numbered_as (found (length before)) found_outcome
        (found_counted M ok s.row s.letter f.spot.begun f.spot.letter_ok f.spot.new rows within) (omega (arith, f.count_ok)) f.held kept
        (rw (last, its_row))

  -- ---- every row is expanded

  module _ {few : ℕ} {s : Stand} (less : few ≤ rows) (t : Stands M (with_rows plan few) keys path s) (all : s.count ≤ s.row)
      (kept : Kept plan.width plan.noting s.count keys₀ path₀ keys path) where
    no_letter : s.letter ≡ 0
    no_letter =
        by_cases (ℕ_discrete s.letter 0) (λ e. e)
        (λ ne. absurd (omega (arith, t.begun ne, partial_longer M s.row s.letter, t.rows_there.held.count_is)))

    rows_are : partial M s.row s.letter ≡ numbered M s.row
    rows_are = rw no_letter (partial_zero M s.row)

    expanded : length (numbered M s.row) ≤ s.row
    expanded = let h : length (partial M s.row s.letter) ≤ s.row = omega (arith, t.rows_there.held.count_is) in rw rows_are at h

    low : s.row ≤ rows
    low = omega (arith, t.row_ok, t.rows_there.count_ok)

    all_outcome : outcome plan.testing M rows ≡ never
    all_outcome = go plan.testing refl
      where
        go : (d : Bool) → plan.testing ≡ d → outcome d M rows ≡ never
        go true e = never_end M s.row rows expanded low (rw rows_are at (t.rows_there.none e))
        go false e = rw (le-leb (length (numbered M rows)) rows (all_fit M s.row rows expanded low))

    pub all_numbered : Numbered M plan keys₀ path₀ keys path (Explored.All s.count)
    all_numbered =
        let e : numbered M rows ≡ partial M s.row s.letter = all_rows M s.row rows expanded low ∙ sym rows_are in
        numbered_as never all_outcome e (omega (arith, t.rows_there.count_ok)) t.rows_there.held kept
        (ap Explored.All (sym t.rows_there.held.count_is ∙ ap length (sym e)))

  -- ---- no room

  module _ {s : Stand} (f : FullAt M plan keys path s) (kept : Kept plan.width plan.noting s.count keys₀ path₀ keys path) where
    t : Stands M plan keys path s
    t = f.stands

    full : length (partial M s.row s.letter) ≡ rows
    unfolding t
    full = t.rows_there.held.count_is ∙ f.full

    begun : s.row < length (numbered M s.row)
    unfolding t
    begun = has_begun M t f.below

    room : s.row < rows
    room = omega (arith, f.below, f.full)

    full_outcome : outcome plan.testing M rows ≡ no_room
    unfolding t
    full_outcome = go plan.testing refl
      where
        go : (d : Bool) → plan.testing ≡ d → outcome d M rows ≡ no_room
        go true e = no_room_end M ok s.row s.letter begun t.letter_ok f.new rows room full (t.rows_there.none e)
        go false e = rw (lt-leb (length (numbered M rows)) rows (no_room_more M ok s.row s.letter begun t.letter_ok f.new rows room full))

    pub full_numbered : Numbered M plan keys₀ path₀ keys path (Explored.NoRoom s.count)
    unfolding t
    full_numbered =
        numbered_as no_room full_outcome (no_room_taken M ok s.row s.letter begun t.letter_ok f.new rows room full) (omega (arith, f.full)) t.rows_there.held kept
        (ap Explored.NoRoom f.full)

  -- ---- exploring has ended, with so few rows; for want of rows only where they are all

  pub ended_numbered : {few count₀ : ℕ} {r : Result Stand Stop} → few ≤ rows → ExploringEnded M (with_rows plan few) count₀ keys₀ path₀ keys path r
      → ((s : Stand) → r ≡ Err (Full s) → few ≡ rows)
      → Numbered M plan keys₀ path₀ keys path (explored_by r)
  ended_numbered {few} {count₀} {r = r} less e whole = go r e whole
    where
      go : (r : Result Stand Stop) → ExploringEnded M (with_rows plan few) count₀ keys₀ path₀ keys path r → ((s : Stand) → r ≡ Err (Full s) → few ≡ rows)
          → Numbered M plan keys₀ path₀ keys path (explored_by r)
      go (Ok s) e whole = all_numbered less e.went.there (e.all s refl) e.went.kept
      go (Err (Stop.Found s)) e whole = found_numbered less e.went.there e.went.kept
      go (Err (Stop.Full s)) e whole = full_numbered (rw (whole s refl) at e.went.there) e.went.kept
