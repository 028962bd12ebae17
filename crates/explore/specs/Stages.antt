-- The two stages of exploring: it begins at the start's row with few rows, and goes on, where these are full, with all.
use Rattle.std.specs.Prelude.{ℕ, ◌*◌, ◌/◌, ◌≤◌, ◌<◌, ◌≡◌, Bool, Result, Err, List, [], ◌∷◌, length, replicate, ℤ, pos}
use Rattle.std.proofs.Math.Path.{refl}
use Rattle.std.proofs.Math.Logic.{by_cases}
use Rattle.std.proofs.Math.Bool.{true, false}
use Rattle.std.proofs.Common.{append-nil, mul-le-mul_right, one-mul, arith, get_or-take, length-take-le}
use Rattle.std.proofs.Math.Decide.{ℕ_discrete}
use Rattle.std.proofs.Math.ListN.{take}
use Rattle.std.proofs.lemmas.List.{length-replicate}
use Rattle.scope.specs.Whole.{joined}
use Rattle.scope.specs.Numbering.{Machine, start_row, numbered}
use Rattle.scope.specs.Sizes.{most_atoms}
use Rattle.theory.specs.Machine.Exploring.{partial_zero, start_rows, start_none}
use Rattle.index.specs.Laws.{none_indexed}
use Rattle.plan.specs.declared.Plan.{Plan}
use Rattle.plan.specs.declared.Stand.{Stand}
use Rattle.plan.specs.declared.Stop.{Stop}
use Rattle.plan.specs.declared.Stop.TheVariants.{Full}
use Rattle.plan.specs.Machine.{KeyRow, Task}
use Rattle.plan.specs.Moves.{with_rows, going_at, stand_of}
use Rattle.explore.specs.Areas.{row_cells, path_rows, path_count, path_count_le, Held, kept_trans}
use Rattle.explore.specs.Standing.{Lent, Linked, Stands, FullAt, stands_as, ExploringEnded}
use Rattle.explore.specs.Outcome.{Ready}

take_none : {A : Type 0} (l : List A) → take 0 l ≡ []
take_none [] = refl
take_none (x ∷ l) = refl

-- ---- an index as it is made: every link is none

pub none_linked : (plan : Plan) (keys : List ℤ) (size : ℕ) → plan.width ≤ most_atoms → 0 < size / 2 → size / 2 ≤ 65536 → plan.rows ≤ size / 2
    → Linked plan keys (replicate size 65535) 0
none_linked plan keys size narrow some few room = record {
  indexed = none_indexed keys plan.width size narrow some few;
  room = rw length-replicate room;
}

-- ---- the same plan in fewer rows

pub fewer_task : (plan : Plan) (few : ℕ) {sums : List ℤ} → Task plan sums → Task (with_rows plan few) sums
fewer_task plan few t = record {
  narrow = t.narrow;
  some_letters = t.some_letters;
  few_letters = t.few_letters;
  sums_fit = t.sums_fit;
  blank = t.blank;
  bits = t.bits;
}

pub fewer_lent : {plan : Plan} {keys : List ℤ} {path : List ℕ} → Lent plan keys path → {few : ℕ} → few ≤ plan.rows → Lent (with_rows plan few) keys path
fewer_lent {plan} l {few} less =
    let cells : few * plan.width ≤ plan.rows * plan.width = mul-le-mul_right plan.width less in
    record {
      few_rows = omega (arith, l.few_rows);
      keys_room = omega (arith, l.keys_room);
      path_room = omega (arith, l.path_room, path_count_le plan.noting few plan.rows less);
    }

-- ---- the start's row

module _ (M : Machine (List ℤ)) {plan : Plan} {keys : List ℤ} {path : List ℕ} (ready : Ready M plan keys path)
    (start_is : take plan.width keys ≡ M.start) where
  long : plan.width ≤ length keys
  long = let e : 1 * plan.width ≤ plan.rows * plan.width = mul-le-mul_right plan.width ready.some_rows in omega (arith, ready.lent.keys_room)

  first_row : KeyRow plan.width (take plan.width keys)
  first_row = record {
    size = length-take-le plan.width keys long;
    fits = λ i h. rw (get_or-take plan.width keys i (pos 0) h) (ready.start_fits i h);
  }

  first_held : Held plan.width plan.noting (start_row M ∷ []) 1 keys path
  unfolding row_cells path_rows joined start_row
  first_held = record {
    count_is = refl;
    keys_hold = rw (one-mul, append-nil) start_is;
    path_holds = go plan.noting ready.path_start;
  }
    where
      go : (d : Bool) → (d ≡ true → take 2 path ≡ 0 ∷ 0 ∷ []) → take (path_count d 1) path ≡ path_rows d (start_row M ∷ [])
      go true h = h refl
      go false h = take_none path

  pub start_stands : 0 < M.letters → {few : ℕ} → 0 < few → few ≤ plan.rows → Stands M (with_rows plan few) keys path (going_at 1 0 0)
  start_stands some {few} h less = record {
    rows_there = rw (partial_zero M 0, start_rows M) (record {
      lent = fewer_lent ready.lent less;
      count_ok = h;
      start_is = start_is;
      start_row = rw (← start_is) first_row;
      held = first_held;
      none = λ d. rw (start_rows M) at (start_none M (ready.refused d));
    });
    letter_ok = some;
    begun = λ ne. absurd (ne refl);
    row_ok = omega arith;
  }

-- ---- a row that is expanded, or is being expanded, is there

pub has_begun : (M : Machine (List ℤ)) {plan : Plan} {keys : List ℤ} {path : List ℕ} {s : Stand}
    → Stands M plan keys path s → s.row < s.count → s.row < length (numbered M s.row)
has_begun M {s = s} t below =
    by_cases (ℕ_discrete s.letter 0)
    (λ e. let l : length (numbered M s.row) ≡ s.count = rw (e, partial_zero M s.row) at t.rows_there.held.count_is in omega arith)
    (λ ne. t.begun ne)

-- ---- from few rows to all

pub more_stands : {M : Machine (List ℤ)} {plan : Plan} {few : ℕ} {keys : List ℤ} {path : List ℕ} {s : Stand}
    → few ≤ plan.rows → Lent plan keys path → Stands M (with_rows plan few) keys path s → Stands M plan keys path (going_at s.count s.row s.letter)
more_stands less lent s =
    let t = s.rows_there in
    record {
      rows_there = record {
        lent = lent;
        count_ok = omega (arith, t.count_ok);
        start_is = t.start_is;
        start_row = t.start_row;
        held = t.held;
        none = t.none;
      };
      letter_ok = s.letter_ok;
      begun = s.begun;
      row_ok = s.row_ok;
    }

module _ {M : Machine (List ℤ)} (plan : Plan) {few : ℕ} {count₀ : ℕ} {keys₀ : List ℤ} {path₀ : List ℕ} {keys : List ℤ} {path : List ℕ} {r : Result Stand Stop}
    (e : ExploringEnded M (with_rows plan few) count₀ keys₀ path₀ keys path r) {s : Stand} (stopped : r ≡ Err (Full s)) where
  pub stopped_full : FullAt M (with_rows plan few) keys path s
  stopped_full = stands_as M (with_rows plan few) keys path stopped e.went.there

  pub ended_after : {keys' : List ℤ} {path' : List ℕ} {t : Result Stand Stop} → ExploringEnded M plan s.count keys path keys' path' t → ExploringEnded M plan count₀ keys₀ path₀ keys' path' t
  ended_after {t = t} f = record {
    went = record {
      more = let h : count₀ ≤ s.count = rw stopped at e.went.more in omega (arith, f.went.more);
      kept = kept_trans s.count (stand_of t).count f.went.more (rw stopped at e.went.kept) f.went.kept;
      there = f.went.there;
    };
    all = f.all;
  }
