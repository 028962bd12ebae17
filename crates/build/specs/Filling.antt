-- Filling the areas: numbering with so many rows, and the table written where every state has one; a first time with few rows, and where these
-- are full on with all.
use Rattle.std.specs.Prelude.{◌≡◌, refl, Bool, false, Result, Ok, Err, List, ℕ, ◌+◌, ◌*◌, ◌≤◌, ◌<◌, length, get_or, take, ℤ, pos}
use Rattle.std.proofs.Common.{sym, ap, ◌∙◌, subst, true≢false, le_refl, mul-le-mul_right, arith, get_or-take}
use Rattle.scope.specs.declared.Building.{Building}
use Rattle.scope.specs.Numbering.{Machine}
use Rattle.plan.specs.declared.Plan.{Plan}
use Rattle.plan.specs.declared.Stand.{Stand}
use Rattle.plan.specs.declared.Stop.{Stop}
use Rattle.plan.specs.declared.Stop.TheVariants.{Found, Full}
use Rattle.plan.specs.Machine.{machine, Task, Runs, machine_runs}
use Rattle.plan.specs.Moves.{with_rows, going_at, explored_by}
use Rattle.explore.specs.Areas.{path_count}
use Rattle.explore.specs.Standing.{Lent, Stands, ExploringEnded}
use Rattle.explore.specs.Outcome.{Ready, Numbered}
use Rattle.explore.specs.Stages.{fewer_task, fewer_lent, start_stands, more_stands, stopped_full, ended_after}
use Rattle.explore.specs.Ends.{ended_numbered}
use Rattle.table.specs.Tabling.{Tabling}
use Rattle.table.specs.Table.{table_after}
use Rattle.build.specs.Builds.{Builds, filled, AllRows, building_finds_none, all_rows, no_room_lem, table_fits_lem, tabling, all_built}

-- what is handed over, with room for the plan's rows. Building has no path area, and tests no state
pub record Filling (plan : Plan) (sums keys : List ℤ) (path table : List ℕ) : Type 0 where
  pub task : Task plan sums
  pub notes_none : plan.noting ≡ false
  pub tests_none : plan.testing ≡ false
  pub ready : Ready (machine plan sums keys) plan keys path
  pub table_room : plan.rows * (1 + plan.letters) ≤ length table

-- the table is as it was where numbering has stopped, and else written
abbrev pub table_by : Plan → List ℤ → List ℤ → List ℕ → Result Stand Stop → List ℕ
table_by plan sums keys table (Ok s) = table_after plan sums keys s.count table
table_by plan sums keys table (Err o) = table

-- numbering has ended, and the table is as it was or written
pub record FilledFrom (plan : Plan) (sums : List ℤ) (count₀ : ℕ) (keys₀ : List ℤ) (path₀ table₀ : List ℕ) (keys : List ℤ) (path table : List ℕ) (r : Result Stand Stop) : Type 0 where
  pub ended : ExploringEnded (machine plan sums keys₀) plan count₀ keys₀ path₀ keys path r
  pub table_is : table ≡ table_by plan sums keys table₀ r

abbrev pub built_answer : Result Stand Stop → Building
built_answer (Ok s) = Building.Built s.count
built_answer (Err (Found s)) = Building.NoRoom s.count
built_answer (Err (Full s)) = Building.NoRoom s.count

-- where nothing is noted, any path area has room
pub path_fits : {noting : Bool} → noting ≡ false → (rows : ℕ) (path : List ℕ) → path_count noting rows ≤ length path
path_fits e rows path = subst (λ (b : Bool). path_count b rows ≤ length path) (sym e) (omega arith)

module _ {plan : Plan} {sums keys : List ℤ} {path table : List ℕ} (f : Filling plan sums keys path table) where
  abbrev M : Machine (List ℤ)
  M = machine plan sums keys

  run : Runs plan sums (take plan.width keys) M
  run = machine_runs plan sums keys

  pub any_path : (other : List ℕ) → Filling plan sums keys other table
  any_path other = record {
    task = f.task;
    notes_none = f.notes_none;
    tests_none = f.tests_none;
    ready = record {
      some_rows = f.ready.some_rows;
      lent = record { few_rows = f.ready.lent.few_rows; keys_room = f.ready.lent.keys_room; path_room = path_fits f.notes_none plan.rows other };
      start_fits = f.ready.start_fits;
      path_start = λ e. absurd (true≢false (sym e ∙ f.notes_none));
      refused = f.ready.refused;
    };
    table_room = f.table_room;
  }

  pub from_start : Stands (machine plan sums keys) plan keys path (going_at 1 0 0)
  from_start =
      start_stands M f.ready (sym run.start_is) (rw run.letters_are f.task.some_letters) f.ready.some_rows (le_refl plan.rows)

  lent_after : {keys₁ : List ℤ} {path₁ : List ℕ} → length keys₁ ≡ length keys → Lent plan keys₁ path₁
  lent_after {path₁ = path₁} same = record {
    few_rows = f.ready.lent.few_rows;
    keys_room = omega (arith, f.ready.lent.keys_room);
    path_room = path_fits f.notes_none plan.rows path₁;
  }

  -- numbering has ended with so few of the rows, and for want of rows only where they are all
  ended_by : {few count₀ : ℕ} {keys₁ : List ℤ} {path₁ : List ℕ} {r : Result Stand Stop} → few ≤ plan.rows → length keys₁ ≡ length keys
      → ExploringEnded M (with_rows plan few) count₀ keys path keys₁ path₁ r → ((s : Stand) → r ≡ Err (Full s) → few ≡ plan.rows)
      → Numbered M plan keys path keys₁ path₁ (explored_by r)
  ended_by less same e whole = ended_numbered M run.lawful plan keys path (lent_after same) less e whole

  -- where every state has a row, the table can be written
  module _ {count₀ : ℕ} {keys₁ : List ℤ} {path₁ : List ℕ} {s : Stand} (e : ExploringEnded (machine plan sums keys) plan count₀ keys path keys₁ path₁ (Ok s))
      (same : length keys₁ ≡ length keys) where
    all : AllRows M plan.rows keys keys₁ s.count
    all =
        all_rows f.tests_none (ended_by (le_refl plan.rows) same e (λ _ _. refl))

    pub rows_tabled : Tabling plan sums keys₁ s.count
    rows_tabled = tabling f.task f.ready all

    pub rows_fit : s.count * (1 + plan.letters) ≤ length table
    rows_fit = table_fits_lem f.task f.ready all (1 + plan.letters) (length table) f.table_room

  -- the whole, by how numbering ended
  written : (r : Result Stand Stop) {keys₁ : List ℤ} {path₁ table₁ : List ℕ} → Numbered M plan keys path keys₁ path₁ (explored_by r)
      → table₁ ≡ table_by plan sums keys₁ table r → Builds (filled M plan.rows keys table) (Ok (built_answer r)) keys₁ table₁
  written (Ok s) n t = all_built f.task f.ready (all_rows f.tests_none n) table t
  written (Err (Found s)) n t = absurd (building_finds_none f.tests_none n)
  written (Err (Full s)) n t = rw t (no_room_lem f.tests_none table n)

  -- ---- few rows first

  module _ {few : ℕ} (less : few ≤ plan.rows) where
    pub few_filling : 0 < few → Filling (with_rows plan few) sums keys path table
    few_filling some = record {
      task = fewer_task plan few f.task;
      notes_none = f.notes_none;
      tests_none = f.tests_none;
      ready = record {
        some_rows = some;
        lent = fewer_lent f.ready.lent less;
        start_fits = f.ready.start_fits;
        path_start = f.ready.path_start;
        refused = f.ready.refused;
      };
      table_room = omega (arith, mul-le-mul_right (1 + plan.letters) less, f.table_room);
    }

    module _ {keys₁ : List ℤ} {path₁ table₁ : List ℕ} {r : Result Stand Stop} (e : FilledFrom (with_rows plan few) sums 1 keys path table keys₁ path₁ table₁ r)
        (same : length keys₁ ≡ length keys) where
      -- they are enough
      pub few_built : ((s : Stand) → r ≡ Err (Full s) → plan.rows ≤ few)
          → Builds (filled (machine plan sums keys) plan.rows keys table) (Ok (built_answer r)) keys₁ table₁
      few_built enough =
          written r (ended_by less same e.ended (λ s q. let h = enough s q in omega (arith, h))) e.table_is

      -- they are full, and it goes on with all
      module _ {s : Stand} (stopped : r ≡ Err (Full s)) where
        full : Stands M (with_rows plan few) keys₁ path₁ s
        full = (stopped_full plan e.ended stopped).stands

        same_start : take plan.width keys₁ ≡ take plan.width keys
        same_start = full.rows_there.start_is ∙ run.start_is

        same_table : table₁ ≡ table
        same_table = e.table_is ∙ ap (table_by plan sums keys₁ table) stopped

        pub many_filling : Filling plan sums keys₁ path₁ table₁
        many_filling = record {
          task = f.task;
          notes_none = f.notes_none;
          tests_none = f.tests_none;
          ready = record {
            some_rows = f.ready.some_rows;
            lent = lent_after same;
            start_fits = λ i h.
                let cell : get_or keys₁ i (pos 0) ≡ get_or keys i (pos 0) =
                sym (get_or-take plan.width keys₁ i (pos 0) h)
                ∙ ap (λ (k : List ℤ). get_or k i (pos 0)) same_start
                ∙ get_or-take plan.width keys i (pos 0) h in
                rw cell (f.ready.start_fits i h);
            path_start = λ d. absurd (true≢false (sym d ∙ f.notes_none));
            refused = λ d. absurd (true≢false (sym d ∙ f.tests_none));
          };
          table_room = rw same_table f.table_room;
        }

        pub many_stands : Stands (machine plan sums keys₁) plan keys₁ path₁ s
        many_stands = rw same_start (more_stands less (lent_after same) full)

        pub many_built : {keys₂ : List ℤ} {path₂ table₂ : List ℕ} {t : Result Stand Stop} → FilledFrom plan sums s.count keys₁ path₁ table₁ keys₂ path₂ table₂ t
            → length keys₂ ≡ length keys₁ → Builds (filled (machine plan sums keys) plan.rows keys table) (Ok (built_answer t)) keys₂ table₂
        many_built {t = t} g kept =
            written t
            (ended_by (le_refl plan.rows) (kept ∙ same) (ended_after plan e.ended stopped (rw same_start at g.ended)) (λ _ _. refl))
            (rw same_table at g.table_is)
