-- What building leaves: the answer and each lent area afterwards. Of a machine of key rows, numbered in so many rows; and how that follows
-- from the way in which numbering ended.
use Rattle.std.specs.Prelude.{◌≡◌, refl, Bool, true, false, List, ℕ, ◌*◌, ◌≤◌, ◌<◌, take, leb, ℤ, Ok, Result}
use Rattle.std.proofs.Math.Path.{sym, ap}
use Rattle.std.proofs.Common.{◌∙◌, le_refl, mul-le-mul_right, arith, leb→le}
use Rattle.std.proofs.Math.Option.{none}
use Rattle.std.proofs.Math.Nat.{zero-mul}
use Rattle.std.proofs.Math.ListN.{length}
use Rattle.scope.specs.declared.Refusal.{Refusal}
use Rattle.scope.specs.declared.Building.{Building}
use Rattle.scope.specs.Whole.{at_front}
use Rattle.scope.specs.Numbering.{Machine, Row, Rows, start_row, numbered}
use Rattle.scope.specs.Deciding.{Verdict, verdict_by, counted}
use Rattle.scope.specs.Building.{table_cells, Built}
use Rattle.theory.specs.Machine.Prefix.{prefix_length, numbered_prefix_le, numbered_stays_le}
use Rattle.theory.specs.Machine.Table.{numbered_rooted}
use Rattle.theory.specs.Machine.Exploring.{partial_zero}
use Rattle.theory.specs.Machine.Simulation.{AllGood, good_at}
use Rattle.theory.specs.Numbers.Joined.{joined_length, at_front_cells, at_front_length}
use Rattle.plan.specs.declared.Plan.{Plan}
use Rattle.plan.specs.declared.Explored.{Explored}
use Rattle.plan.specs.Machine.{machine, KeyRow, Task, Runs, machine_runs}
use Rattle.explore.specs.Areas.{row_cells}
use Rattle.explore.specs.Outcome.{outcome, explored_as, Ready, Numbered}
use Rattle.explore.specs.Stages.{start_stands}
use Rattle.table.specs.Tabling.{AllThere, Tabling, state_is}
use Rattle.table.specs.Table.{table_after}

pub record Builds (b : Built) (answer₁ : Result Building Refusal) (keys₁ : List ℤ) (table₁ : List ℕ) : Type 0 where
  pub answer : answer₁ ≡ b.answer
  pub keys : keys₁ ≡ b.keys
  pub table : table₁ ≡ b.table

-- ---- over key rows, as scope's `built_if` is over states

abbrev pub filled_if : Bool → ℕ → Machine (List ℤ) → Rows (List ℤ) → List ℤ → List ℕ → Built
filled_if true r M l keys table = record {
  answer = Ok (Building.Built (length l));
  keys = at_front (row_cells l) keys;
  table = at_front (table_cells M l) table;
}
filled_if false r M l keys table = record {
  answer = Ok (Building.NoRoom r);
  keys = at_front (row_cells (take r l)) keys;
  table = table;
}

abbrev pub filled : Machine (List ℤ) → ℕ → List ℤ → List ℕ → Built
filled M r keys table = filled_if (leb (length (numbered M r)) r) r M (numbered M r) keys table

-- ---- by how numbering ended, where no state is tested

pub record AllRows (M : Machine (List ℤ)) (rows : ℕ) (keys₀ keys : List ℤ) (states : ℕ) : Type 0 where
  pub fit : leb (length (numbered M rows)) rows ≡ true
  pub states_are : states ≡ length (numbered M rows)
  pub keys_are : keys ≡ at_front (row_cells (numbered M rows)) keys₀

never_found : (M : Machine (List ℤ)) (states at letter rows : ℕ) (b : Bool) (l : Rows (List ℤ)) → Explored.Found states at letter ≡ explored_as M (verdict_by none b) rows l → ⊥
never_found M states at letter rows true l e = let z : ◌≡◌ {A = ℕ} 0 1 = cc in omega arith
never_found M states at letter rows false l e = let z : ◌≡◌ {A = ℕ} 0 1 = cc in omega arith

by_room : (M : Machine (List ℤ)) (plan : Plan) → plan.testing ≡ false
    → outcome plan.testing M plan.rows ≡ verdict_by none (leb (length (numbered M plan.rows)) plan.rows)
by_room M plan untested = ap (λ (b : Bool). outcome b M plan.rows) untested

module _ {M : Machine (List ℤ)} {plan : Plan} {keys₀ keys : List ℤ} {path₀ path : List ℕ} {r : Explored} (untested : plan.testing ≡ false)
    (n : Numbered M plan keys₀ path₀ keys path r) where
  told : r ≡ explored_as M (verdict_by none (leb (length (numbered M plan.rows)) plan.rows)) plan.rows (numbered M plan.rows)
  told = n.answer ∙ ap (λ (v : Verdict). explored_as M v plan.rows (numbered M plan.rows)) (by_room M plan untested)

  keys_left : keys
      ≡ at_front (row_cells (counted (verdict_by none (leb (length (numbered M plan.rows)) plan.rows)) plan.rows (numbered M plan.rows))) keys₀
  keys_left =
      n.keys_after ∙ ap (λ (v : Verdict). at_front (row_cells (counted v plan.rows (numbered M plan.rows))) keys₀) (by_room M plan untested)

module _ {M : Machine (List ℤ)} {plan : Plan} {keys₀ keys : List ℤ} {path₀ path : List ℕ} {states : ℕ} (untested : plan.testing ≡ false) where
  pub building_finds_none : {at letter : ℕ} → Numbered M plan keys₀ path₀ keys path (Explored.Found states at letter) → ⊥
  building_finds_none {at} {letter} n =
      never_found M states at letter plan.rows (leb (length (numbered M plan.rows)) plan.rows) (numbered M plan.rows) (told untested n)

  pub all_rows : Numbered M plan keys₀ path₀ keys path (Explored.All states) → AllRows M plan.rows keys₀ keys states
  all_rows n = go (leb (length (numbered M plan.rows)) plan.rows) refl (told untested n)
    where
      go : (b : Bool) → leb (length (numbered M plan.rows)) plan.rows ≡ b
          → Explored.All states ≡ explored_as M (verdict_by none b) plan.rows (numbered M plan.rows) → AllRows M plan.rows keys₀ keys states
      go true e a = record { fit = e; states_are = cc; keys_are = rw e at (keys_left untested n) }
      go false e a = absurd (let z : ◌≡◌ {A = ℕ} 0 1 = cc in omega arith)

  pub no_room_lem : (table : List ℕ) → Numbered M plan keys₀ path₀ keys path (Explored.NoRoom states)
      → Builds (filled M plan.rows keys₀ table) (Ok (Building.NoRoom states)) keys table
  no_room_lem table n = go (leb (length (numbered M plan.rows)) plan.rows) refl (told untested n)
    where
      go : (b : Bool) → leb (length (numbered M plan.rows)) plan.rows ≡ b
          → Explored.NoRoom states ≡ explored_as M (verdict_by none b) plan.rows (numbered M plan.rows)
          → Builds (filled M plan.rows keys₀ table) (Ok (Building.NoRoom states)) keys table
      go true e a = absurd (let z : ◌≡◌ {A = ℕ} 0 1 = cc in omega arith)
      go false e a =
          let s : states ≡ plan.rows = cc in
          rw e (record { answer = ap (λ (n : ℕ). Ok (Building.NoRoom n)) s; keys = rw e at (keys_left untested n); table = refl })

-- ---- every row is there: what writing the table asks, and the whole once it is written

module _ {plan : Plan} {sums : List ℤ} (task : Task plan sums) {keys₀ : List ℤ} {path₀ : List ℕ} (ready : Ready (machine plan sums keys₀) plan keys₀ path₀)
    {keys : List ℤ} {states : ℕ} (all : AllRows (machine plan sums keys₀) plan.rows keys₀ keys states) where
  abbrev M : Machine (List ℤ)
  M = machine plan sums keys₀

  run : Runs plan sums (take plan.width keys₀) M
  run = machine_runs plan sums keys₀

  few_states : states ≤ plan.rows
  few_states = omega (arith, all.states_are, leb→le (length (numbered M plan.rows)) plan.rows (rw all.fit tt))

  same_rows : numbered M plan.rows ≡ numbered M states
  same_rows = numbered_stays_le M few_states (omega (arith, prefix_length (numbered_prefix_le M few_states), all.states_are))

  start_row_lem : KeyRow plan.width M.start
  start_row_lem =
      (start_stands M ready (sym run.start_is) (rw run.letters_are task.some_letters) ready.some_rows (le_refl plan.rows)).rows_there.start_row

  good : AllGood (KeyRow plan.width) (numbered M states)
  good = rw (partial_zero M states) at (run.rows_good task start_row_lem states 0 (omega arith))

  cells_length : length (row_cells (numbered M states)) ≡ states * plan.width
  unfolding row_cells
  cells_length =
      joined_length (λ (r : Row (List ℤ)). r.state) plan.width (start_row M) (numbered M states) (λ t h. (good_at M good t h).size)
      ∙ ap (λ (n : ℕ). n * plan.width) (sym (ap length same_rows) ∙ sym all.states_are)

  keys_are : keys ≡ at_front (row_cells (numbered M states)) keys₀
  keys_are = rw same_rows at all.keys_are

  there : AllThere M plan.width states keys
  there =
      let fit : states * plan.width ≤ plan.rows * plan.width = mul-le-mul_right plan.width few_states in
      let room : states * plan.width ≤ length keys₀ = omega (arith, ready.lent.keys_room) in
      record {
        size = sym (ap length same_rows) ∙ sym all.states_are;
        room = rw (keys_are, at_front_length (row_cells (numbered M states)) keys₀ (rw cells_length room)) room;
        cells = rw keys_are (at_front_cells (row_cells (numbered M states)) keys₀ (states * plan.width) cells_length);
        good = good;
      }

  same_start : take plan.width keys ≡ take plan.width keys₀
  unfolding start_row
  same_start =
      let rooted = numbered_rooted M run.lawful states in
      let some : 0 < states = omega (arith, rooted.not_empty, there.size) in
      rw zero-mul at (state_is there 0 some) ∙ ap (λ (r : Row (List ℤ)). r.state) rooted.start_row ∙ run.start_is

  pub table_fits_lem : (width size : ℕ) → plan.rows * width ≤ size → states * width ≤ size
  table_fits_lem width size h = omega (arith, mul-le-mul_right width few_states)

  pub tabling : Tabling plan sums keys states
  tabling = record { task = task; there = rw same_start there }

  pub all_built : (table : List ℕ) {table₁ : List ℕ} → table₁ ≡ table_after plan sums keys states table
      → Builds (filled (machine plan sums keys₀) plan.rows keys₀ table) (Ok (Building.Built states)) keys table₁
  all_built table e = rw all.fit (record {
    answer = ap (λ (n : ℕ). Ok (Building.Built n)) all.states_are;
    keys = all.keys_are;
    table = e ∙ rw (same_start, same_rows);
  })
