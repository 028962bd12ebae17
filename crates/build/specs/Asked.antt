-- Building a question: its start is row 0, the machine of key rows does what the question's does, and so what is left is document 01's.
use Rattle.std.specs.Prelude.{◌≡◌, Bool, true, false, ℕ, ◌+◌, ◌*◌, ◌/◌, ◌^◌, ◌≤◌, ◌<◌, min, length, take, leb, ℤ, Ok, Err, Result, is_ok}
use Rattle.std.proofs.Math.Path.{refl, ap, subst}
use Rattle.std.proofs.Common.{sym, ◌∙◌, true≢false, mul-le-mul_right, div-mul-le_self, arith, length-take, length-take-le}
use mathlib.Core.List.{List, []}
use Rattle.std.proofs.Math.Nat.{zero-mul, zero-add}
use Rattle.std.proofs.Math.Seq.{take-length, paste}
use Rattle.scope.specs.declared.Building.{Building}
use Rattle.scope.specs.declared.Question.{Question}
use Rattle.scope.specs.declared.Refusal.{Refusal}
use Rattle.scope.specs.Wire.{read_held, question_held}
use Rattle.scope.specs.Whole.{joined, at_front}
use Rattle.scope.specs.Question.{atoms_of, atom_count}
use Rattle.scope.specs.States.{State, cells_of, start_of}
use Rattle.scope.specs.Numbering.{Machine, Rows, machine_of, numbered}
use Rattle.scope.specs.Deciding.{no_room, key_cells}
use Rattle.scope.specs.Sizes.{most_states, most_atoms, most_letters}
use Rattle.scope.specs.Building.{build_room, Built, built_if, built_question, built}
use Rattle.theory.specs.Machine.Lawful.{machine_lawful}
use Rattle.theory.specs.Machine.Table.{numbered_rooted}
use Rattle.theory.specs.Machine.Exploring.{no_rows_more}
use Rattle.theory.specs.Numbers.Joined.{at_front_cells, at_front_length}
use Rattle.theory.specs.Machine.Simulation.{Simulates, rows_map, numbered_maps, states_map, same_length, same_counted, same_table}
use Rattle.theory.specs.Calls.Lengths.{keys_length, build_room_keys, build_room_table}
use Rattle.theory.specs.Calls.Deciding.{rows_of}
use Rattle.theory.specs.Calls.Built.{built_of, without_room}
use Rattle.index.specs.Rows.{stored_at_front}
use Rattle.theory.specs.Wire.Answers.{atom_count_lem}
use Rattle.theory.specs.Wire.Accepted.{WithinLimits, accepted_within}
use Rattle.step.specs.declared.Kinds.{Kinds}
use Rattle.step.specs.Eight.{padded}
use Rattle.step.specs.Cells.{kind_codes, Coefficients, Sums}
use Rattle.step.specs.Atoms.{few_atoms, kinds_count, coefficients_fit}
use Rattle.step.specs.Laws.{start_cells}
use Rattle.plan.specs.declared.Plan.{Plan}
use Rattle.plan.specs.Machine.{machine}
use Rattle.plan.specs.Simulated.{Planned, PlanAsked, PlanMade, simulates, question_task, start_fits}
use Rattle.explore.specs.Areas.{row_cells, front_twice}
use Rattle.build.specs.Builds.{Builds, filled_if, filled}
use Rattle.build.specs.Filling.{Filling, path_fits}

-- ---- a machine that does the same leaves the same

rows_cells : (l : Rows State) → row_cells (rows_map cells_of l) ≡ key_cells l
unfolding row_cells key_cells
rows_cells l = ap joined (states_map cells_of (λ s. s) l)

module _ (q : Question) {M : Machine (List ℤ)} {Good : State → Type 0} (same : Simulates (machine_of q) M cells_of Good) (rows : ℕ) (some : 0 < rows)
    (start : List ℤ) (width : length start ≡ atom_count q) (keys : List ℤ) (room : atom_count q ≤ length keys) (table : List ℕ) where
  -- the rows replace the start
  over_start : (k : ℕ) → 0 < length (take k (rows_of q rows)) → at_front (key_cells (take k (rows_of q rows))) (at_front start keys) ≡ at_front (key_cells (take k (rows_of q rows))) keys
  over_start k h =
      let e : 1 * atom_count q ≤ length (take k (rows_of q rows)) * atom_count q = mul-le-mul_right (atom_count q) h in
      front_twice start (key_cells (take k (rows_of q rows))) keys (omega (arith, keys_length q rows k)) (omega arith)

  not_empty : 0 < length (rows_of q rows)
  not_empty = (numbered_rooted (machine_of q) (machine_lawful q) rows).not_empty

  filled_as : (b : Bool) → filled_if b rows M (numbered M rows) (at_front start keys) table ≡ built_if b rows (machine_of q) (rows_of q rows) keys table
  filled_as true =
      let cells : row_cells (numbered M rows) ≡ key_cells (rows_of q rows) = ap row_cells (numbered_maps same rows) ∙ rows_cells (rows_of q rows) in
      let over : at_front (key_cells (rows_of q rows)) (at_front start keys) ≡ at_front (key_cells (rows_of q rows)) keys =
      rw (take-length (rows_of q rows)) at (over_start (length (rows_of q rows)) (rw (take-length (rows_of q rows)) not_empty)) in
      rw (same_length same rows, cells, over, same_table same rows)
  filled_as false =
      let cells : row_cells (take rows (numbered M rows)) ≡ key_cells (take rows (rows_of q rows)) = ap row_cells (same_counted same rows no_room rows) ∙ rows_cells (take rows (rows_of q rows)) in
      rw (cells, over_start rows (omega (arith, length-take rows (rows_of q rows), not_empty)))

  filled_question : filled M rows (at_front start keys) table ≡ built_of q rows keys table
  filled_question = rw (same_length same rows) (filled_as (leb (length (rows_of q rows)) rows))

-- ---- an accepted question, its atoms, and the rows lent

pub record BuildLends (q : Question) (atoms : Kinds) (rows : ℕ) (keys : List ℤ) (table : List ℕ) : Type 0 where
  pub limits : WithinLimits q
  pub kinds_are : atoms.kinds ≡ padded 0 (kind_codes q.codes)
  pub count : atoms.m ≡ length (kind_codes q.codes)
  pub rows_are : rows ≡ build_room q keys table
  pub some_rows : 0 < rows

pub some_atoms : {q : Question} → WithinLimits q → 0 < length (kind_codes q.codes)
some_atoms {q} w = rw (kinds_count q, atom_count_lem q) w.some_atom

pub room_is : (q : Question) (m letters rows : ℕ) (keys : List ℤ) (table : List ℕ) → m ≡ length (kind_codes q.codes) → letters ≡ 2 ^ q.n
    → rows ≡ min (min (length keys / m) (length table / (1 + letters))) most_states → rows ≡ build_room q keys table
unfolding build_room
room_is q m letters rows keys table e f g = g ∙ rw (e, kinds_count q, f)

room_low : (q : Question) (keys : List ℤ) (table : List ℕ) → build_room q keys table ≤ most_states
unfolding build_room
room_low q keys table = omega arith

rows_fit : (rows w size : ℕ) → rows ≤ size / w → rows * w ≤ size
rows_fit rows w size h = omega (arith, mul-le-mul_right w h, div-mul-le_self size w)

module _ {q : Question} {atoms : Kinds} {rows : ℕ} {keys : List ℤ} {table : List ℕ} (l : BuildLends q atoms rows keys table) where
  atoms_are : atoms.m ≡ atom_count q
  atoms_are = l.count ∙ kinds_count q

  -- what the letters' sums ask, and what the plan asks
  pub asks_sums : Coefficients q.n atoms.m q.coefficients
  asks_sums = rw atoms_are (coefficients_fit l.limits)

  pub asks_plan : {sums : List ℤ} → Sums q.n atoms.m q.coefficients sums → length sums ≡ (most_atoms * most_letters) → PlanAsked q atoms sums
  asks_plan sums_are whole = record { limits = l.limits; kinds_are = l.kinds_are; count = atoms_are; sums_are = sums_are; whole = whole }

  -- ---- the plan

  module _ {sums : List ℤ} {plan : Plan} (made : PlanMade q sums rows false false plan) where
    planned : Planned q plan sums
    planned = made.planned

    width : plan.width ≡ atom_count q
    width = planned.tables.count

    lent_rows : plan.rows ≡ build_room q keys table
    lent_rows = made.rows_are ∙ l.rows_are

    few_cells : plan.width ≤ most_atoms
    few_cells = rw width (few_atoms l.limits)

    keys_room : plan.rows * plan.width ≤ length keys
    keys_room = rows_fit plan.rows plan.width (length keys) (rw (width, lent_rows) (build_room_keys q keys table))

    table_room : plan.rows * (1 + plan.letters) ≤ length table
    table_room =
        rows_fit plan.rows (1 + plan.letters) (length table)
        (rw (planned.letters_are, lent_rows) (build_room_table q keys table))

    some_rows : 0 < plan.rows
    some_rows = rw made.rows_are l.some_rows

    one_row : plan.width ≤ length keys
    one_row = let e : 1 * plan.width ≤ plan.rows * plan.width = mul-le-mul_right plan.width some_rows in omega (arith, keys_room)

    -- what storing the start asks
    pub asks_start : (plan.width ≤ most_atoms) × (plan.width ≤ length q.constants) × (0 * plan.width + plan.width ≤ length keys)
    asks_start = (few_cells, rw l.limits.sized.constants few_cells, rw (zero-mul, zero-add) one_row)

    start_are : take plan.width q.constants ≡ cells_of (start_of (atoms_of q))
    start_are = rw width (start_cells l.limits)

    start_width : length (cells_of (start_of (atoms_of q))) ≡ plan.width
    start_width = sym (ap length start_are) ∙ length-take-le plan.width q.constants asks_start.1

    -- ---- the constants stored as row 0

    module _ {keys₁ : List ℤ} (stored : keys₁ ≡ paste keys (0 * plan.width) q.constants plan.width) where
      keys_are : keys₁ ≡ at_front (cells_of (start_of (atoms_of q))) keys
      unfolding at_front
      keys_are =
          stored
          ∙ rw zero-mul
          (stored_at_front [] keys q.constants plan.width asks_start.1 (rw zero-add one_row) ∙ ap (λ (c : List ℤ). at_front c keys) start_are)

      start_taken : take plan.width keys₁ ≡ cells_of (start_of (atoms_of q))
      start_taken = rw keys_are (at_front_cells (cells_of (start_of (atoms_of q))) keys plan.width start_width)

      keys_long : length keys₁ ≡ length keys
      keys_long = rw keys_are (at_front_length (cells_of (start_of (atoms_of q))) keys (rw start_width one_row))

      pub asks_filling : Filling plan sums keys₁ [] table
      asks_filling = record {
        task = question_task planned;
        notes_none = made.notes;
        tests_none = made.tests;
        ready = record {
          some_rows = some_rows;
          lent = record {
            few_rows = omega (arith, lent_rows, room_low q keys table);
            keys_room = omega (arith, keys_long, keys_room);
            path_room = path_fits made.notes plan.rows [];
          };
          start_fits = start_fits planned keys₁ start_taken;
          path_start = λ e. absurd (true≢false (sym e ∙ made.notes));
          refused = λ e. absurd (true≢false (sym e ∙ made.tests));
        };
        table_room = table_room;
      }

      pub question_built : {answer : Result Building Refusal} {keys₂ : List ℤ} {table₂ : List ℕ}
          → Builds (filled (machine plan sums keys₁) plan.rows keys₁ table) answer keys₂ table₂ → Builds (built_question q keys table) answer keys₂ table₂
      unfolding built_question
      question_built {answer} {keys₂} {table₂} b =
          let e : filled (machine plan sums keys₁) plan.rows keys₁ table ≡ built_of q (build_room q keys table) keys table =
          ap (λ (k : List ℤ). filled (machine plan sums keys₁) plan.rows k table) keys_are
          ∙ filled_question q (simulates planned start_taken) plan.rows some_rows (cells_of (start_of (atoms_of q))) (start_width ∙ width) keys (rw (← width) one_row) table
          ∙ ap (λ (r : ℕ). built_of q r keys table) lent_rows in
          subst (λ (z : Built). Builds z answer keys₂ table₂) e b

-- where no row is lent, nothing changes
pub nothing_built : (q : Question) (keys : List ℤ) (table : List ℕ) → 0 ≡ build_room q keys table
    → Builds (built_question q keys table) (Ok (Building.NoRoom 0)) keys table
unfolding built_question key_cells joined at_front
nothing_built q keys table is = rw (← is, without_room q 0 keys table (no_rows_more (machine_of q))) record { answer = refl; keys = refl; table = refl }

-- ---- from the bytes

module _ (bytes : List ℕ) (keys : List ℤ) (table : List ℕ) where
  pub refused_built : {r : Refusal} → read_held bytes ≡ Err r → Builds (built bytes keys table) (Err r) keys table
  unfolding built
  refused_built e = rw e record { answer = refl; keys = refl; table = refl }

  module _ {q : Question} (accepted : read_held bytes ≡ Ok q) where
    pub accepted_limits : WithinLimits q
    accepted_limits = subst (λ (a : Result Question Refusal). WithinLimits (question_held a)) accepted (accepted_within bytes (ap is_ok accepted))

    pub accepted_built : {answer : Result Building Refusal} {keys₁ : List ℤ} {table₁ : List ℕ}
        → Builds (built_question q keys table) answer keys₁ table₁ → Builds (built bytes keys table) answer keys₁ table₁
    unfolding built
    accepted_built b = rw accepted b
