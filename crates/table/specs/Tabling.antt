-- The second pass of building: every row stands in the key area. Its cells are the machine's state, and the row that has a target's cells is
-- the target's number.
use Rattle.std.specs.Prelude.{◌≡◌, false, Option, Some, None, IsSome, List, [], ℕ, ◌+◌, ◌*◌, ◌≤◌, ◌<◌, length, take, ℤ}
use Rattle.std.proofs.Math.Path.{refl}
use Rattle.std.proofs.Common.{sym, ap, ◌∙◌, arith}
use Rattle.scope.specs.Numbering.{Machine, row, numbered, number_of}
use Rattle.scope.specs.Sizes.{most_atoms}
use Rattle.theory.specs.Machine.NumberOf.{HasNumber, number_is, number_step}
use Rattle.theory.specs.Machine.Table.{numbered_rooted}
use Rattle.theory.specs.Machine.Simulation.{AllGood, good_at}
use Rattle.formula.specs.Truths.{truth_at}
use Rattle.step.specs.Cells.{step_cells, worth_cells}
use Rattle.index.specs.Rows.{row_at, row_end}
use Rattle.index.specs.Index.{Key, Finds}
use Rattle.plan.specs.declared.Plan.{Plan}
use Rattle.plan.specs.Machine.{machine, KeyRow, Task, machine_runs}
use Rattle.plan.specs.Loaded.{Loaded, Steps, key_accepts, steps, target_is}
use Rattle.explore.specs.Areas.{row_cells, path_rows, Held, held_row_lem}

-- row r of the first count rows has the key's cells; and one of them does
pub record KeyIn (keys : List ℤ) (width : ℕ) (key : List ℤ) (count r : ℕ) : Type 0 where
  pub below : r < count
  pub cells : row_at keys width r ≡ take width key

abbrev pub HasKey : List ℤ → ℕ → List ℤ → ℕ → Type 0
HasKey keys width key count = (r : ℕ) × KeyIn keys width key count r

-- so it is found
pub is_found : {keys : List ℤ} {width : ℕ} {key : List ℤ} {count : ℕ} (found : Option ℕ) → Finds keys width key count found → HasKey keys width key count → IsSome found
is_found (Some r) f h = refl
is_found None f h = absurd (f.says h.0 h.1.below h.1.cells)

-- the count rows at the front of the keys are all that the machine numbers
pub record AllThere (M : Machine (List ℤ)) (width count : ℕ) (keys : List ℤ) : Type 0 where
  pub size : length (numbered M count) ≡ count
  pub room : count * width ≤ length keys
  pub cells : take (count * width) keys ≡ row_cells (numbered M count)
  pub good : AllGood (KeyRow width) (numbered M count)

pub record Tabling (plan : Plan) (sums keys : List ℤ) (count : ℕ) : Type 0 where
  pub task : Task plan sums
  pub there : AllThere (machine plan sums keys) plan.width count keys

-- ---- a key row is a state

module _ {M : Machine (List ℤ)} {width count : ℕ} {keys : List ℤ} (a : AllThere M width count keys) where
  held : Held width false (numbered M count) count keys []
  unfolding path_rows
  held = record { count_is = a.size; keys_hold = a.cells; path_holds = refl }

  pub state_is : (t : ℕ) → t < count → row_at keys width t ≡ (row M (numbered M count) t).state
  state_is t h = held_row_lem M width held a.good t h

  state_fits : (t : ℕ) → t < count → KeyRow width (row M (numbered M count) t).state
  state_fits t h = good_at M a.good t (omega (arith, a.size))

-- ---- row s, and its cells as they are loaded

module _ {plan : Plan} {sums keys : List ℤ} {count : ℕ} (t : Tabling plan sums keys count) (s : ℕ) (below : s < count) where
  pub row_room : s * plan.width + plan.width ≤ length keys
  row_room = omega (arith, row_end s count plan.width below, t.there.room)

  module _ {from : List ℤ} (cells : take plan.width from ≡ row_at keys plan.width s) (key : Key plan.width from) where
    abbrev M : Machine (List ℤ)
    M = machine plan sums keys

    loaded : Loaded plan (row M (numbered M count) s).state from
    loaded = record { cells = cells ∙ state_is t.there s below; key = key }

    pub letter_steps : (letter : ℕ) → letter < plan.letters → Steps plan sums letter from
    letter_steps letter h = steps (machine_runs plan sums keys) t.task (state_fits t.there s below) loaded letter h

    -- the mark of the row
    pub mark_is : let M = machine plan sums keys in
        truth_at plan.truths (worth_cells plan.kinds from) ≡ M.accepts (row M (numbered M count) s).state
    mark_is = key_accepts (machine_runs plan sums keys) key ∙ ap M.accepts loaded.cells

    leads_to : (letter : ℕ) → take plan.width (step_cells plan.kinds most_atoms sums letter from) ≡ M.step (row M (numbered M count) s).state letter
    leads_to letter = target_is (machine_runs plan sums keys) t.task (state_fits t.there s below) loaded letter

    -- one of the rows has them
    pub target_there : (letter : ℕ) → letter < plan.letters → HasKey keys plan.width (step_cells plan.kinds most_atoms sums letter from) count
    target_there letter h =
        let run = machine_runs plan sums keys in
        let l = numbered M count in
        let p : s < length l = omega (arith, t.there.size) in
        let a : letter < M.letters = rw run.letters_are h in
        let n : HasNumber M l (M.step (row M l s).state letter) = number_step M run.lawful count s letter below p a in
        let u = number_of M l (M.step (row M l s).state letter) in
        let v : u < count = omega (arith, n.inside, t.there.size) in
        (u, record { below = v; cells = state_is t.there u v ∙ n.is ∙ sym (leads_to letter) })

    -- the row that has them is the target's number
    pub found_is : (letter r : ℕ) → KeyIn keys plan.width (step_cells plan.kinds most_atoms sums letter from) count r
        → let M = machine plan sums keys in
        r ≡ number_of M (numbered M count) (M.step (row M (numbered M count) s).state letter)
    found_is letter r f =
        let run = machine_runs plan sums keys in
        let l = numbered M count in
        let e : (row M l r).state ≡ M.step (row M l s).state letter = sym (state_is t.there r f.below) ∙ f.cells ∙ leads_to letter in
        let w : r < length l = omega (arith, t.there.size, f.below) in
        sym (number_is M run.lawful (numbered_rooted M run.lawful count) r w) ∙ ap (number_of M l) e
