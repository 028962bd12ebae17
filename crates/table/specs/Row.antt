-- A row of the table as it is written, cell by cell: its mark, then the next state for each letter in order.
use Rattle.std.specs.Prelude.{◌≡◌, refl, Bool, cond, List, [], ◌∷◌, ℕ, ◌+◌, ◌≤◌, ◌<◌, length, take, set, ℤ}
use Rattle.std.proofs.Common.{sym, ap, ◌∙◌, arith, length-set, take_all}
use Rattle.scope.specs.Numbering.{Machine, row, numbered}
use Rattle.scope.specs.Building.{table_row}
use Rattle.scope.specs.Sizes.{most_atoms}
use Rattle.formula.specs.Truths.{truth_at}
use Rattle.step.specs.Cells.{step_cells, worth_cells}
use Rattle.index.specs.Rows.{row_at}
use Rattle.index.specs.Index.{Key}
use Rattle.plan.specs.declared.Plan.{Plan}
use Rattle.plan.specs.Machine.{machine, machine_runs}
use Rattle.table.specs.Front.{marked_row, marked_none, marked_next, marked_row_lem, front_set}
use Rattle.table.specs.Tabling.{KeyIn, Tabling, mark_is, found_is}

-- row s of the table
abbrev pub table_row_of : Plan → List ℤ → List ℤ → ℕ → ℕ → List ℕ
table_row_of plan sums keys count s =
    let M = machine plan sums keys in
    let l = numbered M count in
    table_row M l (row M l s)

-- its mark and the next states of the first a letters are written
pub record Begun (plan : Plan) (sums keys : List ℤ) (count s a : ℕ) (part : List ℕ) : Type 0 where
  pub low : a ≤ plan.letters
  pub size : length part ≡ 1 + plan.letters
  pub cells : let M = machine plan sums keys in
      take (1 + a) part ≡ marked_row M (numbered M count) (row M (numbered M count) s).state a

module _ {plan : Plan} {sums keys : List ℤ} {count : ℕ} (t : Tabling plan sums keys count) (s : ℕ) (below : s < count) where
  abbrev M : Machine (List ℤ)
  M = machine plan sums keys

  module _ {from : List ℤ} (loaded : take plan.width from ≡ row_at keys plan.width s) (key : Key plan.width from) where
    pub mark_written : (part : List ℕ) (v : ℕ) (b : Bool) → length part ≡ 1 + plan.letters → v ≡ cond b 1 0
        → b ≡ truth_at plan.truths (worth_cells plan.kinds from) → Begun plan sums keys count s 0 (set part 0 v)
    mark_written part v b size e f = record {
      low = omega arith;
      size = rw length-set size;
      cells =
          let some : 0 < length part = omega arith in
          front_set part [] 0 v some refl
          ∙ ap (λ (w : ℕ). w ∷ []) (e ∙ ap (λ b. cond b 1 0) (f ∙ mark_is t s below loaded key))
          ∙ sym (marked_none M (numbered M count) (row M (numbered M count) s).state);
    }

    pub next_written : {a : ℕ} {part : List ℕ} → a < plan.letters → Begun plan sums keys count s a part
        → (v : ℕ) → KeyIn keys plan.width (step_cells plan.kinds most_atoms sums a from) count v → Begun plan sums keys count s (a + 1) (set part (1 + a) v)
    next_written {a} {part} h g v f = record {
      low = omega arith;
      size = rw length-set g.size;
      cells =
          let e : 1 + (a + 1) ≡ 1 + a + 1 = omega arith in
          let i : 1 + a < length part = omega (arith, g.size) in
          rw (e, marked_next M (numbered M count) (row M (numbered M count) s).state a, ← found_is t s below loaded key a v f)
          (front_set part _ (1 + a) v i g.cells);
    }

  pub row_written : {a : ℕ} {part : List ℕ} → plan.letters ≤ a → Begun plan sums keys count s a part → part ≡ table_row_of plan sums keys count s
  row_written {a} {part} h g =
      let e : a ≡ plan.letters = omega (arith, g.low) in
      let n : length part ≤ 1 + a = omega (arith, g.size) in
      sym (take_all (1 + a) part n)
      ∙ g.cells
      ∙ ap (marked_row M (numbered M count) (row M (numbered M count) s).state) (e ∙ sym (machine_runs plan sums keys).letters_are)
      ∙ marked_row_lem M (numbered M count) (row M (numbered M count) s)
