-- `words::says_yes` meets its contract. The invariant: the row is one of the table's, and the letters from i on lead from it where the word leads. Assumes nothing.
use Prim.Native.Nat.{◌+◌, ◌*◌, ◌<◌}
use native.Mathlib.Omega.{arith}
use mathlib.Core.Path.{◌≡◌, refl, sym, ◌∙◌}
use lib.ListN.{length, get_or}
use lib.Dec.{eqb}
use Rattle.scope.specs.Running.{table_rows, row_after, says_yes}
use Rattle.words.proofs.Tables.{TableWalk, walk, accept_within, next_within, next_row, row_step, row_last}
use Rattle.words.proofs.says_yes.Goals as goal
use Rattle.words.proofs.says_yes.Goals.{At-loop-letter, In-loop-letter}

-- what the loop leans on
at_loop :
    (c : goal.At-loop-letter) →
    TableWalk c.args.n c.table_width-width.result (table_rows c.args.n c.args.cells.now) c.args.cells.now c.args.word.now
at_loop c = walk c.requires c.table_width-width.ensures

inside :
    (c : goal.In-loop-letter) →
    c.loop-letter.row * c.table_width-width.result + 1 + get_or c.args.word.now c.loop-letter.letter-index 0 < length c.args.cells.now
inside c = next_within (walk c.requires c.table_width-width.ensures) c.loop-letter.row c.loop-letter.invariant.0 c.loop-letter.letter-index c.loop-letter-test.true

pub loop-letter-init : goal.loop-letter-init
loop-letter-init c = ((walk c.requires c.table_width-width.ensures).first, refl)

pub loop-letter-preserved : goal.loop-letter-preserved
loop-letter-preserved c =
    let p = goal.at.loop-letter-preserved c in
    let t = c.loop-letter-test.true in
    rw (c.from-row.ensures, c.from.ensures) (
      next_row (at_loop p.At-loop-letter) c.loop-letter.row c.loop-letter.invariant.0 c.loop-letter.letter-index t,
      sym (row_step (at_loop p.At-loop-letter) c.loop-letter.row c.loop-letter.invariant.0 c.loop-letter.letter-index t) ∙ c.loop-letter.invariant.1,
    )

pub returns : goal.returns
unfolding says_yes
returns c =
    let e : c.loop-letter.row ≡ row_after c.args.n c.args.cells.now 0 c.args.word.now =
    sym (row_last c.args.n c.args.cells.now c.args.word.now c.loop-letter.row c.loop-letter.letter-index (omega arith)) ∙ c.loop-letter.invariant.1 in
    λ k. eqb (get_or c.args.cells.now (e k * c.table_width-width.ensures k) 0) 1

pub overflow_add-row-in-loop-letter : goal.overflow_add-row-in-loop-letter
overflow_add-row-in-loop-letter c = omega (arith, inside (goal.at.overflow_add-row-in-loop-letter c).In-loop-letter)

pub offset_bounds-cells-row : goal.offset_bounds-cells-row
offset_bounds-cells-row c = omega (arith, inside (goal.at.offset_bounds-cells-row c).In-loop-letter)

pub bounds-cells-row : goal.bounds-cells-row
bounds-cells-row c = rw c.from.ensures (inside (goal.at.bounds-cells-row c).In-loop-letter)

pub bounds-cells-row-2 : goal.bounds-cells-row-2
bounds-cells-row-2 c = accept_within (at_loop (goal.at.bounds-cells-row-2 c).At-loop-letter) c.loop-letter.row c.loop-letter.invariant.0
