-- `path::write_word` meets its contract. The invariant: the buffer with state t's word put at its front is the buffer that is asked for.
-- The measure is t, since each state is numbered from one before it.
use mathlib.Core.Path.{◌≡◌, sym, ap, ◌∙◌}
use mathlib.Core.List.{[]}
use native.Mathlib.Omega.{arith}
use lib.ListN.{length-set}
use Rattle.path.specs.Path.{path_word, PathStep, path_start, path_step, letter_stored, no_letters}
use Rattle.path.proofs.write_word.Goals as goal
use Rattle.path.proofs.write_word.Goals.{In-loop-t}

step : (c : goal.In-loop-t) → PathStep c.args.path.now c.loop-t.t
step c = path_step c.requires.path_linked c.loop-t.t (omega arith) c.loop-t.invariant.0

pub overflow_sub-left : goal.overflow_sub-left
overflow_sub-left c = omega (arith, step c)

pub overflow_cast-word : goal.overflow_cast-word
overflow_cast-word c = omega (arith, step (goal.at.overflow_cast-word c).In-loop-t)

pub bounds-word-left : goal.bounds-word-left
bounds-word-left c = omega (arith, step (goal.at.bounds-word-left c).In-loop-t)

pub loop-t-smaller : goal.loop-t-smaller
loop-t-smaller c = omega (arith, c.from-t.ensures, step (goal.at.loop-t-smaller c).In-loop-t)

pub loop-t-preserved : goal.loop-t-preserved
loop-t-preserved c =
    let inv = c.loop-t.invariant in
    let st = step (goal.at.loop-t-preserved c).In-loop-t in
    rw c.from-t.ensures (
      omega arith,
      omega arith,
      omega arith,
      rw length-set inv.3,
      letter_stored st c.loop-t.left c.loop-t.word inv.1 (omega arith) ∙ inv.4,
    )

pub returns : goal.returns
returns c =
    let path = c.args.path.now in
    let e : path_word path c.loop-t.t ≡ [] = ap (path_word path) c.loop-t-test.false ∙ path_start path in
    sym (no_letters c.loop-t.word) ∙ (rw e at c.loop-t.invariant.4)
