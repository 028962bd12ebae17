-- `path::word_length` meets its contract. The invariant: the letters counted and those of state t's word are the letters of the word.
-- The measure is t, since each state is numbered from one before it.
use mathlib.Core.Path.{ap, ◌∙◌}
use native.Mathlib.Omega.{arith}
use lib.ListN.{length}
use Rattle.path.specs.Path.{path_word, PathStep, path_start, path_step, path_word_short}
use Rattle.path.proofs.word_length.Goals as goal
use Rattle.path.proofs.word_length.Goals.{In-loop-t}

step : (c : goal.In-loop-t) → PathStep c.args.path.now c.loop-t.t
step c = path_step c.requires c.loop-t.t (omega arith) c.loop-t.invariant.0

pub overflow_add-letters : goal.overflow_add-letters
overflow_add-letters c = omega (arith, step (goal.at.overflow_add-letters c).In-loop-t, path_word_short c.requires, c.ranges.state)

pub loop-t-smaller : goal.loop-t-smaller
loop-t-smaller c = omega (arith, c.from-t.ensures, step (goal.at.loop-t-smaller c).In-loop-t)

pub loop-t-preserved : goal.loop-t-preserved
loop-t-preserved c = rw c.from-t.ensures (omega (arith, step (goal.at.loop-t-preserved c).In-loop-t))

pub returns : goal.returns
returns c =
    let path = c.args.path.now in
    omega (arith, ap length (ap (path_word path) c.loop-t-test.false ∙ path_start path))
