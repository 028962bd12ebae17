-- `plan::repeats` meets its contract: the earlier letter's row of sums is compared. Assumes nothing.
use mathlib.Core.Path.{sym}
use mathlib.Core.Bool.{true≢false}
use Rattle.plan.proofs.repeats.Goals as goal

pub returns-then-lead-letter : goal.returns-then-lead-letter
returns-then-lead-letter c e = (c.if-lead-letter.true, rw e at c.same_row.ensures)

pub returns : goal.returns
returns c e = absurd (true≢false (sym e))
