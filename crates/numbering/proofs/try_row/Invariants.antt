use mathlib.Core.Path.{◌≡◌}
use lib.ListN.{length}
use Rattle.plan.specs.Machine.{machine}
use Rattle.numbering.proofs.Going.{InRow, left}
use Rattle.numbering.proofs.try_row.Given as goal

abbrev pub invariant-loop-s : goal.invariant-loop-s
invariant-loop-s l =
    (length l.keys ≡ length l.initial.keys) × (length l.path ≡ length l.initial.path) × (length l.links ≡ length l.initial.links)
    × InRow (machine l.plan l.sums l.initial.keys) l.plan l.initial.s l.initial.keys l.initial.path l.keys l.path l.links l.s

abbrev pub decreases-loop-s : goal.decreases-loop-s
decreases-loop-s l = left l.plan.rows l.s
