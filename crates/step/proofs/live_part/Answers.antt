-- `step::live_part` meets its contract. Assumes nothing.
use mathlib.Core.Path.{◌≡◌, ◌∙◌, sym}
use mathlib.Core.Bool.{true, false}
use mir.Syntax.{w32}
use mir.ValLaws.{to_z-of_z}
use Rattle.scope.specs.Whole.{eq_z}
use Rattle.scope.specs.States.{dead_cell}
use Rattle.step.proofs.live_part.Goals as goal

pub returns-then-is_dead : goal.returns-then-is_dead
returns-then-is_dead c =
    let e : eq_z c.args.cell dead_cell ≡ true = sym (simp (to_z-of_z, c.ranges.cell) at c.is_dead.ensures) ∙ c.if-is_dead.true in
    rw e

pub returns-else-is_dead : goal.returns-else-is_dead
returns-else-is_dead c =
    let e : eq_z c.args.cell dead_cell ≡ false = sym (simp (to_z-of_z, c.ranges.cell) at c.is_dead.ensures) ∙ c.if-is_dead.false in
    rw e (to_z-of_z w32 _ c.ranges.cell)
