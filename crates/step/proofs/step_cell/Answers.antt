-- `step::step_cell` meets its contract: its tests are those of `step_by`. Assumes nothing.
use mathlib.Core.Path.{◌≡◌, ◌∙◌}
use mathlib.Core.Bool.{Bool, true, false, not, ◌&&◌, ◌||◌}
use lib.Dec.{eqb}
use lib.IntN.{◌-ℤ◌}
use mir.Syntax.{w32}
use mir.ValLaws.{to_z-of_z}
use Rattle.scope.specs.Whole.{eq_z, even, half}
use Rattle.scope.specs.States.{dead_cell}
use Rattle.theory.specs.Numbers.Bits.{read}
use Rattle.step.specs.Cells.{live_part}
use Rattle.step.proofs.Signed.{live_small, step_by}
use Rattle.step.proofs.step_cell.Goals as goal
use Rattle.step.proofs.step_cell.Goals.{After-is_dead, After-live_part-live}

lives : (c : goal.After-live_part-live) → c.live_part-live.result ≡ live_part c.args.cell
lives c = simp (to_z-of_z, c.ranges.cell) at c.live_part-live.ensures

pub floor_half-half-requires : goal.floor_half-half-requires
floor_half-half-requires c =
    rw (read _ c.live_part-live.type_inv, to_z-of_z w32 c.args.sum c.ranges.sum, lives c) (live_small c.args.cell c.requires.0, c.requires.1)

pub is_odd-odd-requires : goal.is_odd-odd-requires
is_odd-odd-requires c =
    rw (read _ c.live_part-live.type_inv, to_z-of_z w32 c.args.sum c.ranges.sum, lives (goal.at.is_odd-odd-requires c).After-live_part-live)
    (live_small c.args.cell c.requires.0, c.requires.1)

-- what the test says
test : (c : goal.After-is_dead) (t : Bool)
    → c.live_part-live.result ≡ live_part c.args.cell
    → (c.is_dead.result || (eqb c.args.kind 1 && c.is_odd-odd.result)) ≡ t
    → (eq_z c.args.cell dead_cell || (eqb c.args.kind 1 && not (even (live_part c.args.cell -ℤ c.args.sum)))) ≡ t
test c t live h =
    let d : c.is_dead.result ≡ eq_z c.args.cell dead_cell = simp (to_z-of_z, c.ranges.cell) at c.is_dead.ensures in
    let o : c.is_odd-odd.result ≡ not (even (live_part c.args.cell -ℤ c.args.sum)) =
    rw (read c.live_part-live.result c.live_part-live.type_inv, to_z-of_z w32 c.args.sum c.ranges.sum, live) at c.is_odd-odd.ensures in
    rw (d, o) at h

pub returns-then-is_dead-kind : goal.returns-then-is_dead-kind
returns-then-is_dead-kind c =
    let at = goal.at.returns-then-is_dead-kind c in
    rw (test at.After-is_dead true (lives at.After-live_part-live) c.if-is_dead-kind.true) at (step_by c.args.kind c.args.cell c.args.sum)

pub returns-else-is_dead-kind : goal.returns-else-is_dead-kind
returns-else-is_dead-kind c =
    let at = goal.at.returns-else-is_dead-kind c in
    let live = lives at.After-live_part-live in
    let halved : c.floor_half-half.result ≡ half (live_part c.args.cell -ℤ c.args.sum) =
    rw (read c.live_part-live.result c.live_part-live.type_inv, to_z-of_z w32 c.args.sum c.ranges.sum, live) at c.floor_half-half.ensures in
    read c.floor_half-half.result c.floor_half-half.type_inv ∙ halved
    ∙ rw (test at.After-is_dead false live c.if-is_dead-kind.false) at (step_by c.args.kind c.args.cell c.args.sum)
