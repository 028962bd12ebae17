-- `step::worth_cell` meets its contract: the tests are those of the definition. Assumes nothing.
use borrow.Author.Tests.{eq-eqb, ne_eqb}
use mir.Syntax.{w32}
use mir.ValLaws.{to_z-of_z}
use Rattle.step.proofs.Signed.{zero_bits}
use Rattle.step.proofs.worth_cell.Goals as goal

pub returns-then-kind-eq1 : goal.returns-then-kind-eq1
returns-then-kind-eq1 c =
    rw (eq-eqb c.args.kind 1 c.if-kind-eq1.true) (zero_bits c.args.cell c.ranges.cell)

pub returns-else-kind-eq1 : goal.returns-else-kind-eq1
returns-else-kind-eq1 c =
    rw (ne_eqb c.args.kind 1 c.if-kind-eq1.false, to_z-of_z w32 c.args.cell c.ranges.cell)
