-- `writing::checks::coefficients_clear` meets its contract: the rows from an atom on say whether all is clear.
use borrow.Author.Rules.{rules}
use native.Mathlib.Omega.{arith}
use mathlib.Core.Path.{◌≡◌, sym, ◌∙◌}
use mathlib.Core.Bool.{Bool}
use Prim.Native.Nat.{◌+◌, ◌-◌, ◌*◌, ◌≤◌}
use lib.ListN.{take, drop}
use Rattle.std.specs.List.{list_all}
use Rattle.scope.specs.Sizes.{most_variables}
use Rattle.writing.specs.Writes.{is_zero}
use Rattle.writing.proofs.Sweeps.{rows_again, rows_not, rows_whole}
use Rattle.writing.proofs.checks.coefficients_clear.Goals as goal
use Rattle.writing.proofs.checks.coefficients_clear.Goals.{After-row_clear, After-from-n}

few : (c : goal.After-from-n) → c.from-n.result ≤ most_variables
few c = omega (arith, c.from-n.ensures, c.requires.0)

-- the numbers behind the n in the atom's row
row_is : (c : goal.After-row_clear) (t : Bool) → c.row_clear.result ≡ t
    → list_all is_zero (take (most_variables - c.from-n.result) (drop (most_variables * c.loop-atom.atom + c.from-n.result) c.args.question.now.coefficients)) ≡ t
row_is c t e =
    let k : most_variables * c.loop-atom.atom + most_variables - (most_variables * c.loop-atom.atom + c.from-n.result) ≡ most_variables - c.from-n.result = omega arith in
    sym (rw k at c.row_clear.ensures) ∙ e

pub returns-then-not-row_clear : goal.returns-then-not-row_clear
returns-then-not-row_clear c =
    rw (← c.from-n.ensures)
    (rows_not c.from-n.result c.args.atoms c.args.question.now.coefficients (few (goal.at.returns-then-not-row_clear c).After-from-n) c.requires.1 (search rules) c.loop-atom.atom c.loop-atom.invariant (omega arith)
    (row_is (goal.at.returns-then-not-row_clear c).After-row_clear _ c.if-not-row_clear.true))

pub loop-atom-preserved : goal.loop-atom-preserved
loop-atom-preserved c =
    rows_again c.from-n.result c.args.atoms c.args.question.now.coefficients (few (goal.at.loop-atom-preserved c).After-from-n) c.requires.1 (search rules) c.loop-atom.atom c.loop-atom.invariant (omega arith)
    (row_is (goal.at.loop-atom-preserved c).After-row_clear _ c.if-not-row_clear.false)

pub returns : goal.returns
returns c =
    rw (← c.from-n.ensures)
    (c.row_clear-2.ensures
    ∙ rows_whole c.from-n.result c.args.atoms c.args.question.now.coefficients (few (goal.at.returns c).After-from-n) c.requires.1 (search rules) c.loop-atom.atom c.loop-atom.invariant (omega arith))
