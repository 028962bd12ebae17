-- Six coefficients in every atom.
use Rattle.std.specs.Prelude.{◌≡◌, length}
use Rattle.scope.specs.Sizes.{most_variables}
use Rattle.smtlib.specs.Formulas.{Formula, Clause}

abbrev pub RowsOfSix : Formula → Type 0
RowsOfSix (Formula.atom at κ row k) = length row ≡ most_variables
RowsOfSix (Formula.not at f) = RowsOfSix f
RowsOfSix (Formula.and at f g) = RowsOfSix f × RowsOfSix g
RowsOfSix (Formula.or at f g) = RowsOfSix f × RowsOfSix g

abbrev pub ClauseOfSix : Clause → Type 0
ClauseOfSix c = RowsOfSix c.formula
