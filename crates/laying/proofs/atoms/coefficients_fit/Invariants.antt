use mathlib.Core.Path.{◌≡◌}
use lib.ListN.{drop}
use Rattle.scope.specs.Sizes.{coefficient_fits}
use Rattle.std.specs.List.{list_all}
use Rattle.laying.proofs.atoms.coefficients_fit.Given as goal

abbrev pub invariant-loop-i : goal.invariant-loop-i
invariant-loop-i l = list_all coefficient_fits (drop l.i l.numbers) ≡ list_all coefficient_fits (drop 1 l.numbers)
