-- Document 01, "Bound": a number that the reachable states do not pass.
use Rattle.std.specs.Prelude.{ℕ, suc, ◌+◌, ◌*◌, List, [], ◌∷◌, ℤ, pos, negsuc, neg_ℤ, nat_abs, ◌-ℤ◌}
use Rattle.scope.specs.declared.Question.{Question}
use Rattle.scope.specs.Whole.{min_z, max_z}
use Rattle.scope.specs.Question.{Kind, equation, at_most, Atom, atoms_of}

-- P and N: the sums of the positive coefficients, and of the negative ones without sign
unfoldable pub positives : List ℤ → ℕ
positives [] = 0
positives (pos a ∷ cs) = a + positives cs
positives (negsuc a ∷ cs) = positives cs

unfoldable pub negatives : List ℤ → ℕ
negatives [] = 0
negatives (pos a ∷ cs) = negatives cs
negatives (negsuc a ∷ cs) = suc a + negatives cs

unfoldable pub lowest : Atom → ℤ
lowest a = min_z a.constant (neg_ℤ (pos (positives a.coefficients)))

unfoldable pub highest : Atom → ℤ
highest a = max_z a.constant (pos (negatives a.coefficients))

-- one more for an equation, which can be dead
abbrev pub deads : Kind → ℕ
deads equation = 1
deads at_most = 0

unfoldable pub entry_count : Atom → ℕ
entry_count a = nat_abs (highest a -ℤ lowest a) + 1 + deads a.kind

unfoldable pub product : List Atom → ℕ
product [] = 1
product (a ∷ ats) = entry_count a * product ats

unfoldable pub bound : Question → ℕ
bound q = product (atoms_of q)
