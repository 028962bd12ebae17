-- Document 01, of judging: a question's bytes, read first, and a tuple of values.
use Rattle.std.specs.Prelude.{ℕ, Bool, List, [], ◌∷◌, length, leb, eqb, Ok, Err, Result}
use Rattle.scope.specs.declared.Refusal.{Refusal}
use Rattle.scope.specs.declared.Rule.{Rule}
use Rattle.scope.specs.declared.Question.{Question}
use Rattle.std.specs.List.{list_all}
use Rattle.scope.specs.Sizes.{most_value}
use Rattle.scope.specs.Refusals.{Check, check, first_refusal, unless_refused}
use Rattle.scope.specs.Wire.{read_held}
use Rattle.scope.specs.States.{satisfied}

-- the number of values, then each value
abbrev pub judge_checks : Question → List ℕ → List Check
judge_checks q values = check Rule.Values 0 (eqb (length values) q.n) ∷ check Rule.Values 0 (list_all (λ v. leb v most_value) values) ∷ []

unfoldable pub judged_question : Question → List ℕ → Result Bool Refusal
judged_question q values = unless_refused (first_refusal (judge_checks q values)) (satisfied q values)

abbrev pub judged_by : Result Question Refusal → List ℕ → Result Bool Refusal
judged_by (Ok q) values = judged_question q values
judged_by (Err r) values = Err r

unfoldable pub judged : List ℕ → List ℕ → Result Bool Refusal
judged bytes values = judged_by (read_held bytes) values
