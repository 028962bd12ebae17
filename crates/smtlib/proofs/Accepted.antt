-- An accepted text: no fault, from one to six names, each with its sign assertion, some other assertion; and what is held of it is a question.
use Rattle.std.specs.Prelude.{◌≡◌, ℕ, ◌<◌, ◌≤◌, T, ltb, length, IsOk}
use Rattle.std.proofs.Common.{sym, ap, ◌∙◌, ltb-true}
use mathlib.Core.List.{List, [], ◌++◌, cons≢nil}
use Rattle.std.proofs.lemmas.List.{length-map}
use Rattle.scope.specs.Wire.{question_held}
use Rattle.scope.specs.declared.Question.{Question}
use Rattle.scope.specs.Sizes.{most_variables}
use Rattle.scope.specs.Tree.{within_limits, question_bytes, IsHeld}
use Rattle.scope.specs.Refusals.{ended}
use Rattle.scope.specs.Writing.{Walk, written}
use Rattle.theory.specs.Wire.Checks.{none_passed}
use Rattle.theory.specs.Trees.Written.{held_written}
use Rattle.smtlib.specs.Forms.{forms_of}
use Rattle.smtlib.specs.Formulas.{Clause}
use Rattle.smtlib.specs.Script.{unless, Stage, start, under, checked, Declaration, Script, unsigned, missing_forms, missing_names, all_outside, all_beyond}
use Rattle.smtlib.specs.Imported.{tree_of, imported}
use Rattle.smtlib.specs.Values.{append_none}
use Rattle.smtlib.specs.Steps.{unless_none}
use Rattle.smtlib.proofs.Scripts.{few_names}
use Rattle.smtlib.proofs.Rows.{script_six}
use Rattle.smtlib.specs.Within.{passed_within}
use Rattle.smtlib.specs.Accepted.{Faultless, declared_names}
use Rattle.smtlib.specs.Lowest.{faultless_exactly}
use Rattle.smtlib.specs.Cases.{script_in, formula_in, limit_checks, question_in, ImportAccepted, accepted_exactly, accepted_import}

-- ---- a script without faults

some_there : (n at : ℕ) → unless (ltb 0 n) at ≡ [] → 0 < n
some_there n at e = ltb-true 0 n (unless_none (ltb 0 n) at e)

none_missing : (stage : Stage) (end : ℕ) (cs : List Clause) (ds : List Declaration) → missing_forms stage end cs ≡ [] → missing_names stage ds ≡ []
    → (0 < length cs) × (0 < length ds)
none_missing start end cs ds e f = absurd (cons≢nil e)
none_missing under end cs ds e f = absurd (cons≢nil e)
none_missing (checked at) end cs ds e f = (some_there (length cs) at e, some_there (length ds) at f)

faultless : (end : ℕ) (s : Script) → all_outside end s ≡ [] → all_beyond s ≡ [] → Faultless s
unfolding all_outside all_beyond
faultless end s e f =
    let (o, m) = append_none s.outside (unsigned s.declarations ++ missing_forms s.stage end s.asserted) e in
    let (u, g) = append_none (unsigned s.declarations) (missing_forms s.stage end s.asserted) m in
    let (b, h) = append_none s.beyond (missing_names s.stage s.declarations) f in
    let there = none_missing s.stage end s.asserted s.declarations g h in
    record { outside = o; beyond = b; signed = u; asserted = there.0; named = there.1 }

-- ---- an accepted text

module _ (text : List ℕ) (accepted : IsOk (imported text)) where
  passes : ImportAccepted text
  passes = (accepted_exactly text).0 accepted

  pub accepted_faultless : Faultless (script_in text)
  accepted_faultless = let none = (faultless_exactly (length text) (script_in text)).0 passes.faultless in faultless (length text) (script_in text) none.0 none.1

  pub accepted_few : length (script_in text).declarations ≤ most_variables
  accepted_few = few_names (forms_of text) accepted_faultless.beyond

  pub accepted_question : (question_held (imported text)) ≡ question_in text
  accepted_question = ap question_held (accepted_import text passes)

  -- a variable for each name
  pub variables_names : (question_held (imported text)).n ≡ length (declared_names text)
  variables_names = ap (λ (q : Question). q.n) accepted_question ∙ sym (length-map (script_in text).declarations (λ (d : Declaration). d.name))

  pub accepted_within : let n = length (script_in text).declarations in T (within_limits n (tree_of n (formula_in text)))
  accepted_within =
      let n : ℕ = length (script_in text).declarations in
      passed_within n (formula_in text) accepted_faultless.named accepted_few (script_six (forms_of text)) (none_passed (limit_checks text) passes.small)

  pub imported_question : IsHeld (question_held (imported text))
  imported_question =
      let n : ℕ = length (script_in text).declarations in
      record { n = n; tree = tree_of n (formula_in text); within = accepted_within; held_is = accepted_question }

  -- so it is written, as the bytes of its tree
  pub imported_written : (w : Walk) × (written (question_held (imported text)) ≡ ended w) × (w.bytes ≡ question_bytes imported_question.n imported_question.tree)
  imported_written =
      let (w, e, b) = held_written imported_question.n imported_question.tree imported_question.within in
      (w, ap written imported_question.held_is ∙ e, b)
