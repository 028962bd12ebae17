-- Texts, and what the program smt prints of them.
use Rattle.std.specs.Prelude.{ℕ, ◌≡◌, refl, List}
use Rattle.scope.specs.Outcomes.{running}
use Rattle.scope.specs.Tree.{question_bytes}
use Rattle.smtlib.specs.Imported.{bounds_of}
use Rattle.smtlib.specs.Running.{importing}
use Rattle.told.specs.Decimal.{leading, decimal}
use Rattle.told.specs.Text.{ascii}
use Rattle.said.specs.Said.{define_lines}
use Rattle.smt.specs.Solved.{text_bytes, solved_for, solved}

abbrev twice : List ℕ
twice = ascii "(set-logic QF_LIA)(declare-const |x y| Int)(assert (>= |x y| 0))(assert (= (* 2 |x y|) 6))(check-sat)"

abbrev odd : List ℕ
odd = ascii "(set-logic QF_LIA)(declare-const x Int)(assert (>= x 0))(assert (= (* 2 x) 7))(check-sat)"

twice_prints : solved twice ≡ ascii "sat\n(\n(define-fun |x y| () Int 3)\n)\n"
unfolding running importing question_bytes bounds_of leading decimal define_lines text_bytes solved_for solved
twice_prints = refl

odd_prints : solved odd ≡ ascii "unsat\n"
unfolding running importing question_bytes bounds_of leading decimal define_lines text_bytes solved_for solved
odd_prints = refl

no_text_prints : solved (ascii "") ≡ ascii "(error \"15 at 0\")\n"
unfolding running importing question_bytes bounds_of leading decimal define_lines text_bytes solved_for solved
no_text_prints = refl
