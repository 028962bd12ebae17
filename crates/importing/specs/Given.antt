-- What an import gives: the held question, and the bounds of the names, in the order declared and zeros behind them; or the refusal.
use Rattle.std.specs.Prelude.{◌≡◌, refl, ℕ, ◌*◌, List, replicate, Ok, Err, Result}
use Rattle.scope.specs.declared.Question.{Question}
use Rattle.scope.specs.declared.Refusal.{Refusal}
use Rattle.scope.specs.Whole.{at_front}
use Rattle.scope.specs.Sizes.{most_variables}
use Rattle.smtlib.specs.Forms.{forms_of}
use Rattle.smtlib.specs.Script.{script_of}
use Rattle.smtlib.specs.Imported.{bounds_of, imported}
use Rattle.importing.specs.declared.answer.Import.{Import}

abbrev pub names_given : List ℕ → List ℕ
names_given text = at_front (bounds_of text (script_of (forms_of text)).declarations) (replicate (2 * most_variables) 0)

abbrev pub given_by : Result Question Refusal → List ℕ → Result Import Refusal
given_by (Ok q) text = Ok (record { question = q; names = names_given text })
given_by (Err r) text = Err r

unfoldable pub import_given : List ℕ → Result Import Refusal
import_given text = given_by (imported text) text

-- the question alone, or the refusal
abbrev pub question_given : Result Import Refusal → Result Question Refusal
question_given (Ok i) = Ok i.question
question_given (Err r) = Err r

pub given_is : (a : Result Question Refusal) (text : List ℕ) → question_given (given_by a text) ≡ a
given_is (Ok q) text = refl
given_is (Err r) text = refl
