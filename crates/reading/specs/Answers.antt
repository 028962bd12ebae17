-- What reading from a place answers: document 01's progress as the code hands it over.
use Rattle.std.specs.Prelude.{ℕ, ◌+◌, ◌≡◌, ⊤, List, Result, Ok, Err}
use Rattle.scope.specs.declared.Rule.{Rule}
use Rattle.scope.specs.declared.Question.{Question}
use Rattle.scope.specs.declared.Refusal.{Refusal}
use Rattle.scope.specs.Sizes.{most_nodes}
use Rattle.scope.specs.Question.{empty_question}
use Rattle.scope.specs.Refusals.{refusal, first_refusal, unless_refused, Progress, stopped, going, ended, onward}
use Rattle.scope.specs.Wire as wire
use Rattle.reading.specs.declared.ReadPart.{ReadPart}

-- the question, and the place after the end record
abbrev pub part_read : Progress wire.Reading wire.Ended → Result ReadPart Refusal
part_read (stopped r) = Err r
part_read (going s) = Err (refusal Rule.TooMany s.place)
part_read (ended e) = Ok (record { question = e.question; next = e.next })

-- what reading into a lent question says; refused, nothing of the question
abbrev pub FromSays : Progress wire.Reading wire.Ended → Result ℕ Refusal → Question → Type 0
FromSays p (Ok next) question = p ≡ ended (record { question = question; next = next })
FromSays p (Err r) question = p ≡ stopped r

abbrev pub HeldSays : Result Question Refusal → Result ⊤ Refusal → Question → Type 0
HeldSays h (Ok u) question = h ≡ Ok question
HeldSays h (Err r) question = h ≡ Err r

-- the question of which the head alone is read
abbrev pub headed : ℕ → Question
headed n = record { n = n; codes = empty_question.codes; coefficients = empty_question.coefficients; constants = empty_question.constants }

-- the formula, from the record after the head on
abbrev pub formula_read : List ℕ → ℕ → ℕ → Progress wire.Reading wire.Ended
formula_read b n place = onward (most_nodes + 1) (wire.record_read b) (going (record { question = headed n; shape = wire.unread; place = place }))

-- the end record: the place after it
abbrev pub end_answer : List ℕ → ℕ → Result ℕ Refusal
end_answer b at = unless_refused (first_refusal (wire.end_checks b at)) (at + 4)
