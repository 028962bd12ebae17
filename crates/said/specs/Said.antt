-- What the program smt prints of an answer, byte by byte, as other solvers print it: sat, unsat or unknown; behind sat a value for each name, in the order declared.
use Rattle.std.specs.Prelude.{ℕ, suc, ◌+◌, ◌*◌, ◌-◌, ◌≤◌, Bool, false, cond, List, [], ◌∷◌, ◌++◌, length, get_or, take, drop, eqb, Ok, Err, Result}
use Rattle.scope.specs.declared.Rule.{Rule}
use Rattle.scope.specs.declared.Decision.{Decision}
use Rattle.scope.specs.declared.Refusal.{Refusal}
use Rattle.scope.specs.Refusals.{rule_number, refusal}
use Rattle.scope.specs.Words.{Word, spelled, spelt}
use Rattle.told.specs.Decimal.{decimal}
use Rattle.told.specs.Text.{ascii, spaced}

-- ---- a name as the text has it: with its bars, where it has bars. It is spelt from a place up to another.

abbrev pub barred : List ℕ → ℕ → Bool
barred text from = cond (eqb from 0) false (eqb (get_or text (from - 1) 0) 124)

abbrev pub name_said : List ℕ → ℕ → ℕ → List ℕ
name_said text from to = let spelling = take (to - from) (drop from text) in cond (barred text from) (124 ∷ (spelling ++ (124 ∷ []))) spelling

-- ---- a value for each name

abbrev pub define_line : List ℕ → ℕ → List ℕ
define_line name v = ascii "(define-fun " ++ (name ++ (ascii " () Int" ++ (spaced v ++ ascii ")\n")))

-- the values of the names from name i on, whose bounds are two for each name
unfoldable pub define_lines : List ℕ → List ℕ → ℕ → List ℕ → List ℕ
define_lines text bounds i [] = []
define_lines text bounds i (v ∷ vs) = define_line (name_said text (get_or bounds (2 * i) 0) (get_or bounds (2 * i + 1) 0)) v ++ define_lines text bounds (suc i) vs

abbrev pub error_line : Refusal → List ℕ
error_line r = ascii "(error \"" ++ (decimal (rule_number r.rule) ++ (ascii " at" ++ (spaced r.place ++ ascii "\")\n")))

abbrev pub model_lines : List ℕ → List ℕ → ℕ → Word → List ℕ
model_lines text bounds n w = ascii "(\n" ++ (define_lines text bounds 0 (spelled n w) ++ ascii ")\n")

-- values that spelling refuses are told by its refusal
abbrev pub model_by : Result ℕ Refusal → List ℕ → List ℕ → ℕ → Word → List ℕ
model_by (Ok v) text bounds n w = model_lines text bounds n w
model_by (Err r) text bounds n w = error_line r

abbrev pub model_said : List ℕ → List ℕ → ℕ → Word → List ℕ
model_said text bounds n w = model_by (spelt n 1 w) text bounds n w

-- ---- the whole, for n names; the word is at the front of its buffer

abbrev pub sat_said : List ℕ → List ℕ → ℕ → Word → List ℕ
sat_said text bounds n w = ascii "sat\n" ++ model_said text bounds n w

-- found, and the word buffer was too short for the word
abbrev pub short_said : List ℕ
short_said = ascii "sat\n" ++ error_line (refusal Rule.TooShort 0)

abbrev pub said_of : List ℕ → List ℕ → ℕ → Result Decision Refusal → List ℕ → List ℕ
said_of text bounds n (Ok (Decision.Found states letters)) word = sat_said text bounds n (take letters word)
said_of text bounds n (Ok (Decision.Never states)) word = ascii "unsat\n"
said_of text bounds n (Ok (Decision.NoRoom states)) word = ascii "unknown\n"
said_of text bounds n (Ok (Decision.Short states letters)) word = short_said
said_of text bounds n (Err r) word = error_line r

-- ---- room for all that is said of a text of so many bytes

abbrev pub say_room : ℕ → ℕ
say_room bytes = 6 * (bytes + 64) + 72

-- two bounds for each name
pub record BoundsStand (bounds : List ℕ) (n : ℕ) : Type 0 where
  pub at_most_six : n ≤ 6
  pub room : 2 * n ≤ length bounds
