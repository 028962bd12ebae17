-- What the program smt prints of a text: a text of at most 65,536 bytes is imported, and its question is decided in room for 8,191 states, for any m.
use Rattle.std.specs.Prelude.{ℕ, ◌≤◌, ◌≡◌, cond, List, length, take, replicate, leb, ℤ, pos, Ok, Err, Result}
use Rattle.scope.specs.declared.Refusal.{Refusal}
use Rattle.scope.specs.declared.Question.{Question}
use Rattle.scope.specs.Tree.{Tree, question_bytes, IsHeld}
use Rattle.scope.specs.Deciding.{Decided, decided}
use Rattle.smtlib.specs.Imported.{tree_of, imported}
use Rattle.smtlib.specs.Cases.{script_in, formula_in}
use Rattle.told.specs.Text.{ascii}
use Rattle.told.specs.Writers.{Put}
use Rattle.said.specs.Said.{error_line, said_of}
use Rattle.importing.specs.Given.{names_given}

abbrev pub most_text : ℕ
most_text = 65536

-- the areas that the program lends
abbrev pub solve_keys : List ℤ
solve_keys = replicate 65528 (pos 0)

abbrev pub solve_path : List ℕ
solve_path = replicate 16382 0

abbrev pub solve_word : List ℕ
solve_word = replicate 8191 0

-- an accepted text's question: its variables, its tree and its bytes
abbrev pub names_count : List ℕ → ℕ
names_count text = length (script_in text).declarations

abbrev pub text_tree : List ℕ → Tree
text_tree text = tree_of (names_count text) (formula_in text)

unfoldable pub text_bytes : List ℕ → List ℕ
text_bytes text = question_bytes (names_count text) (text_tree text)

-- what deciding gives in these areas
unfoldable pub solved_for : List ℕ → Decided
solved_for text = decided (text_bytes text) solve_keys solve_path solve_word

-- what is said of a question's bytes, once they are decided in these areas
unfoldable pub said_in : List ℕ → List ℕ → ℕ → List ℕ → List ℕ
said_in text names n bytes = let d = decided bytes solve_keys solve_path solve_word in said_of text names n d.answer d.word

-- what is said, by the import's answer
abbrev pub said_by : Result Question Refusal → List ℕ → List ℕ
said_by (Err r) text = error_line r
said_by (Ok q) text = said_of text (names_given text) q.n (solved_for text).answer (solved_for text).word

-- what is printed
unfoldable pub solved : List ℕ → List ℕ
solved text = cond (leb (length text) most_text) (said_by (imported text) text) (ascii "unknown\n")

-- what is said of a question's bytes is put at the front of the buffer
abbrev pub HeldSaid : List ℕ → List ℕ → Question → List ℕ → ℕ → List ℕ → Type 0
HeldSaid text names q before r after = (h : IsHeld q) → Put (said_in text names q.n (question_bytes h.n h.tree)) 0 before r after

-- the text stands at the front of the buffer
pub record Solved (text : List ℕ) (r : ℕ) (out : List ℕ) : Type 0 where
  pub ends : r ≡ length (solved text)
  pub printed : take r out ≡ solved text
  pub inside : r ≤ length out
