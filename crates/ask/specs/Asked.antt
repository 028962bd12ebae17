-- Document 01, the end of "Checked by hand": the asking program has room for 1,024 states, for any m, and 1,024 letters.
use Rattle.std.specs.Prelude.{ℕ, ◌≤◌, ◌≡◌, List, length, take, replicate, ℤ, pos}
use Rattle.scope.specs.Wire.{read_held, question_held}
use Rattle.scope.specs.Deciding.{Decided, decided}
use Rattle.told.specs.Text.{text_of}

-- the n of a question; 0 where it is refused
unfoldable pub variables : List ℕ → ℕ
variables bytes = (question_held (read_held bytes)).n

-- the areas that the program lends
abbrev pub key_area : List ℤ
key_area = replicate 8192 (pos 0)

abbrev pub path_area : List ℕ
path_area = replicate 2048 0

abbrev pub word_area : List ℕ
word_area = replicate 1024 0

-- what deciding gives in them
unfoldable pub decided_for : List ℕ → Decided
decided_for bytes = decided bytes key_area path_area word_area

-- what is printed
unfoldable pub asked : List ℕ → List ℕ
asked bytes = text_of (variables bytes) (decided_for bytes).answer (decided_for bytes).word

-- the text stands at the front of the buffer
pub record Asked (bytes : List ℕ) (r : ℕ) (out : List ℕ) : Type 0 where
  pub ends : r ≡ length (asked bytes)
  pub text : take r out ≡ asked bytes
  pub within : r ≤ length out
