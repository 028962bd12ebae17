-- Document 01, the end of "Checked by hand": what the asking program prints of an answer, byte by byte.
use Rattle.std.specs.Prelude.{ℕ, ◌≤◌, ◌≡◌, Bool, true, false, cond, List, [], ◌∷◌, ◌++◌, length, take, leb, eqb, Ok, Err, Result}
use Prim.Native.Char.{code}
use Prim.Native.String.{String}
use Rattle.scope.specs.declared.Decision.{Decision}
use Rattle.scope.specs.declared.Refusal.{Refusal}
use Rattle.scope.specs.Whole.{at_front}
use Rattle.scope.specs.Refusals.{rule_number}
use Rattle.scope.specs.Words.{Word, spelled, spelt}
use Rattle.told.specs.Decimal.{decimal}

-- ---- words, numbers and lines

-- the bytes of a text of ASCII
abbrev pub ascii : String → List ℕ
ascii String.[] = []
ascii (String.◌∷◌ c s) = code c ∷ ascii s

-- a number after a space, and a list of them
abbrev pub spaced : ℕ → List ℕ
spaced v = 32 ∷ decimal v

unfoldable pub numbers : List ℕ → List ℕ
numbers [] = []
numbers (v ∷ vs) = spaced v ++ numbers vs

-- a line is what it is about, what it says, and the line's end
abbrev pub line_of : List ℕ → List ℕ → List ℕ
line_of about said = about ++ (said ++ (10 ∷ []))

-- ---- the lines

-- a word that spelling refuses is long: the n and the letters of a found word fit, so it has more than 64 letters
abbrev pub values_by : Result ℕ Refusal → ℕ → Word → List ℕ
values_by (Ok v) n w = numbers (spelled n w)
values_by (Err r) n w = ascii " long"

abbrev pub values_said : ℕ → Word → List ℕ
values_said n w = values_by (spelt n 1 w) n w

abbrev pub values_line : ℕ → Word → List ℕ
values_line n w = line_of (ascii "values") (values_said n w)

-- the asking program's word buffer; no word of it is longer
abbrev pub told_letters : ℕ
told_letters = 1024

abbrev pub letters_said : Word → List ℕ
letters_said w = cond (eqb (length w) 0) (ascii " none") (cond (leb (length w) told_letters) (numbers w) (ascii " long"))

abbrev pub letters_line : Word → List ℕ
letters_line w = line_of (ascii "letters") (letters_said w)

abbrev pub states_line : ℕ → List ℕ
states_line states = line_of (ascii "states") (spaced states)

-- ---- the text of an answer

unfoldable pub found_text : ℕ → ℕ → Word → List ℕ
found_text n states w = line_of (ascii "verdict") (ascii " found") ++ (values_line n w ++ (letters_line w ++ states_line states))

-- found, and the word is not at hand; the asking program's word buffer is never too short
unfoldable pub short_text : ℕ → List ℕ
short_text states =
    line_of (ascii "verdict") (ascii " found") ++
    (line_of (ascii "values") (ascii " long") ++ (line_of (ascii "letters") (ascii " long") ++ states_line states))

unfoldable pub never_text : ℕ → List ℕ
never_text states = line_of (ascii "verdict") (ascii " never") ++ states_line states

unfoldable pub no_room_text : ℕ → List ℕ
no_room_text states = line_of (ascii "verdict") (ascii " no-room") ++ states_line states

unfoldable pub refused_text : Refusal → List ℕ
refused_text r = line_of (ascii "refused") (spaced (rule_number r.rule) ++ (ascii " at" ++ spaced r.place))

-- the word is at the front of its buffer
abbrev pub text_of : ℕ → Result Decision Refusal → List ℕ → List ℕ
text_of n (Ok (Decision.Found states letters)) word = found_text n states (take letters word)
text_of n (Ok (Decision.Never states)) word = never_text states
text_of n (Ok (Decision.NoRoom states)) word = no_room_text states
text_of n (Ok (Decision.Short states letters)) word = short_text states
text_of n (Err r) word = refused_text r

-- ---- telling: the bytes of the text, 0 where the buffer is too short for it, and the buffer afterwards

pub record Telling : Type 0 where
  pub answer : ℕ
  pub out : List ℕ

abbrev pub telling : ℕ → List ℕ → Telling
telling answer out = record { answer = answer; out = out }

-- whether the text has room comes first
abbrev pub told_if : Bool → List ℕ → List ℕ → Telling
told_if true text out = telling (length text) (at_front text out)
told_if false text out = telling 0 out

unfoldable pub told : ℕ → Result Decision Refusal → List ℕ → List ℕ → Telling
told n answer word out = let text = text_of n answer word in told_if (leb (length text) (length out)) text out

-- the bytes that have room for every text
abbrev pub longest : ℕ
longest = 4352

-- what telling leaves
pub record TextTells (n : ℕ) (answer : Result Decision Refusal) (word out : List ℕ) (r : ℕ) (after : List ℕ) : Type 0 where
  pub is : telling r after ≡ told n answer word out
  pub room : longest ≤ length out → length (text_of n answer word) ≤ length out
