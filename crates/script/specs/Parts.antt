-- The parts of a list, as the code reads them.
use Rattle.std.specs.Prelude.{ℕ, suc, ◌≤◌, ◌<◌, ◌≡◌, cond, List, [], ◌∷◌, eqb, length}
use Rattle.std.proofs.Common.{arith}
use Rattle.std.proofs.Math.Decide.{dec_lt}
use Rattle.std.proofs.Math.Logic.{by_cases}
use Rattle.smtlib.specs.Forms.{Bare, numeral, symbol, reserved, other_word, nothing, bare_of}
use Rattle.smtlib.specs.Script.{Part}
use Rattle.smtlib.specs.Imported.{spelt_from}
use Rattle.lexicon.specs.Spots.{stretch}
use Rattle.forms.specs.declared.Form.{Form}
use Rattle.forms.specs.Places.{forms_at, Unbroken}
use Rattle.forms.specs.Read.{OPEN, NUMERAL, SYMBOL, RESERVED, OTHER, clipped, FormReads}
use Rattle.script.specs.declared.Parts.{Parts}

-- ---- inside a list

pub record ListHere (text : List ℕ) (at : ℕ) : Type 0 where
  pub depth : ℕ
  pub here : at ≤ length text
  pub unbroken : Unbroken text at (suc depth)

-- ---- a form that was read

-- its word: a list is none of interest
abbrev pub word_in : List ℕ → Form → Bare
word_in text f = cond (eqb f.kind OPEN) other_word (bare_of (stretch text f.place f.next))

abbrev pub part_in : List ℕ → Form → Part
part_in text f = record { place = f.place; word = word_in text f }

-- which word it is, by its kind
pub data WordIs (text : List ℕ) (f : Form) : Bare → Type 0 where
  list_here : f.kind ≡ OPEN → WordIs text f other_word
  numeral_here : f.kind ≡ NUMERAL → (v : ℕ) → f.value ≡ clipped v → WordIs text f (numeral v)
  symbol_here : f.kind ≡ SYMBOL → WordIs text f (symbol (stretch text f.from f.to))
  reserved_here : f.kind ≡ RESERVED → WordIs text f (reserved (stretch text f.from f.to))
  other_here : f.kind ≡ OTHER → WordIs text f other_word

pub record PartSays (text : List ℕ) (f : Form) : Type 0 where
  pub word_is : WordIs text f (word_in text f)
  pub spelt_inside : (f.from ≤ f.to) × (f.to ≤ length text)
  pub spelt_from : f.kind ≡ SYMBOL → f.from ≡ spelt_from text f.place

-- ---- none, one, two, three, or four and more

pub data PartsAre (text : List ℕ) (p : Parts) : List Part → Type 0 where
  no_part : p ≡ Parts.Zero → PartsAre text p []
  one_part : (f : Form) → p ≡ Parts.One f → PartSays text f → PartsAre text p (part_in text f ∷ [])
  two_parts : (f g : Form) → p ≡ Parts.Two f g → PartSays text f → PartSays text g → PartsAre text p (part_in text f ∷ part_in text g ∷ [])
  three_parts : (f g h : Form) → p ≡ Parts.Three f g h → PartSays text f → PartSays text g → PartSays text h
      → PartsAre text p (part_in text f ∷ part_in text g ∷ part_in text h ∷ [])
  more_parts : p ≡ Parts.More → (a b c d : Part) (rest : List Part) → PartsAre text p (a ∷ b ∷ c ∷ d ∷ rest)

-- ---- no form where the list or the text ends

module _ (text : List ℕ) (at depth : ℕ) (f : Form) (reads : FormReads text at f) (u : Unbroken text at depth) where
  pub nothing_more : f.kind < OPEN → forms_at text at ≡ nothing
  unfolding FormReads
  nothing_more h = by_cases (dec_lt f.kind 1)
      (λ p. ((reads depth u).end (omega arith)).forms)
      (λ p. ((reads depth u).close (omega arith)).forms)
