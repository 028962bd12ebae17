-- The words of the contracts below `form_at`: where a word starts, and what was read of it.
use Rattle.std.specs.Prelude.{ℕ, suc, ◌≤◌, ◌<◌, ◌≡◌, true, List, length, get_or}
use Rattle.smtlib.specs.Lexicon.{AtHand, apart, comment, skips, starts, is_digit, move_of}
use Rattle.smtlib.specs.Forms.{bare_of}
use Rattle.smtlib.specs.Terms.{most_numeral}
use Rattle.smtlib.specs.Imported.{spelt_from}
use Rattle.lexicon.specs.Spots.{stretch}
use Rattle.forms.specs.declared.Form.{Form}
use Rattle.forms.specs.Read.{NUMERAL, SYMBOL, OTHER, WordSays}
use Rattle.forms.specs.FirstBytes.{Afresh}
use Rattle.forms.specs.WordKinds.{Signed}
use Rattle.forms.specs.Blanks.{BlanksPast}
use Rattle.forms.specs.TokenEnds.{TokenEnds}

abbrev pub formed : (kind place from to value next : ℕ) → Form
formed kind place from to value next = record { kind = kind; place = place; from = from; to = to; value = value; next = next }

pub record BlankEnd (text : List ℕ) (at r : ℕ) : Type 0 where
  pub not_before : at ≤ r
  pub inside : r ≤ length text
  pub past : BlanksPast text at apart r
  pub no_blank : r < length text → (after : AtHand) → move_of apart (get_or text r 0) ≡ skips after → ⊥

pub record TokenEnd (text : List ℕ) (at : ℕ) (s : AtHand) (r : ℕ) : Type 0 where
  pub not_before : at ≤ r
  pub inside : r ≤ length text
  pub ends : (s ≡ comment → ⊥) → TokenEnds text at s r

-- by its first byte a word starts there, with this at hand behind it
pub record WordStarts (text : List ℕ) (place next : ℕ) (s : AtHand) : Type 0 where
  pub some_bytes : place < next
  pub inside : next ≤ length text
  pub first : Afresh (get_or text place 0) (starts s)

pub record NumeralStarts (text : List ℕ) (place next : ℕ) : Type 0 where
  pub some_bytes : place < next
  pub inside : next ≤ length text
  pub digit_there : is_digit (get_or text place 0) ≡ true

pub record SymbolStarts (text : List ℕ) (place next : ℕ) : Type 0 where
  pub some_bytes : place < next
  pub inside : next ≤ length text
  pub letter_there : Signed (get_or text place 0) true

pub record WordRead (text : List ℕ) (place next : ℕ) (f : Form) : Type 0 where
  pub place_is : f.place ≡ place
  pub next_is : f.next ≡ next
  pub is_word : NUMERAL ≤ f.kind
  pub kind_known : f.kind ≤ OTHER
  pub value_small : f.value ≤ suc most_numeral
  pub spelt_inside : (f.from ≤ f.to) × (f.to ≤ length text)
  pub spelt_from : f.kind ≡ SYMBOL → f.from ≡ spelt_from text place
  pub says : WordSays text f (bare_of (stretch text place next))
