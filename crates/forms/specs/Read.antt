-- What a form that was read says of the text: the forms from the place on where it was looked for.
use Rattle.std.specs.Prelude.{ℕ, suc, ◌-◌, ◌≤◌, ◌<◌, ◌≡◌, cond, List, leb, length}
use Rattle.smtlib.specs.Lexicon.{most_nesting}
use Rattle.smtlib.specs.Forms.{Bare, numeral, symbol, reserved, other_word, Forms, nothing, word, list, bare_of, outermost}
use Rattle.smtlib.specs.Terms.{most_numeral}
use Rattle.smtlib.specs.Imported.{spelt_from}
use Rattle.forms.specs.declared.Form.{Form}
use Rattle.lexicon.specs.Spots.{stretch}
use Rattle.forms.specs.Places.{levels_at, forms_at, outer, around, Unbroken}

abbrev pub END : ℕ
END = 0

abbrev pub CLOSE : ℕ
CLOSE = 1

abbrev pub OPEN : ℕ
OPEN = 2

abbrev pub NUMERAL : ℕ
NUMERAL = 3

abbrev pub SYMBOL : ℕ
SYMBOL = 4

abbrev pub RESERVED : ℕ
RESERVED = 5

abbrev pub OTHER : ℕ
OTHER = 6

-- a numeral's value, or 1 more than the most
abbrev pub clipped : ℕ → ℕ
clipped v = cond (leb v most_numeral) v (suc most_numeral)

-- ---- what is behind the list at hand

pub record ListEnd (text : List ℕ) (at depth next : ℕ) : Type 0 where
  pub levels : levels_at text next ≡ around text at
  pub unbroken : Unbroken text next depth

unfoldable pub ListEnds : List ℕ → ℕ → ℕ → Type 0
ListEnds text at next = (depth : ℕ) → Unbroken text at (suc depth) → ListEnd text at depth next

-- ---- a form from a place on, with so many lists open

pub record EndHere (text : List ℕ) (at depth : ℕ) : Type 0 where
  pub forms : forms_at text at ≡ nothing
  pub none_open : depth ≡ 0

pub record CloseHere (text : List ℕ) (at depth next : ℕ) : Type 0 where
  pub forms : forms_at text at ≡ nothing
  pub one_open : 0 < depth
  pub closed : ListEnd text at (depth - 1) next

pub record OpenHere (text : List ℕ) (at depth place next : ℕ) : Type 0 where
  pub forms : forms_at text at ≡ list place (forms_at text next) (outermost (around text next))
  pub levels : outer (around text next) ≡ around text at
  pub nested : depth < most_nesting
  pub unbroken : Unbroken text next (suc depth)

pub record WordHere (text : List ℕ) (at depth place next : ℕ) : Type 0 where
  pub forms : forms_at text at ≡ word place (bare_of (stretch text place next)) (forms_at text next)
  pub levels : around text next ≡ around text at
  pub unbroken : Unbroken text next depth

-- ---- which word it is

pub record NumeralValue (f : Form) (w : Bare) : Type 0 where
  pub value : ℕ
  pub says : w ≡ numeral value
  pub clips : f.value ≡ clipped value

pub record WordSays (text : List ℕ) (f : Form) (w : Bare) : Type 0 where
  pub numeral_says : f.kind ≡ NUMERAL → NumeralValue f w
  pub symbol_says : f.kind ≡ SYMBOL → w ≡ symbol (stretch text f.from f.to)
  pub reserved_says : f.kind ≡ RESERVED → w ≡ reserved (stretch text f.from f.to)
  pub other_says : f.kind ≡ OTHER → w ≡ other_word

pub record FormRead (text : List ℕ) (at depth : ℕ) (f : Form) : Type 0 where
  pub end : f.kind ≡ END → EndHere text at depth
  pub close : f.kind ≡ CLOSE → CloseHere text at depth f.next
  pub open_list : f.kind ≡ OPEN → OpenHere text at depth f.place f.next
  pub word_here : NUMERAL ≤ f.kind → WordHere text at depth f.place f.next
  pub word_says : NUMERAL ≤ f.kind → WordSays text f (bare_of (stretch text f.place f.next))

unfoldable pub FormReads : List ℕ → ℕ → Form → Type 0
FormReads text at f = (depth : ℕ) → Unbroken text at depth → FormRead text at depth f

-- ---- what is behind a form

abbrev pub rest_of : Forms → Forms
rest_of nothing = nothing
rest_of (word place w rest) = rest
rest_of (list place inner rest) = rest

pub record Rest (text : List ℕ) (at depth next : ℕ) : Type 0 where
  pub forms : forms_at text next ≡ rest_of (forms_at text at)
  pub levels : around text next ≡ around text at
  pub unbroken : Unbroken text next depth

unfoldable pub RestBehind : List ℕ → Form → ℕ → Type 0
RestBehind text f next = (at depth : ℕ) → Unbroken text at depth → FormRead text at depth f → OPEN ≤ f.kind → Rest text at depth next

-- whatever the text: where it stands
pub record FormStands (text : List ℕ) (at : ℕ) (f : Form) : Type 0 where
  pub kind_known : f.kind ≤ OTHER
  pub not_before : at ≤ f.place
  pub goes_on : ((f.kind ≡ END) → ⊥) → f.place < f.next
  pub inside : f.next ≤ length text
  pub value_small : f.value ≤ suc most_numeral
  pub spelt_inside : (f.from ≤ f.to) × (f.to ≤ length text)
  pub spelt_from : f.kind ≡ SYMBOL → f.from ≡ spelt_from text f.place
