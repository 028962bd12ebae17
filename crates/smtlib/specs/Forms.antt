-- Words and lists: what each token is, and the tokens put together by their parentheses, each with the place of its first byte.
use Rattle.std.specs.Prelude.{ℕ, ◌+◌, ◌*◌, ◌-◌, cond, List, [], ◌∷◌, length, take}
use Prim.Native.Char.{code}
use Rattle.std.specs.List.{list_all}
use Rattle.smtlib.specs.Spelling.{is_in, reserved_words}
use Rattle.smtlib.specs.Lexicon.{is, is_digit, symbol_first, Token, opening, closing, spelt, tokens_of}

-- ---- words

pub data Bare : Type 0 where
  numeral : ℕ → Bare
  -- what stands between the bars, where there are any
  symbol : List ℕ → Bare
  reserved : List ℕ → Bare
  -- a decimal, #x.., #b.., a string, a keyword
  other_word : Bare

unfoldable pub numeral_from : ℕ → List ℕ → ℕ
numeral_from v [] = v
numeral_from v (d ∷ ds) = numeral_from (10 * v + (d - code "0")) ds

-- by the first byte
unfoldable pub bare_of : List ℕ → Bare
bare_of [] = other_word
bare_of (b ∷ bs) =
    cond (is_digit b) (cond (list_all is_digit bs) (numeral (numeral_from 0 (b ∷ bs))) other_word)
    (cond (is "|" b) (symbol (take (length bs - 1) bs))
    (cond (symbol_first b) (cond (is_in (b ∷ bs) reserved_words) (reserved (b ∷ bs)) (symbol (b ∷ bs)))
    other_word))

-- ---- forms, one after the other

pub data Forms : Type 0 where
  nothing : Forms
  -- a word at a place, and the forms after it
  word : ℕ → Bare → Forms → Forms
  -- a list at a place, the forms in it, and the forms after it
  list : ℕ → Forms → Forms → Forms

abbrev pub enclosed : ℕ → List Forms → List Forms
enclosed at [] = []
enclosed at (inner ∷ []) = inner ∷ []
enclosed at (inner ∷ outer ∷ levels) = list at inner outer ∷ levels

abbrev pub before : ℕ → Bare → List Forms → List Forms
before at w [] = []
before at w (forms ∷ levels) = word at w forms ∷ levels

-- the forms that follow in the list at hand, then those that follow in the list around it, and so on
unfoldable pub levels_of : List Token → List Forms
levels_of [] = nothing ∷ []
levels_of (opening at ∷ tokens) = enclosed at (levels_of tokens)
levels_of (closing ∷ tokens) = nothing ∷ levels_of tokens
levels_of (spelt at w ∷ tokens) = before at (bare_of w) (levels_of tokens)

abbrev pub outermost : List Forms → Forms
outermost [] = nothing
outermost (forms ∷ levels) = forms

-- the forms of a text that is not broken
unfoldable pub forms_of : List ℕ → Forms
forms_of text = outermost (levels_of (tokens_of text))
