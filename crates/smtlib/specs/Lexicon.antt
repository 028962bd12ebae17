-- Document 02, E2: "well formed by the standard's lexicon" (SMT-LIB 2.6, section 3.1), as an automaton that goes byte by byte, with lists at most
-- 32 deep. A text is broken (14) at the first byte that the automaton cannot go on with, or at the end.
use Rattle.std.specs.Prelude.{ℕ, suc, ◌-◌, Bool, true, false, not, cond, ◌&&◌, ◌||◌, List, [], ◌∷◌, leb, ltb, eqb}
use Rattle.std.proofs.Math.Option.{Option, none, some}
use Prim.Native.Char.{Char, code}
use Rattle.smtlib.specs.Spelling.{spelling}

abbrev pub most_nesting : ℕ
most_nesting = 32

-- ---- characters

unfoldable pub among : List ℕ → ℕ → Bool
among [] b = false
among (c ∷ cs) b = eqb b c || among cs b

abbrev pub between : ℕ → ℕ → ℕ → Bool
between least most b = leb least b && leb b most

abbrev pub is : Char → ℕ → Bool
is c b = eqb b (code c)

-- tab, line feed, carriage return, space
unfoldable pub white : ℕ → Bool
white b = among (9 ∷ 10 ∷ 13 ∷ 32 ∷ []) b

unfoldable pub is_digit : ℕ → Bool
is_digit b = between (code "0") (code "9") b

unfoldable pub is_letter : ℕ → Bool
is_letter b = between (code "A") (code "Z") b || between (code "a") (code "z") b

unfoldable pub symbol_first : ℕ → Bool
symbol_first b = is_letter b || among (spelling "~!@$%^&*_-+=<>.?/") b

unfoldable pub symbol_next : ℕ → Bool
symbol_next b = symbol_first b || is_digit b

unfoldable pub hex_digit : ℕ → Bool
hex_digit b = is_digit b || between (code "A") (code "F") b || between (code "a") (code "f") b

unfoldable pub bit_digit : ℕ → Bool
bit_digit b = between (code "0") (code "1") b

-- what may stand in a string and between bars: white space, 32 to 126, 128 and up
unfoldable pub printable : ℕ → Bool
printable b = white b || between 32 126 b || leb 128 b

-- ---- what is at hand

pub data AtHand : Type 0 where
  -- no token
  apart : AtHand
  comment : AtHand
  -- 0, or other digits; then a point, and digits behind it
  nought : AtHand
  digits : AtHand
  point : AtHand
  decimals : AtHand
  -- #, #x, #b, and digits behind them
  hash : AtHand
  hex_start : AtHand
  hexes : AtHand
  bit_start : AtHand
  bits : AtHand
  -- : that a symbol follows
  colon : AtHand
  symbol : AtHand
  -- in a string; behind a quote in it, which ends it or is the first of two
  string : AtHand
  quote : AtHand
  -- between bars
  bars : AtHand

-- what a byte does
pub data Move : Type 0 where
  stuck : Move
  -- no byte of a token
  skips : AtHand → Move
  -- the first byte of a token
  starts : AtHand → Move
  -- another byte of the token at hand
  goes_on : AtHand → Move
  opens : Move
  closes : Move

-- a byte where no token is at hand: white space, ; ( ) 0, another digit, # : " | or a symbol's first
unfoldable pub fresh : ℕ → Move
fresh b =
    cond (white b) (skips apart)
    (cond (is ";" b) (skips comment)
    (cond (is "(" b) opens
    (cond (is ")" b) closes
    (cond (is "0" b) (starts nought)
    (cond (is_digit b) (starts digits)
    (cond (is "#" b) (starts hash)
    (cond (is ":" b) (starts colon)
    (cond (is "\"" b) (starts string)
    (cond (is "|" b) (starts bars)
    (cond (symbol_first b) (starts symbol)
    stuck))))))))))

-- a byte behind a token that does not end itself: white space, ; ( ) " or |
unfoldable pub leaves_token : ℕ → Move
leaves_token b = cond (white b || among (spelling ";()\"|") b) (fresh b) stuck

abbrev pub on_if : Bool → AtHand → Move → Move
on_if true s m = goes_on s
on_if false s m = m

unfoldable pub move_of : AtHand → ℕ → Move
move_of apart b = fresh b
-- a line feed or a carriage return ends a comment
move_of comment b = cond (eqb b 10 || eqb b 13) (skips apart) (skips comment)
move_of nought b = on_if (is "." b) point (leaves_token b)
move_of digits b = on_if (is_digit b) digits (on_if (is "." b) point (leaves_token b))
move_of point b = on_if (is_digit b) decimals stuck
move_of decimals b = on_if (is_digit b) decimals (leaves_token b)
move_of hash b = on_if (is "x" b) hex_start (on_if (is "b" b) bit_start stuck)
move_of hex_start b = on_if (hex_digit b) hexes stuck
move_of hexes b = on_if (hex_digit b) hexes (leaves_token b)
move_of bit_start b = on_if (bit_digit b) bits stuck
move_of bits b = on_if (bit_digit b) bits (leaves_token b)
move_of colon b = on_if (symbol_first b) symbol stuck
move_of symbol b = on_if (symbol_next b) symbol (leaves_token b)
move_of string b = on_if (is "\"" b) quote (on_if (printable b) string stuck)
move_of quote b = on_if (is "\"" b) string (fresh b)
-- no backslash
move_of bars b = on_if (is "|" b) apart (on_if (printable b && not (is "\\" b)) bars stuck)

-- whether the text may end there
unfoldable pub complete : AtHand → Bool
complete apart = true
complete comment = true
complete nought = true
complete digits = true
complete point = false
complete decimals = true
complete hash = false
complete hex_start = false
complete hexes = true
complete bit_start = false
complete bits = true
complete colon = false
complete symbol = true
complete string = false
complete quote = true
complete bars = false

unfoldable pub state_after : Move → AtHand
state_after stuck = apart
state_after (skips s) = s
state_after (starts s) = s
state_after (goes_on s) = s
state_after opens = apart
state_after closes = apart

-- ---- 14

-- whether the text goes on by this move, with so many lists open
unfoldable pub possible : Move → ℕ → Bool
possible stuck depth = false
possible (skips s) depth = true
possible (starts s) depth = true
possible (goes_on s) depth = true
possible opens depth = ltb depth most_nesting
possible closes depth = ltb 0 depth

unfoldable pub depth_after : Move → ℕ → ℕ
depth_after stuck depth = depth
depth_after (skips s) depth = depth
depth_after (starts s) depth = depth
depth_after (goes_on s) depth = depth
depth_after opens depth = suc depth
depth_after closes depth = depth - 1

-- where the text is broken, from a place on
unfoldable pub broken_from : List ℕ → AtHand → ℕ → ℕ → Option ℕ
broken_from [] s depth at = cond (complete s && eqb depth 0) none (some at)
broken_from (b ∷ bs) s depth at =
    let m = move_of s b in
    let later = broken_from bs (state_after m) (depth_after m depth) (suc at) in
    cond (possible m depth) later (some at)

unfoldable pub broken_at : List ℕ → Option ℕ
broken_at text = broken_from text apart 0 0

-- ---- tokens, with the place of their first byte

pub data Token : Type 0 where
  opening : ℕ → Token
  closing : Token
  spelt : ℕ → List ℕ → Token

-- from a place on: the bytes that still belong to the token at hand, and the tokens behind it
pub record Lexed : Type 0 where
  pub more : List ℕ
  pub tokens : List Token

unfoldable pub taken : Move → ℕ → ℕ → Lexed → Lexed
taken stuck b at later = later
taken (skips s) b at later = record { more = []; tokens = later.tokens }
taken (starts s) b at later = record { more = []; tokens = spelt at (b ∷ later.more) ∷ later.tokens }
taken (goes_on s) b at later = record { more = b ∷ later.more; tokens = later.tokens }
taken opens b at later = record { more = []; tokens = opening at ∷ later.tokens }
taken closes b at later = record { more = []; tokens = closing ∷ later.tokens }

unfoldable pub lexed : List ℕ → AtHand → ℕ → Lexed
lexed [] s at = record { more = []; tokens = [] }
lexed (b ∷ bs) s at = let m = move_of s b in taken m b at (lexed bs (state_after m) (suc at))

unfoldable pub tokens_of : List ℕ → List Token
tokens_of text = (lexed text apart 0).tokens
