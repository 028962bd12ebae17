-- What is at hand and what a byte does, as the code has them.
use Rattle.std.specs.Prelude.{ℕ, ◌≡◌, refl, cond, Option, Some, None}
use Rattle.std.proofs.Common.{sym, ap, ◌∙◌}
use Rattle.smtlib.specs.Lexicon.{AtHand, apart, comment, nought, digits, point, decimals, hash, hex_start, hexes, bit_start, bits, colon, symbol, string, quote, bars, Move, stuck, skips, starts, goes_on, opens, closes, possible, depth_after}
use Rattle.lexicon.specs.declared.moves.State.{State}
use Rattle.lexicon.specs.declared.moves.State.TheVariants.{Apart, Comment, Nought, Digits, Point, Decimals, Hash, HexStart, Hexes, BitStart, Bits, Colon, Symbol, String, Quote, Bars}
use Rattle.lexicon.specs.declared.moves.Step.{Step}
use Rattle.lexicon.specs.declared.moves.Step.TheVariants.{Skips, Starts, GoesOn, Opens, Closes, Stuck}

abbrev pub hand_of : State → AtHand
hand_of Apart = apart
hand_of Comment = comment
hand_of Nought = nought
hand_of Digits = digits
hand_of Point = point
hand_of Decimals = decimals
hand_of Hash = hash
hand_of HexStart = hex_start
hand_of Hexes = hexes
hand_of BitStart = bit_start
hand_of Bits = bits
hand_of Colon = colon
hand_of Symbol = symbol
hand_of String = string
hand_of Quote = quote
hand_of Bars = bars

abbrev pub state_of : AtHand → State
state_of apart = Apart
state_of comment = Comment
state_of nought = Nought
state_of digits = Digits
state_of point = Point
state_of decimals = Decimals
state_of hash = Hash
state_of hex_start = HexStart
state_of hexes = Hexes
state_of bit_start = BitStart
state_of bits = Bits
state_of colon = Colon
state_of symbol = Symbol
state_of string = String
state_of quote = Quote
state_of bars = Bars

pub state_of_lem : (s : State) → state_of (hand_of s) ≡ s
state_of_lem Apart = refl
state_of_lem Comment = refl
state_of_lem Nought = refl
state_of_lem Digits = refl
state_of_lem Point = refl
state_of_lem Decimals = refl
state_of_lem Hash = refl
state_of_lem HexStart = refl
state_of_lem Hexes = refl
state_of_lem BitStart = refl
state_of_lem Bits = refl
state_of_lem Colon = refl
state_of_lem Symbol = refl
state_of_lem String = refl
state_of_lem Quote = refl
state_of_lem Bars = refl

pub same_state : (s : State) (t : AtHand) → hand_of s ≡ t → s ≡ state_of t
same_state s t e = sym (state_of_lem s) ∙ ap state_of e

abbrev pub move_said : Step → Move
move_said (Skips s) = skips (hand_of s)
move_said (Starts s) = starts (hand_of s)
move_said (GoesOn s) = goes_on (hand_of s)
move_said Opens = opens
move_said Closes = closes
move_said Stuck = stuck

-- the lists that are open behind a move, where it is possible
unfoldable pub depth_then : Move → ℕ → Option ℕ
depth_then m depth = cond (possible m depth) (Some (depth_after m depth)) None
