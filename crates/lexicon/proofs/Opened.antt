-- The definitions that are opened where the moves are proved.
use Rattle.smtlib.specs.Lexicon.{among, white, is_digit, is_letter, symbol_first, symbol_next, hex_digit, bit_digit, printable, fresh, leaves_token, move_of, state_after, possible, depth_after, complete}
use Rattle.lexicon.specs.Steps.{depth_then}

unfoldable pub moves : Unit {0}
unfolding among white is_digit is_letter symbol_first symbol_next hex_digit bit_digit printable fresh leaves_token move_of state_after possible depth_after complete depth_then
moves = tt
