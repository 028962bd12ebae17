-- Document 01's 25 bytes, and what the asking program prints of them.
use Rattle.std.specs.Prelude.{ℕ, ◌≡◌, refl, List, [], ◌∷◌}
use Rattle.scope.specs.Outcomes.{running}
use Rattle.told.specs.Decimal.{leading, decimal}
use Rattle.told.specs.Text.{ascii, numbers, found_text, short_text, never_text, no_room_text, refused_text}
use Rattle.ask.specs.Asked.{variables, decided_for, asked}

abbrev document : List ℕ
document = 1 ∷ 0 ∷ 1 ∷ 0 ∷ 2 ∷ 12 ∷ 0 ∷ 16 ∷ 0 ∷ 5 ∷ 0 ∷ 0 ∷ 0 ∷ 1 ∷ 0 ∷ 0 ∷ 0 ∷ 3 ∷ 0 ∷ 0 ∷ 0 ∷ 0 ∷ 0 ∷ 255 ∷ 0 ∷ []

document_prints : asked document ≡ ascii "verdict found\nvalues 0 3\nletters 2 2\nstates 7\n"
unfolding running leading decimal numbers found_text short_text never_text no_room_text refused_text variables decided_for asked
document_prints = refl

no_bytes_print : asked [] ≡ ascii "refused 1 at 0\n"
unfolding running leading decimal numbers found_text short_text never_text no_room_text refused_text variables decided_for asked
no_bytes_print = refl
