-- What document 01 prints, and one text of each other kind.
use Rattle.std.specs.Prelude.{◌≡◌, refl, [], ◌∷◌, Ok, Err}
use Rattle.scope.specs.declared.Decision.{Decision}
use Rattle.scope.specs.declared.Rule.{Rule}
use Rattle.scope.specs.Refusals.{refusal}
use Rattle.scope.specs.Outcomes.{running}
use Rattle.told.specs.Decimal.{leading, decimal}
use Rattle.told.specs.Text.{ascii, numbers, found_text, short_text, never_text, no_room_text, refused_text, text_of}

-- what has to unfold for the definitions to run
told_running : Unit {0}
unfolding running leading decimal numbers found_text short_text never_text no_room_text refused_text
told_running = tt

document : text_of 2 (Ok (Decision.Found 7 2)) (2 ∷ 2 ∷ 99 ∷ []) ≡ ascii "verdict found\nvalues 0 3\nletters 2 2\nstates 7\n"
unfolding told_running
document = refl

empty_word : text_of 1 (Ok (Decision.Found 1 0)) (99 ∷ []) ≡ ascii "verdict found\nvalues 0\nletters none\nstates 1\n"
unfolding told_running
empty_word = refl

longest_value : text_of 1 (Ok (Decision.Never 18446744073709551615)) [] ≡ ascii "verdict never\nstates 18446744073709551615\n"
unfolding told_running
longest_value = refl

no_room_lem : text_of 6 (Ok (Decision.NoRoom 1024)) [] ≡ ascii "verdict no-room\nstates 1024\n"
unfolding told_running
no_room_lem = refl

too_long : text_of 1 (Ok (Decision.Short 90 65)) [] ≡ ascii "verdict found\nvalues long\nletters long\nstates 90\n"
unfolding told_running
too_long = refl

refused : text_of 2 (Err (refusal Rule.BeyondLimit 5)) [] ≡ ascii "refused 4 at 5\n"
unfolding told_running
refused = refl
