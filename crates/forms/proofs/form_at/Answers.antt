-- `forms::form_at` meets its contract. Assumes nothing.
use mathlib.Core.Path.{refl, ap}
use Rattle.lexicon.specs.Steps.{hand_of, move_said}
use Rattle.forms.proofs.Reading.{end_there, open_there, close_there, stuck_there, starts_there, word_there}
use Rattle.forms.proofs.form_at.Goals as goal

pub returns-then-text-place : goal.returns-then-text-place
returns-then-text-place c =
    rw c.bare.ensures (let p = end_there _ _ _ c.blank_end-place.ensures c.if-text-place.true in record { stands = p.0; read = p.1 })

pub word_at-requires : goal.word_at-requires
word_at-requires c =
    let t = c.token_end-next.ensures in
    starts_there _ _ _ c.blank_end-place.ensures c.if-text-place.false (move_said c.move_of.result) c.move_of.ensures (hand_of c.in-Starts.state) (ap move_said c.in-Starts.is) _ t.not_before t.inside

pub returns-in-Starts : goal.returns-in-Starts
returns-in-Starts c =
    let p = word_there _ _ _ c.blank_end-place.ensures c.if-text-place.false (move_said c.move_of.result) c.move_of.ensures (hand_of c.in-Starts.state) (ap move_said c.in-Starts.is) _ c.token_end-next.ensures _ c.word_at.ensures in record { stands = p.0; read = p.1 }

pub returns-in-Opens : goal.returns-in-Opens
returns-in-Opens c =
    rw c.bare-in-Opens.ensures (let p = open_there _ _ _ c.blank_end-place.ensures c.if-text-place.false (move_said c.move_of.result) c.move_of.ensures (ap move_said c.in-Opens.is) in record { stands = p.0; read = p.1 })

pub returns-in-Closes : goal.returns-in-Closes
returns-in-Closes c =
    rw c.bare-in-Closes.ensures (let p = close_there _ _ _ c.blank_end-place.ensures c.if-text-place.false (move_said c.move_of.result) c.move_of.ensures (ap move_said c.in-Closes.is) in record { stands = p.0; read = p.1 })

pub returns-in_default : goal.returns-in_default
returns-in_default c =
    rw c.bare-in_default.ensures (let p = stuck_there _ _ _ c.blank_end-place.ensures c.if-text-place.false _ c.move_of.ensures c.move_of.result refl c.in_default.not-Starts c.in_default.not-Opens c.in_default.not-Closes in record { stands = p.0; read = p.1 })
