-- `forms::words::word_at` meets its contract. Assumes nothing.
use mathlib.Core.Path.{ap}
use Rattle.std.proofs.Common.{inl, inr, ⊎_elim}
use Rattle.smtlib.specs.Lexicon.{AtHand, nought, digits, bars}
use Rattle.lexicon.specs.Steps.{hand_of, same_state}
use Rattle.forms.proofs.Wording.{numeral_starts, barred_word, other_word_lem}
use Rattle.forms.proofs.words.word_at.Goals as goal

pub numeral_at-requires : goal.numeral_at-requires
numeral_at-requires c = numeral_starts _ _ _ _ c.requires (⊎_elim (λ e. inl (ap hand_of e)) (λ e. inr (ap hand_of e)) c.in-Nought.is)

pub returns-in-Bars : goal.returns-in-Bars
returns-in-Bars c =
    rw c.bare.ensures (barred_word _ _ _ _ c.requires (ap hand_of c.in-Bars.is) _ c.bar_before.ensures)

pub returns-in_default : goal.returns-in_default
returns-in_default c =
    let s = c.args.state in
    rw c.bare-in_default.ensures
    (other_word_lem _ _ _ _ c.requires (λ e. ⊎_elim (λ z. c.in_default.not-Nought (same_state s nought z)) (λ z. c.in_default.not-Digits (same_state s digits z)) e) (λ z. c.in_default.not-Symbol (same_state s AtHand.symbol z)) (λ z. c.in_default.not-Bars (same_state s bars z)))
