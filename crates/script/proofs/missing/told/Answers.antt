-- `script::missing::told` meets its contract. Assumes nothing.
use mathlib.Core.Path.{sym, ◌∙◌}
use Rattle.std.proofs.lemmas.Option.{none-some, same_Some}
use Rattle.script.proofs.Telling.{outside_told, beyond_told, none_told}
use Rattle.script.proofs.missing.told.Goals as goal

pub returns-in-Some-Some : goal.returns-in-Some-Some
returns-in-Some-Some c =
    let arm = c.in-Some-Some in
    let h = c.if-later-place.true in
    rw c.at.ensures (beyond_told _ _ arm.later arm.is-1 (λ p e. rw (same_Some p arm.place (sym e ∙ arm.is-0)) h))

pub returns-in-Some-Some-2 : goal.returns-in-Some-Some-2
returns-in-Some-Some-2 c =
    let arm = c.in-Some-Some in
    let h = c.if-later-place.false in
    rw c.at-in-Some-Some-2.ensures (outside_told _ _ arm.place arm.is-0 (λ q e. rw (same_Some q arm.later (sym e ∙ arm.is-1)) h))

pub returns-in-Some-None : goal.returns-in-Some-None
returns-in-Some-None c =
    rw c.at-in-Some-None.ensures (outside_told _ _ c.in-Some-None.place c.in-Some-None.is-0 (λ q e. absurd (none-some q (sym c.in-Some-None.is-1 ∙ e))))

pub returns-in-None-Some : goal.returns-in-None-Some
returns-in-None-Some c =
    rw c.at-in-None-Some.ensures (beyond_told _ _ c.in-None-Some.place c.in-None-Some.is-1 (λ p e. absurd (none-some p (sym c.in-None-Some.is-0 ∙ e))))

pub returns-in-None-None : goal.returns-in-None-None
returns-in-None-None c = none_told _ _ c.in-None-None.is-0 c.in-None-None.is-1
