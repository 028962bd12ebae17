-- `script::listed::parts_behind` meets its contract. Assumes nothing.
use mathlib.Core.Path.{refl}
use Rattle.script.specs.Parts.{two_parts, three_parts, more_parts}
use Rattle.script.proofs.Listing.{no_parts, part_here, some_part}
use Rattle.script.proofs.listed.parts_behind.Goals as goal

pub returns-then-third-lt-OPEN : goal.returns-then-third-lt-OPEN
returns-then-third-lt-OPEN c =
    rw (no_parts _ _ _ _ c.form_at-third.ensures.read c.requires.0.unbroken c.if-third-lt-OPEN.true) (two_parts _ _ refl c.requires.1.0 c.requires.1.1)

pub returns-then-fourth-lt-OPEN : goal.returns-then-fourth-lt-OPEN
returns-then-fourth-lt-OPEN c =
    let p = c.requires in
    let third = part_here _ _ _ _ c.form_at-third.ensures.read p.0.unbroken c.form_at-third.ensures.stands c.if-third-lt-OPEN.false _ c.form_end.ensures.behind in
    rw (third.parts, no_parts _ _ _ _ c.form_at-fourth.ensures.read third.unbroken c.if-fourth-lt-OPEN.true) (three_parts _ _ _ refl p.1.0 p.1.1 third.says)

pub returns : goal.returns
returns c =
    let third = part_here _ _ _ _ c.form_at-third.ensures.read c.requires.0.unbroken c.form_at-third.ensures.stands c.if-third-lt-OPEN.false _ c.form_end.ensures.behind in
    let (fourth, rest, e) = some_part _ _ _ _ c.form_at-fourth.ensures.read third.unbroken c.if-fourth-lt-OPEN.false in
    rw (third.parts, e) (more_parts refl _ _ _ fourth rest)
