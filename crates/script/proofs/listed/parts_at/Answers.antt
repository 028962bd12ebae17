-- `script::listed::parts_at` meets its contract. Assumes nothing.
use mathlib.Core.Path.{refl}
use Rattle.script.specs.Parts.{no_part, one_part}
use Rattle.script.proofs.Listing.{no_parts, part_here}
use Rattle.script.proofs.listed.parts_at.Goals as goal

pub returns-then-first-lt-OPEN : goal.returns-then-first-lt-OPEN
returns-then-first-lt-OPEN c = rw (no_parts _ _ _ _ c.form_at-first.ensures.read c.requires.unbroken c.if-first-lt-OPEN.true) (no_part refl)

pub returns-then-second-lt-OPEN : goal.returns-then-second-lt-OPEN
returns-then-second-lt-OPEN c =
    let first = part_here _ _ _ _ c.form_at-first.ensures.read c.requires.unbroken c.form_at-first.ensures.stands c.if-first-lt-OPEN.false _ c.form_end.ensures.behind in
    rw (first.parts, no_parts _ _ _ _ c.form_at-second.ensures.read first.unbroken c.if-second-lt-OPEN.true) (one_part _ refl first.says)

pub parts_behind-requires : goal.parts_behind-requires
parts_behind-requires c =
    let first = part_here _ _ _ _ c.form_at-first.ensures.read c.requires.unbroken c.form_at-first.ensures.stands c.if-first-lt-OPEN.false _ c.form_end.ensures.behind in
    let second = part_here _ _ _ _ c.form_at-second.ensures.read first.unbroken c.form_at-second.ensures.stands c.if-second-lt-OPEN.false _ c.form_end-2.ensures.behind in
    (record { depth = c.requires.depth; here = c.form_end-2.ensures.stands.1; unbroken = second.unbroken }, (first.says, second.says))

pub returns : goal.returns
returns c =
    let first = part_here _ _ _ _ c.form_at-first.ensures.read c.requires.unbroken c.form_at-first.ensures.stands c.if-first-lt-OPEN.false _ c.form_end.ensures.behind in
    let second = part_here _ _ _ _ c.form_at-second.ensures.read first.unbroken c.form_at-second.ensures.stands c.if-second-lt-OPEN.false _ c.form_end-2.ensures.behind in
    rw (first.parts, second.parts) c.parts_behind.ensures
