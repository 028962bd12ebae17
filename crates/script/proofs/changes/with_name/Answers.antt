-- `script::changes::with_name` meets its contract. Assumes nothing.
use Rattle.script.specs.Changes.{NamesOn}
use Rattle.script.proofs.Keeping.{lower_more, name_left_out, name_kept}
use Rattle.script.proofs.changes.with_name.Goals as goal

pub returns-then-count-ge-NAMES : goal.returns-then-count-ge-NAMES
unfolding NamesOn
returns-then-count-ge-NAMES c =
    λ text s keeps says known new.
    name_left_out keeps _ _ says known new _ (lower_more _ _ _ _ _ c.lower-beyond.ensures keeps.beyond_is c.unless.ensures) c.if-count-ge-NAMES.true

pub returns : goal.returns
unfolding NamesOn
returns c =
    λ text s keeps says known new.
    name_kept keeps _ _ says known new _ (lower_more _ _ _ _ _ c.lower-beyond.ensures keeps.beyond_is c.unless.ensures) c.if-count-ge-NAMES.false
