-- `table::next_state` meets its contract: the key that is looked up is the row's target, which is there.
use Rattle.table.specs.Tabling.{is_found}
use Rattle.table.proofs.next_state.Goals as goal

pub find-requires : goal.find-requires
find-requires c =
    record { indexed = c.requires.indexed; key = rw c.step_row-key.ensures c.requires.steps.keyed }

pub unwrap-requires : goal.unwrap-requires
unwrap-requires c = is_found _ (rw c.step_row-key.ensures at c.find.ensures) c.requires.there

pub returns : goal.returns
returns c =
    let found = rw (c.step_row-key.ensures, c.unwrap.ensures) at c.find.ensures in
    record { below = found.says.0; cells = found.says.1 }
