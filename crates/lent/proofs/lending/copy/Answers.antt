-- `lent::lending::copy` meets its contract: as many cells as there are in both.
use Rattle.lent.proofs.Copies.{copied}
use Rattle.lent.proofs.lending.copy.Goals as goal

pub returns : goal.returns
returns g c =
    rw c.copy_from_slice.ensures.after (copied c.args.from.now c.args.to.now c.min-count.result c.min-count.ensures)
