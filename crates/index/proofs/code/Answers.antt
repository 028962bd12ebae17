-- `index::code` meets its contract: the sum is the cell moved up by 2 ^ 31, which is not negative and below 2 ^ 32.
use Rattle.std.proofs.Common.{refl}
use Rattle.index.proofs.Cells.{cell_coded, code_low}
use Rattle.index.proofs.code.Goals as goal

pub returns : goal.returns
returns c = rw (c.from.ensures, cell_coded c.args.x c.ranges.x) (refl, code_low c.args.x c.ranges.x.sfits)
