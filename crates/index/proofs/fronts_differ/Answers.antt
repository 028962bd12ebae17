-- `index::fronts_differ` meets its contract: each cell read is a cell of 32 bits.
use Rattle.index.proofs.Four.{four_agree}
use Rattle.index.proofs.fronts_differ.Goals as goal

pub returns : goal.returns
returns c =
    four_agree c.args.keys.now c.args.base c.args.key.now c.result-1.given c.result-2-1.given c.result-3-1.given
    c.result-4-1.given c.result-5-1.given c.result-6-1.given c.result-7-1.given c.result-8-1.given
