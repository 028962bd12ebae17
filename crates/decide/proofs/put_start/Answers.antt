-- `decide::put_start` meets its contract: the row stored is row 0, and the path cells stored are its.
use native.Mathlib.Omega.{arith}
use Rattle.decide.specs.Start.{row_0, path_0}
use Rattle.decide.proofs.put_start.Goals as goal

pub returns : goal.returns
returns c =
    record {
      keys_are = row_0 c.args.keys.now _ c.args.constants.now c.args.width (omega arith) c.store_row.ensures;
      path_is = path_0 c.args.path.now (omega arith);
    }
