-- `numbering::resume` meets its contract: the index gets the rows that are there. Assumes nothing.
use Prim.Native.Nat.{◌*◌, ◌≤◌}
use native.Mathlib.Nat.{mul-le-mul_right}
use native.Mathlib.Omega.{arith}
use Rattle.numbering.proofs.resume.Goals as goal

pub insert_rows-requires : goal.insert_rows-requires
insert_rows-requires c =
    let cells : c.args.from.count * c.args.plan.width ≤ c.args.plan.rows * c.args.plan.width = mul-le-mul_right c.args.plan.width c.requires.stands.rows_there.count_ok in
    record {
      indexed = c.requires.linked.indexed;
      index_sized = record {
        narrow = c.requires.task.narrow;
        some_buckets = c.requires.linked.indexed.sized.some_buckets;
        few_buckets = c.requires.linked.indexed.sized.few_buckets;
        few_rows = omega (arith, c.requires.stands.rows_there.count_ok, c.requires.stands.rows_there.lent.few_rows);
        cells = omega (arith, c.requires.stands.rows_there.lent.keys_room);
        link = omega (arith, c.requires.stands.rows_there.count_ok, c.requires.linked.room);
      };
    }

pub explore-requires : goal.explore-requires
explore-requires c =
    record { task = c.requires.task; stands = c.requires.stands; linked = record { indexed = c.insert_rows.ensures; room = omega (arith, c.requires.linked.room, c.insert_rows.auto.links) } }

pub returns : goal.returns
returns c = c.explore.ensures
