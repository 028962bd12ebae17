-- `index::add` meets its contract: the store changes no row before count, and gives row count the key's cells.
use native.Mathlib.Omega.{arith}
use Rattle.index.specs.Laws.{key_long, stored_indexed, stored_key, more_indexed}
use Rattle.index.proofs.add.Goals as goal

pub returns : goal.returns
returns c =
    let keys = c.args.keys.now in
    let key = c.args.key.now in
    let width = c.args.width in
    let count = c.args.count in
    let ix = c.requires.indexed in
    let room = c.requires.room in
    let asked = c.requires.key in
    let stored = c.store_row.ensures in
    record {
      stored = stored;
      indexed =
          rw c.insert.ensures
          (more_indexed (stored_indexed keys _ key width count room.cells stored ix)
          (record { number = room.number; link = room.link; cells = omega (arith, c.store_row.auto.keys) }) asked
          (stored_key keys _ key width count room.cells stored (key_long ix.sized.narrow asked)));
    }
