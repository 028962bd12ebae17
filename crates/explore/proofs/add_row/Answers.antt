-- `explore::add_row` meets its contract: the row is stored and indexed, and the key is tested. Assumes nothing.
use Rattle.explore.proofs.add_row.Goals as goal

pub add-requires : goal.add-requires
add-requires c =
    record { indexed = c.requires.linked.indexed; room = record { number = c.requires.row_fits.number; link = c.requires.row_fits.link; cells = c.requires.row_fits.room.keys_room }; key = c.requires.row_fits.is_key }

pub put_path-requires : goal.put_path-requires
put_path-requires c = let f = c.requires.row_fits in (f.room.path_room, f.number, f.from, f.letter)

pub returns : goal.returns
returns c = record {
  stored = record { keys_are = c.add.ensures.stored; path_is = c.put_path.ensures };
  indexed = c.add.ensures.indexed;
  says = c.tests.ensures;
}
