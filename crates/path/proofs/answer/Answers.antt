-- `path::answer` meets its contract, case by case.
use mathlib.Core.Path.{refl}
use Rattle.path.proofs.answer.Goals as goal

pub found-requires : goal.found-requires
found-requires c = rw c.in-Found.is at c.requires

pub returns-in-Found : goal.returns-in-Found
returns-in-Found c = rw c.in-Found.is c.found.ensures

pub returns-in-All : goal.returns-in-All
returns-in-All c = rw c.in-All.is record { answer = refl; word = refl }

pub returns-in-NoRoom : goal.returns-in-NoRoom
returns-in-NoRoom c = rw c.in-NoRoom.is record { answer = refl; word = refl }
