-- `build::fill_from` meets its contract: where every row is expanded, the index that numbering leaves has them all. Assumes nothing.
use mathlib.Core.Path.{refl}
use Rattle.std.proofs.lemmas.Result.{err_from_is_err_and}
use Rattle.explore.specs.Stages.{none_linked}
use Rattle.build.specs.Filling.{rows_tabled, rows_fit}
use Rattle.build.proofs.fill_from.Goals as goal

pub resume-requires : goal.resume-requires
resume-requires g c =
    let p = c.requires in
    let narrow = p.filling.task.narrow in
    record { task = p.filling.task; stands = p.stands; linked = none_linked c.args.plan c.args.keys.now _ narrow p.room.0 p.room.1 p.room.2 }

pub returns-in_err-s : goal.returns-in_err-s
returns-in_err-s g c =
    let p = err_from_is_err_and c.from_residual.result c.from_residual.ensures.1 in
    rw (p.1, p.2) (record { ended = c.in_err-s.ensures.exploring_ended; table_is = refl })

pub write_rows-requires : goal.write_rows-requires
write_rows-requires g c =
    let given = c.requires.filling in
    let ended = c.in_ok-s.ensures.exploring_ended in
    record { tabling = rows_tabled given ended c.resume.auto.keys; indexed = (c.in_ok-s.ensures.linked _ refl).indexed; letters_in_bounds = rows_fit given ended c.resume.auto.keys }

pub returns : goal.returns
returns g c = record { ended = c.in_ok-s.ensures.exploring_ended; table_is = c.write_rows.ensures }
