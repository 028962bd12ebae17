-- `numbering::resume_with` meets its contract: an index as it is made has no row. Assumes nothing.
use Rattle.explore.specs.Stages.{none_linked}
use Rattle.numbering.proofs.resume_with.Goals as goal

pub resume-requires : goal.resume-requires
resume-requires g c =
    let room = c.requires.room in
    record {
      task = c.requires.task;
      stands = c.requires.stands;
      linked = none_linked c.args.plan c.args.keys.now _ c.requires.task.narrow room.0 room.1 room.2;
    }

pub returns : goal.returns
returns g c = c.resume.ensures.exploring_ended
