-- `script::changes::with_faults` meets its contract. Assumes nothing.
use Rattle.script.specs.Changes.{KeepsOn, MovesOn, FaultsOn}
use Rattle.script.proofs.changes.with_faults.Goals as goal

pub returns : goal.returns
unfolding KeepsOn MovesOn FaultsOn
returns c = λ text places g s keeps. c.moved.ensures text s s.stage places keeps keeps.phase_is g
