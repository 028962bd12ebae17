-- `script::changes::unless` meets its contract. Assumes nothing.
use mathlib.Core.Path.{refl}
use Rattle.smtlib.specs.Script.{lowest_of}
use Rattle.script.proofs.changes.unless.Goals as goal

pub returns-then-holds : goal.returns-then-holds
unfolding lowest_of
returns-then-holds c = rw c.if-holds.true refl

pub returns-else-holds : goal.returns-else-holds
unfolding lowest_of
returns-else-holds c = rw c.if-holds.false refl
