-- `importing::commands::lay_commands` meets its contract. The invariant: laid to the end, or on the way. Assumes nothing.
use native.Mathlib.Omega.{arith}
use mathlib.Core.Path.{sym, subst}
use Rattle.importing.specs.Underway.{FaultlessText}
use Rattle.importing.proofs.Begun.{commands_begun, same_count}
use Rattle.importing.proofs.commands.lay_commands.Goals as goal

pub loop-progress-init : goal.loop-progress-init
loop-progress-init c =
    rw c.empty.ensures (commands_begun _ _ _ _ c.requires.0 c.requires.1)

pub lay_command-requires : goal.lay_command-requires
lay_command-requires c =
    let some_left = c.loop-progress-test.true in
    (subst (FaultlessText _ _) (sym c.loop-progress.invariant.n_is) c.requires.0, (c.loop-progress.invariant.underway some_left, some_left))

pub loop-progress-smaller : goal.loop-progress-smaller
loop-progress-smaller c = let r = c.in-Ok.ensures.further in omega (arith, r.0, r.1)

pub loop-progress-preserved : goal.loop-progress-preserved
loop-progress-preserved c = same_count _ _ _ _ c.loop-progress.invariant.n_is c.in-Ok.ensures.laid

pub returns : goal.returns
returns c = let inv = c.loop-progress.invariant in (inv.n_is, inv.done (omega arith))
