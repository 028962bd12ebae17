-- `script::commands::logic_due` meets its contract. Assumes nothing.
use native.Mathlib.Omega.{arith}
use mathlib.Core.Path.{sym, ap, ◌∙◌}
use Rattle.script.specs.Commands.{name_place, CommandInside}
use Rattle.script.proofs.Commanding.{no_logic_due, logic_set}
use Rattle.script.proofs.commands.logic_due.Goals as goal

pub returns-in_default : goal.returns-in_default
returns-in_default c = no_logic_due _ _ _ _ _ _ c.moved.ensures c.in_default.not-SetLogic c.unless.ensures

pub logic_fault-requires : goal.logic_fault-requires
unfolding CommandInside
logic_fault-requires c = c.requires (λ f. omega (arith, ap name_place (sym c.in-SetLogic.is ∙ f)))

pub returns : goal.returns
returns c = logic_set _ _ _ _ _ _ c.moved-2.ensures c.in-SetLogic.is c.logic_fault.ensures
