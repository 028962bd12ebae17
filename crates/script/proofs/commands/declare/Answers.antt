-- `script::commands::declare` meets its contract. Assumes nothing.
use mathlib.Core.Path.{sym}
use Rattle.script.proofs.Listing.{two_there, declared_parts}
use Rattle.script.proofs.Commanding.{inside_list, keeps_as, fault_on}
use Rattle.script.proofs.commands.declare.Goals as goal

pub parts_at-requires : goal.parts_at-requires
parts_at-requires c = inside_list c.requires.0

pub returns-in_default : goal.returns-in_default
returns-in_default c = keeps_as _ _ _ _ _ (λ s keeps. sym (declared_parts c.parts_at.ensures c.in_default.not-Two _ s)) (fault_on _ _ _ _ c.with_fault.ensures)

pub declare_as-requires : goal.declare_as-requires
declare_as-requires c = let two = two_there _ _ c.parts_at.ensures c.in-Two.is in (two.first, (two.second, c.requires.1))

pub returns : goal.returns
returns c = rw (two_there _ _ c.parts_at.ensures c.in-Two.is).parts c.declare_as.ensures
