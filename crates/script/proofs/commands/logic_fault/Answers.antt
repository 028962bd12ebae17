-- `script::commands::logic_fault` meets its contract. Assumes nothing.
use Prim.Native.Nat.{ℕ}
use mathlib.Core.Path.{sym, ap, ◌∙◌}
use mathlib.Core.Bool.{Bool}
use mathlib.Core.List.{List}
use Rattle.smtlib.specs.Script.{unless, logic_faults, lowest_of}
use Rattle.lexicon.specs.Spots.{spot_of}
use Rattle.script.proofs.Listing.{one_there, logic_parts}
use Rattle.script.proofs.Commanding.{inside_list}
use Rattle.script.proofs.commands.logic_fault.Goals as goal

pub parts_at-requires : goal.parts_at-requires
parts_at-requires c = inside_list c.requires

pub returns-in_default : goal.returns-in_default
returns-in_default c = c.unless.ensures ∙ ap (λ (l : List ℕ). spot_of (lowest_of l)) (sym (logic_parts c.parts_at.ensures c.in_default.not-One _))

pub says_word-requires : goal.says_word-requires
says_word-requires c = (one_there _ c.parts_at.ensures c.in-One.is).first

pub returns : goal.returns
unfolding logic_faults
returns c =
    rw (one_there _ c.parts_at.ensures c.in-One.is).parts (c.unless-2.ensures ∙ ap (λ (b : Bool). spot_of (lowest_of (unless b c.in-One.first.place))) c.says_word.ensures)
