-- `script::listed::command_name` meets its contract. Assumes nothing.
use mathlib.Core.Path.{refl, sym, ◌∙◌}
use Rattle.smtlib.specs.Script.{command_named}
use Rattle.script.proofs.listed.command_name.Goals as goal

pub returns-then-spelt : goal.returns-then-spelt
unfolding command_named
returns-then-spelt c = rw (sym c.spelt.ensures ∙ c.if-spelt.true) refl

pub returns-then-spelt-2 : goal.returns-then-spelt-2
unfolding command_named
returns-then-spelt-2 c = rw (sym c.spelt.ensures ∙ c.if-spelt.false, sym c.spelt-2.ensures ∙ c.if-spelt-2.true) refl

pub returns-then-spelt-3 : goal.returns-then-spelt-3
unfolding command_named
returns-then-spelt-3 c = rw (sym c.spelt.ensures ∙ c.if-spelt.false, sym c.spelt-2.ensures ∙ c.if-spelt-2.false, sym c.spelt-3.ensures ∙ c.if-spelt-3.true) refl

pub returns-then-spelt-4 : goal.returns-then-spelt-4
unfolding command_named
returns-then-spelt-4 c =
    rw (sym c.spelt.ensures ∙ c.if-spelt.false, sym c.spelt-2.ensures ∙ c.if-spelt-2.false, sym c.spelt-3.ensures ∙ c.if-spelt-3.false, sym c.spelt-4.ensures ∙ c.if-spelt-4.true) refl

pub returns : goal.returns
unfolding command_named
returns c =
    rw (sym c.spelt.ensures ∙ c.if-spelt.false, sym c.spelt-2.ensures ∙ c.if-spelt-2.false, sym c.spelt-3.ensures ∙ c.if-spelt-3.false, sym c.spelt-4.ensures ∙ c.if-spelt-4.false) refl
