-- `judge::worths_of` meets its contract. The invariant: the atoms that stand before a node are noted.
use Rattle.std.proofs.Common.{sym, ◌∙◌, arith}
use Rattle.judge.proofs.Noting.{noted_start, noted_skip, noted_more, noted_all, atom_within, atom_summable}
use Rattle.judge.proofs.worths_of.Goals as goal
use Rattle.judge.proofs.worths_of.Goals.{then-is_atom, else-is_atom}

pub loop-code-init : goal.loop-code-init
loop-code-init c = noted_start c.requires

pub holds-requires : goal.holds-requires
holds-requires c =
    let t = sym c.is_atom.ensures ∙ c.if-is_atom.true in
    (atom_within c.requires c.loop-code.invariant c.loop-code-test.true t, atom_summable c.requires c.loop-code.invariant c.loop-code-test.true t)

pub bounds-worths-atom : goal.bounds-worths-atom
bounds-worths-atom c = atom_within c.requires c.loop-code.invariant c.loop-code-test.true (sym c.is_atom.ensures ∙ c.if-is_atom.true)

pub overflow_add-atom : goal.overflow_add-atom
overflow_add-atom c =
    let h = atom_within c.requires c.loop-code.invariant c.loop-code-test.true (sym c.is_atom.ensures ∙ c.if-is_atom.true) in
    record { fits = omega (arith, h) }

pub loop-code-preserved : goal.loop-code-preserved
loop-code-preserved c =
    elim c.if-is_atom.branch [
      | then-is_atom w ↦ rw (w.worths-is, w.atom-is) (noted_more c.requires c.loop-code.invariant c.loop-code-test.true (sym c.is_atom.ensures ∙ w.if-is_atom.true) w.holds.result w.holds.ensures)
      | else-is_atom w ↦ rw (w.worths-is, w.atom-is) (noted_skip c.requires c.loop-code.invariant c.loop-code-test.true (sym c.is_atom.ensures ∙ w.if-is_atom.false))
    ]

pub returns : goal.returns
returns c = noted_all c.requires c.loop-code.invariant (omega arith)
