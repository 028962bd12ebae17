-- `step::kinds_of` meets its contract. The invariant: the kinds of the codes passed are noted, with 0 past them.
use mathlib.Core.Path.{sym, ◌∙◌}
use Prim.Native.Nat.{◌≤◌, ◌<◌}
use native.Mathlib.Omega.{arith}
use lib.ListN.{length}
use lib.Seq.{take_all}
use Rattle.step.specs.Eight.{padded}
use Rattle.step.proofs.KindCodes.{noted_none, kind_passed, below_eight, kind_noted}
use Rattle.step.proofs.kinds_of.Goals as goal
use Rattle.step.proofs.kinds_of.Goals.{then-is_atom, else-is_atom}

pub loop-code-init : goal.loop-code-init
unfolding padded
loop-code-init c = noted_none c.args.codes.now

pub bounds-kinds-m : goal.bounds-kinds-m
bounds-kinds-m c =
    let h : c.loop-code.code-index < length c.args.codes.now = omega arith in
    below_eight c.loop-code.invariant h (sym c.is_atom.ensures ∙ c.if-is_atom.true) c.requires.1

pub overflow_add-m : goal.overflow_add-m
overflow_add-m c =
    let h : c.loop-code.code-index < length c.args.codes.now = omega arith in
    let b : c.loop-code.m < 8 = below_eight c.loop-code.invariant h (sym c.is_atom.ensures ∙ c.if-is_atom.true) c.requires.1 in
    record { fits = omega arith }

pub loop-code-preserved : goal.loop-code-preserved
loop-code-preserved c =
    let s = c.loop-code.invariant in
    let h : c.loop-code.code-index < length c.args.codes.now = omega arith in
    elim c.if-is_atom.branch [
      | then-is_atom w ↦ rw (w.kinds-is, w.m-is) (kind_noted s h (sym c.is_atom.ensures ∙ w.if-is_atom.true) c.requires.1)
      | else-is_atom w ↦ rw (w.kinds-is, w.m-is) (kind_passed s h (sym c.is_atom.ensures ∙ w.if-is_atom.false))
    ]

pub returns : goal.returns
returns c =
    let codes = c.args.codes.now in
    let all : length codes ≤ c.loop-code.code-index = omega arith in
    let s = c.loop-code.invariant in
    rw (sym (take_all c.loop-code.code-index codes all)) (s.kinds_are, s.count)
