-- `terms::words::name_index` meets its contract. The invariant: looked for from name i on, the name is found where it is found.
-- Assumes nothing.
use native.Mathlib.Omega.{arith}
use native.Mathlib.Nat.{sub-zero}
use mathlib.Core.Path.{sym, ◌∙◌}
use Rattle.lexicon.specs.Spots.{stretch}
use Rattle.terms.proofs.NameIndex.{index_here, index_next, index_end}
use Rattle.terms.proofs.words.name_index.Goals as goal

pub same_stretch-requires : goal.same_stretch-requires
same_stretch-requires c =
    let p = c.requires in
    let spans = p.0.spans c.loop-i.i c.loop-i-test.true in
    (p.1.0, p.1.1, spans.0, spans.1)

pub returns-then-same_stretch : goal.returns-then-same_stretch
returns-then-same_stretch c =
    let t = c.loop-i-test.true in
    let w = stretch c.args.text.now c.args.from c.args.to in
    (t, sym c.loop-i.invariant.1 ∙ index_here c.args.text.now c.args.names.now w c.args.count c.loop-i.i t (sym c.same_stretch.ensures ∙ c.if-same_stretch.true))

pub loop-i-preserved : goal.loop-i-preserved
loop-i-preserved c =
    let t = c.loop-i-test.true in
    let w = stretch c.args.text.now c.args.from c.args.to in
    (omega (arith, t), sym (index_next c.args.text.now c.args.names.now w c.args.count c.loop-i.i t (sym c.same_stretch.ensures ∙ c.if-same_stretch.false)) ∙ c.loop-i.invariant.1)

pub returns : goal.returns
returns c =
    let w = stretch c.args.text.now c.args.from c.args.to in
    sym c.loop-i.invariant.1 ∙ index_end c.args.text.now c.args.names.now w c.args.count c.loop-i.i c.loop-i-test.false

pub loop-i-init : goal.loop-i-init
loop-i-init c = (omega arith, rw (sub-zero c.args.count))
