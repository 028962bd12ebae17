-- `formula::settle`: a law of Nodes for each way that it returns.
use Rattle.std.proofs.Common.{arith, rules, ⊎_elim, get_or, ◌≡◌}
use Rattle.formula.proofs.Words.{none_words, both_words, either_words}
use Rattle.formula.proofs.Nodes.{low_code, high_code, too_deep, past_the_end, settles_unused, settles_none, settles_atom, settles_not, settles_and, settles_or}
use Rattle.formula.proofs.+settle.Goals as goal
use Rattle.formula.proofs.+settle.Goals.{in_default-via-then-code-lt1, in_default-via-in-1+else-atom-lt-ATOMS, in_default-via-else-code-lt1+else-code-lt3+else-code-lt6}

pub returns-then-depth-eq0 : goal.returns-then-depth-eq0
returns-then-depth-eq0 t c =
    rw c.falsehood.ensures (⊎_elim (λ d. too_deep c.requires none_words d) (λ p. past_the_end c.requires none_words p.0 p.1) c.then-depth-eq0.either)

pub returns-in-1 : goal.returns-in-1
returns-in-1 t c =
    settles_atom c.requires c.atom_words.ensures c.if-depth-eq0.false c.if-node-eq-NODES.false (omega arith) (omega arith) (omega arith)

pub returns-in-3 : goal.returns-in-3
returns-in-3 t c =
    settles_not c.requires c.denied-truths.ensures c.if-depth-eq0.false c.if-node-eq-NODES.false c.in-3.is c.settle-p.ensures

pub returns-then-code-eq4 : goal.returns-then-code-eq4
returns-then-code-eq4 t c =
    settles_and c.requires (both_words c.settle-p-in-4.result.truths c.settle-r.result.truths c.joined-truths.ensures.four (λ i l. let h = c.joined-truths.ensures.each i l in search rules)) c.if-depth-eq0.false c.if-node-eq-NODES.false c.if-code-eq4.true c.settle-p-in-4.ensures c.settle-r.ensures

pub returns-else-code-eq4 : goal.returns-else-code-eq4
returns-else-code-eq4 t c =
    let five : get_or c.args.codes.now c.args.node 0 ≡ 5 = omega (arith, c.in-4, c.if-code-eq4.false) in
    settles_or c.requires (either_words c.settle-p-in-4.result.truths c.settle-r.result.truths c.joined-truths-in-4.ensures.four (λ i l. let h = c.joined-truths-in-4.ensures.each i l in search rules)) c.if-depth-eq0.false c.if-node-eq-NODES.false five c.settle-p-in-4.ensures c.settle-r.ensures

pub returns-in_default : goal.returns-in_default
returns-in_default t c =
    let code = get_or c.args.codes.now c.args.node 0 in
    rw c.falsehood-in_default.ensures
    (elim c.in_default.branch [
      | in_default-via-then-code-lt1 w ↦ settles_unused c.requires none_words c.if-depth-eq0.false c.if-node-eq-NODES.false (low_code code (omega arith))
      | in_default-via-in-1+else-atom-lt-ATOMS w ↦ settles_none c.requires none_words c.if-depth-eq0.false c.if-node-eq-NODES.false (omega arith) (omega arith) (omega (arith, c.requires.atom_within))
      | in_default-via-else-code-lt1+else-code-lt3+else-code-lt6 w ↦ settles_unused c.requires none_words c.if-depth-eq0.false c.if-node-eq-NODES.false (high_code code (omega arith))
    ])
