-- The proof of the cycle of calls {clause_from, clauses_from}. `clause_from` at nesting k calls `clauses_from` at k - 1, which calls `clause_from` at
-- its own nesting, in its loop: the measure is 2k for `clause_from` and 2k + 1 for `clauses_from`. The loop's invariant: the formulas read so far are
-- gathered, and there are no more of them than bytes. Its measure is the bytes left. Assumes nothing.
use native.Mathlib.Omega.{arith}
use Rattle.clauses.proofs.Faults.{no_formula}
use Rattle.clauses.proofs.Reading.{goes_further, part_ended, part_word, nesting_left, part_outside, parts_inside, part_list, none_gathered, one_gathered, all_gathered}
use Rattle.clauses.proofs.+clause_from_clauses_from.Goals as goal

pub clause_from-returns-then-form-lt-OPEN : goal.clause_from-returns-then-form-lt-OPEN
clause_from-returns-then-form-lt-OPEN t c =
    let inside = c.requires.1 in
    record {
      inside = (goes_further inside (c.form_at-form.ensures.stands, c.form_at-form.ensures.read), c.form_at-form.ensures.stands.inside);
      read = part_ended inside (c.form_at-form.ensures.stands, c.form_at-form.ensures.read) c.if-form-lt-OPEN.true;
    }

pub clause_from-returns-then-form-ne-OPEN : goal.clause_from-returns-then-form-ne-OPEN
clause_from-returns-then-form-ne-OPEN t c =
    let inside = c.requires.1 in
    rw c.of.ensures (record {
      inside = (goes_further inside (c.form_at-form.ensures.stands, c.form_at-form.ensures.read), c.form_at-form.ensures.stands.inside);
      read = part_word inside (c.form_at-form.ensures.stands, c.form_at-form.ensures.read) c.if-form-lt-OPEN.false c.if-form-ne-OPEN.true;
    })

pub clause_from-returns-in_default : goal.clause_from-returns-in_default
clause_from-returns-in_default t c =
    let inside = c.requires.1 in
    let further = goes_further inside (c.form_at-form.ensures.stands, c.form_at-form.ensures.read) in
    let none = no_formula _ c.kind.ensures c.in_default.not-Comparison c.in_default.not-Connective in
    rw c.of-in_default.ensures (record {
      inside = omega (arith, further);
      read = part_outside inside (c.form_at-form.ensures.stands, c.form_at-form.ensures.read) c.if-form-ne-OPEN.false _ c.head_at-head.ensures.read none c.list_end.ensures.closed;
    })

pub clause_from-overflow_sub-left : goal.clause_from-overflow_sub-left
clause_from-overflow_sub-left t c =
    nesting_left c.requires.1 (c.form_at-form.ensures.stands, c.form_at-form.ensures.read) c.if-form-ne-OPEN.false

pub clause_from-sides_from-requires : goal.clause_from-sides_from-requires
clause_from-sides_from-requires t c =
    let pre = c.requires in
    let says = rw c.in-Comparison.is at c.kind.ensures in
    (pre.0, (parts_inside pre.1 (c.form_at-form.ensures.stands, c.form_at-form.ensures.read) c.if-form-ne-OPEN.false _ c.head_at-head.ensures.read (omega (arith, says.1)) c.head_at-head.ensures.stands.1, says))

pub clause_from-returns-in-Comparison : goal.clause_from-returns-in-Comparison
clause_from-returns-in-Comparison t c =
    let inside = c.requires.1 in
    let further = goes_further inside (c.form_at-form.ensures.stands, c.form_at-form.ensures.read) in
    let says = rw c.in-Comparison.is at c.kind.ensures in
    record {
      inside = omega (arith, further);
      read = part_list inside (c.form_at-form.ensures.stands, c.form_at-form.ensures.read) c.if-form-ne-OPEN.false _ c.head_at-head.ensures.read (omega (arith, says.1)) _ c.sides_from.ensures.read;
    }

pub clause_from-clauses_from-requires : goal.clause_from-clauses_from-requires
clause_from-clauses_from-requires t c =
    let pre = c.requires in
    let left = nesting_left pre.1 (c.form_at-form.ensures.stands, c.form_at-form.ensures.read) c.if-form-ne-OPEN.false in
    let says = rw c.in-Connective.is at c.kind.ensures in
    (omega (arith, left), (pre.0, (parts_inside pre.1 (c.form_at-form.ensures.stands, c.form_at-form.ensures.read) c.if-form-ne-OPEN.false _ c.head_at-head.ensures.read says.1 c.head_at-head.ensures.stands.1, says)))

pub clause_from-returns-in-Connective : goal.clause_from-returns-in-Connective
clause_from-returns-in-Connective t c =
    let inside = c.requires.1 in
    let further = goes_further inside (c.form_at-form.ensures.stands, c.form_at-form.ensures.read) in
    let says = rw c.in-Connective.is at c.kind.ensures in
    record {
      inside = omega (arith, further);
      read = part_list inside (c.form_at-form.ensures.stands, c.form_at-form.ensures.read) c.if-form-ne-OPEN.false _ c.head_at-head.ensures.read says.1 _ c.clauses_from.ensures.read;
    }

pub clauses_from-loop-found-init : goal.clauses_from-loop-found-init
clauses_from-loop-found-init t c =
    (omega arith, (omega arith, none_gathered c.requires.1.0.unbroken))

pub clauses_from-clause_from-part-requires : goal.clauses_from-clause_from-part-requires
clauses_from-clause_from-part-requires t c =
    (omega arith, (c.requires.0, record { here = c.loop-found.invariant.1.0; left = c.requires.1.0.left; unbroken = c.loop-found.invariant.1.1.unbroken }))

pub clauses_from-returns-in_default : goal.clauses_from-returns-in_default
clauses_from-returns-in_default t c =
    let bounds = c.requires.1.1 in
    rw (c.of.ensures, c.connected-all.ensures) (record {
      inside = omega (arith, c.clause_from-part.ensures.inside.0);
      read = all_gathered _ c.loop-found.invariant.1.1 (c.clause_from-part.ensures.read.no_more c.in_default.is) bounds.0 bounds.1;
    })

pub clauses_from-loop-found-preserved : goal.clauses_from-loop-found-preserved
clauses_from-loop-found-preserved t c =
    (omega arith, (omega arith, one_gathered c.loop-found.invariant.1.1 (c.clause_from-part.ensures.read.one_more _ c.in-Some.is) c.lower-least.ensures))
