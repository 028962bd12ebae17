-- The proof of the cycle of calls {lay_into, lay_joined}. `lay_into` at nesting k calls `lay_joined` at k - 1, which calls `lay_into` at its own nesting,
-- in its loop: the measure is 2k for `lay_into` and 2k + 1 for `lay_joined`. The loop's invariant: what is still to be laid gives the whole. Its measure is
-- the bytes left. Assumes nothing.
use native.Mathlib.Omega.{arith}
use mathlib.Core.Path.{sym, ◌∙◌}
use Rattle.std.proofs.lemmas.Result.{err_from_is_err_and}
use Rattle.terms.specs.Names.{names_in}
use Rattle.terms.specs.Heads.{word_code}
use Rattle.laying.proofs.LaidLists.{headed_here, nesting_left, parts_inside, head_least, no_comparison, sides_further, sides_clause, parts_sound, parts_ready, negation_refused, join_code_bounds, parts_refused, parts_clause, parts_begun, part_faultless, part_further, begun_ready, join_stopped, last_laid, part_stopped, parts_onward}
use Rattle.laying.proofs.+lay_into_lay_joined.Goals as goal

pub lay_into-list_at-list-requires : goal.lay_into-list_at-list-requires
lay_into-list_at-list-requires t c =
    c.requires.1.0.here

pub lay_into-overflow_sub-left : goal.lay_into-overflow_sub-left
lay_into-overflow_sub-left t c =
    let pre = c.requires in
    let names = names_in c.args.text.now c.args.names.now c.args.count in
    let g = headed_here names pre.1.0 c.list_at-list.ensures.starts pre.1.1.1 in nesting_left pre.1.0 g

pub lay_into-lay_sides-requires : goal.lay_into-lay_sides-requires
lay_into-lay_sides-requires t c =
    let pre = c.requires in
    let names = names_in c.args.text.now c.args.names.now c.args.count in
    let g = headed_here names pre.1.0 c.list_at-list.ensures.starts pre.1.1.1 in
    (pre.0, (parts_inside pre.1.0 g c.list_at-list.ensures.inside, (pre.1.1.0, (rw c.in-Comparison.is at c.kind.ensures))))

pub lay_into-returns-in-Comparison-clause-inside : goal.lay_into-returns-in-Comparison-clause-inside
lay_into-returns-in-Comparison-clause-inside t c =
    let pre = c.requires in
    let names = names_in c.args.text.now c.args.names.now c.args.count in
    let g = headed_here names pre.1.0 c.list_at-list.ensures.starts pre.1.1.1 in
    sides_further c.args.at _ _ _ g.further c.lay_sides.ensures.inside

pub lay_into-returns-in-Comparison-clause-laid : goal.lay_into-returns-in-Comparison-clause-laid
lay_into-returns-in-Comparison-clause-laid t c =
    let pre = c.requires in
    let names = names_in c.args.text.now c.args.names.now c.args.count in
    let g = headed_here names pre.1.0 c.list_at-list.ensures.starts pre.1.1.1 in
    sides_clause pre.1.0 g c.args.laying.now _ c.lay_sides.ensures.laid

pub lay_into-deepen_within-requires : goal.lay_into-deepen_within-requires
lay_into-deepen_within-requires t c =
    (c.requires.1.1.0, (omega arith, omega arith))

pub lay_into-returns-in_err-deepen_within-clause-laid : goal.lay_into-returns-in_err-deepen_within-clause-laid
lay_into-returns-in_err-deepen_within-clause-laid t c =
    let pre = c.requires in
    let names = names_in c.args.text.now c.args.names.now c.args.count in
    let g = headed_here names pre.1.0 c.list_at-list.ensures.starts pre.1.1.1 in
    let p = err_from_is_err_and c.from_residual.result c.from_residual.ensures.1 in
    let k = rw c.negates.ensures at c.in_err-deepen_within.ensures in
    rw (p.1, p.2) (negation_refused pre.1.0 g (no_comparison _ c.kind.ensures c.in_default.not-Comparison (head_least pre.1.0 g)) c.args.laying.now _ k.0 k.1)

pub lay_into-lay_joined-requires : goal.lay_into-lay_joined-requires
lay_into-lay_joined-requires t c =
    let pre = c.requires in
    let names = names_in c.args.text.now c.args.names.now c.args.count in
    let g = headed_here names pre.1.0 c.list_at-list.ensures.starts pre.1.1.1 in
    (omega (arith, nesting_left pre.1.0 g), (pre.0, (parts_inside pre.1.0 g c.list_at-list.ensures.inside, (parts_ready pre.1.0 g (no_comparison _ c.kind.ensures c.in_default.not-Comparison (head_least pre.1.0 g)) c.args.laying.now _ pre.1.1.0 (rw c.negates.ensures at c.in_ok-deepen_within.ensures), (rw c.join_code-code.ensures (join_code_bounds (word_code c.list_at-list.result.head)), parts_sound pre.1.0 g (no_comparison _ c.kind.ensures c.in_default.not-Comparison (head_least pre.1.0 g)) c.args.laying.now)))))

pub lay_into-returns-in_err-next-clause-laid : goal.lay_into-returns-in_err-next-clause-laid
lay_into-returns-in_err-next-clause-laid t c =
    let pre = c.requires in
    let names = names_in c.args.text.now c.args.names.now c.args.count in
    let g = headed_here names pre.1.0 c.list_at-list.ensures.starts pre.1.1.1 in
    let p = err_from_is_err_and c.from_residual-in_err-next.result c.from_residual-in_err-next.ensures.1 in
    rw (p.1, p.2) (parts_refused pre.1.0 g (no_comparison _ c.kind.ensures c.in_default.not-Comparison (head_least pre.1.0 g)) c.args.laying.now _ pre.1.1.0 (rw c.negates.ensures at c.in_ok-deepen_within.ensures) _ (rw c.join_code-code.ensures at c.in_err-next.ensures.laid))

pub lay_into-returns-clause-inside : goal.lay_into-returns-clause-inside
lay_into-returns-clause-inside t c =
    let pre = c.requires in
    let names = names_in c.args.text.now c.args.names.now c.args.count in
    let g = headed_here names pre.1.0 c.list_at-list.ensures.starts pre.1.1.1 in
    let inside = c.in_ok-next.ensures.inside in
    (omega (arith, g.further, inside.0), inside.1)

pub lay_into-returns-clause-laid : goal.lay_into-returns-clause-laid
lay_into-returns-clause-laid t c =
    let pre = c.requires in
    let names = names_in c.args.text.now c.args.names.now c.args.count in
    let g = headed_here names pre.1.0 c.list_at-list.ensures.starts pre.1.1.1 in
    rw c.at_depth.ensures (parts_clause pre.1.0 g (no_comparison _ c.kind.ensures c.in_default.not-Comparison (head_least pre.1.0 g)) c.args.laying.now _ pre.1.1.0 (rw c.negates.ensures at c.in_ok-deepen_within.ensures) _ (rw c.join_code-code.ensures at c.in_ok-next.ensures.laid))

pub lay_joined-loop-laying-init : goal.lay_joined-loop-laying-init
lay_joined-loop-laying-init t c =
    let pre = c.requires in
    (omega arith, (pre.1.0.here, parts_begun _ _ _ _ _ _ _ pre.1.1.1.1 pre.1.0.unbroken pre.1.1.0))

pub lay_joined-part_end-end-requires : goal.lay_joined-part_end-end-requires
lay_joined-part_end-end-requires t c =
    c.loop-laying.invariant.1.0

pub lay_joined-deepen_within-requires : goal.lay_joined-deepen_within-requires
lay_joined-deepen_within-requires t c =
    let code = c.requires.1.1.1.0 in
    (c.loop-laying.invariant.1.1.joins.ready, (omega (arith, code.0), code.1))

pub lay_joined-returns-in_err-deepen_within-clause-laid : goal.lay_joined-returns-in_err-deepen_within-clause-laid
lay_joined-returns-in_err-deepen_within-clause-laid t c =
    let pre = c.requires in
    let j = c.loop-laying.invariant.1.1 in
    let p = err_from_is_err_and c.from_residual.result c.from_residual.ensures.1 in
    let k = c.in_err-deepen_within.ensures in
    rw (p.1, p.2) (join_stopped j c.part_end-end.result (omega (arith, pre.1.0.left)) pre.1.1.1.0.0 pre.1.1.1.0.1 c.part_end-end.ensures.ends (sym c.is_some.ensures ∙ k.0) _ k.1)

pub lay_joined-lay_into-requires : goal.lay_joined-lay_into-requires
lay_joined-lay_into-requires t c =
    let pre = c.requires in
    let j = c.loop-laying.invariant.1.1 in
    (omega arith, (pre.0, (record { here = c.loop-laying.invariant.1.0; left = pre.1.0.left; unbroken = j.unbroken }, (begun_ready j c.part_end-end.result (omega (arith, pre.1.0.left)) pre.1.1.1.0.0 pre.1.1.1.0.1 c.part_end-end.ensures.ends _ (rw c.is_some.ensures at c.in_ok-deepen_within.ensures), part_faultless j))))

pub lay_joined-returns-in_err-behind-clause-laid : goal.lay_joined-returns-in_err-behind-clause-laid
lay_joined-returns-in_err-behind-clause-laid t c =
    let pre = c.requires in
    let j = c.loop-laying.invariant.1.1 in
    let p = err_from_is_err_and c.from_residual-in_err-behind.result c.from_residual-in_err-behind.ensures.1 in
    rw (p.1, p.2) (part_stopped j c.part_end-end.result (omega (arith, pre.1.0.left)) pre.1.1.1.0.0 pre.1.1.1.0.1 c.part_end-end.ensures.ends _ (rw c.is_some.ensures at c.in_ok-deepen_within.ensures) _ (rw c.in_err-behind.was at c.lay_into.ensures.laid))

pub lay_joined-returns-in_default-clause-inside : goal.lay_joined-returns-in_default-clause-inside
lay_joined-returns-in_default-clause-inside t c =
    let pre = c.requires in
    let j = c.loop-laying.invariant.1.1 in
    let further = part_further j c.part_end-end.result (omega (arith, pre.1.0.left)) pre.1.1.1.0.0 pre.1.1.1.0.1 c.part_end-end.ensures.ends in
    (omega (arith, further, c.loop-laying.invariant.0), c.part_end-end.ensures.inside)

pub lay_joined-returns-in_default-clause-laid : goal.lay_joined-returns-in_default-clause-laid
lay_joined-returns-in_default-clause-laid t c =
    let pre = c.requires in
    let j = c.loop-laying.invariant.1.1 in
    rw c.at_depth.ensures (last_laid j c.part_end-end.result (omega (arith, pre.1.0.left)) pre.1.1.1.0.0 pre.1.1.1.0.1 c.part_end-end.ensures.ends _ (rw c.is_some.ensures at c.in_ok-deepen_within.ensures) _ (rw c.in_ok-behind.was at c.lay_into.ensures.laid) c.in_default.is)

pub lay_joined-loop-laying-smaller : goal.lay_joined-loop-laying-smaller
lay_joined-loop-laying-smaller t c =
    omega (arith, c.in_ok-behind.ensures.inside.0, c.in_ok-behind.ensures.inside.1)

pub lay_joined-loop-laying-preserved : goal.lay_joined-loop-laying-preserved
lay_joined-loop-laying-preserved t c =
    let pre = c.requires in
    let j = c.loop-laying.invariant.1.1 in
    let inside = c.in_ok-behind.ensures.inside in
    (omega (arith, inside.0), (inside.1, parts_onward j c.part_end-end.result (omega (arith, pre.1.0.left)) pre.1.1.1.0.0 pre.1.1.1.0.1 c.part_end-end.ensures.ends _ (rw c.is_some.ensures at c.in_ok-deepen_within.ensures) _ (rw c.in_ok-behind.was at c.lay_into.ensures.laid) _ c.in-Some.is))
