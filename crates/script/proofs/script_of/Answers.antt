-- `script::script_of` meets its contract. The invariant: what is kept is the script so far, and the forms from the place on make the whole of it. Assumes nothing.
use native.Mathlib.Omega.{arith}
use Rattle.script.specs.Walking.{none_so_far, all_so_far, command_here, one_more}
use Rattle.script.proofs.script_of.Goals as goal

pub loop-form-init : goal.loop-form-init
loop-form-init c = none_so_far _ _ (c.none-kept.ensures _) c.requires

pub returns-then-form-lt-OPEN : goal.returns-then-form-lt-OPEN
returns-then-form-lt-OPEN c = all_so_far _ _ _ c.loop-form.invariant _ c.form_at-form.ensures.stands c.form_at-form.ensures.read c.if-form-lt-OPEN.true

pub command-more-requires : goal.command-more-requires
command-more-requires c =
    let l = c.loop-form.invariant in
    let k = c.if-form-lt-OPEN.false in
    (command_here _ _ _ l _ c.form_at-form.ensures.stands c.form_at-form.ensures.read, (l.keeps.names_stand, omega (arith, c.form_at-form.ensures.stands.goes_on (λ e. omega arith), c.form_at-form.ensures.stands.inside, c.form_at-form.ensures.stands.not_before, l.few)))

pub loop-form-smaller : goal.loop-form-smaller
loop-form-smaller c =
    let f = c.form_at-form.ensures.stands in
    let k = c.if-form-lt-OPEN.false in
    omega (arith, f.goes_on (λ e. omega arith))

pub loop-form-preserved : goal.loop-form-preserved
loop-form-preserved c =
    one_more _ _ _ c.loop-form.invariant _ c.form_at-form.ensures.stands c.form_at-form.ensures.read c.if-form-lt-OPEN.false _ c.command-more.ensures _ c.form_end-next.ensures.stands.0 c.form_end-next.ensures.stands.1 c.form_end-next.ensures.behind

pub form_at-form-requires : goal.form_at-form-requires
form_at-form-requires c = c.loop-form.invariant.here

pub form_end-next-requires : goal.form_end-next-requires
form_end-next-requires c = c.form_at-form.ensures.stands.inside
