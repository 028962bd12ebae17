-- `script::listed::command_at` meets its contract. Assumes nothing.
use mathlib.Core.Path.{refl}
use native.Mathlib.Omega.{arith}
use Rattle.script.proofs.Listing.{other_read, reserved_read}
use Rattle.script.proofs.listed.command_at.Goals as goal

pub returns-then-form-ne-RESERVED : goal.returns-then-form-ne-RESERVED
returns-then-form-ne-RESERVED c =
    record {
      inside = (c.form_at-form.ensures.stands.inside, λ h. absurd (h refl));
      read = other_read _ _ _ c.form_at-form.ensures.read c.form_at-form.ensures.stands c.if-form-ne-RESERVED.true;
    }

pub returns : goal.returns
returns c =
    let k = c.if-form-ne-RESERVED.false in
    record {
      inside = (c.form_at-form.ensures.stands.inside, λ h. omega (arith, c.form_at-form.ensures.stands.goes_on (λ e. omega arith)));
      read = reserved_read _ _ _ c.form_at-form.ensures.read c.form_at-form.ensures.stands _ c.if-form-ne-RESERVED.false c.command_name.ensures;
    }
