-- `terms::head_at` meets its contract. Assumes nothing.
use native.Mathlib.Omega.{arith}
use mathlib.Core.Path.{refl}
use Rattle.forms.specs.Read.{FormReads}
use Rattle.terms.specs.Heads.{HeadReads}
use Rattle.terms.proofs.HeadForms.{symbol_head, no_head}
use Rattle.terms.proofs.head_at.Goals as goal

pub returns-then-form-eq-SYMBOL : goal.returns-then-form-eq-SYMBOL
unfolding HeadReads FormReads
returns-then-form-eq-SYMBOL c =
    let goes = c.form_at-form.ensures.stands.goes_on (λ e. omega arith) in
    record {
      stands = (omega arith, c.form_at-form.ensures.stands.inside);
      read = λ depth u. symbol_head (c.form_at-form.ensures.read depth u) c.if-form-eq-SYMBOL.true refl c.head_between.ensures;
    }

pub returns : goal.returns
unfolding HeadReads FormReads
returns c =
    record {
      stands = (omega arith, c.requires);
      read = λ depth u. no_head (c.form_at-form.ensures.read depth u) c.form_at-form.ensures.stands.kind_known c.if-form-eq-SYMBOL.false refl;
    }
