-- `forms::words::numeral_at` meets its contract. Assumes nothing.
use Prim.Native.Nat.{◌<◌}
use native.Mathlib.Numerals.{add-one}
use native.Mathlib.Omega.{arith}
use lib.ListN.{length}
use mathlib.Core.Path.{sym, ◌∙◌}
use Rattle.forms.specs.Numerals.{digits_start, digits_end, digits_stop, digits_on}
use Rattle.forms.proofs.Wording.{no_numeral, numeral_read}
use Rattle.forms.proofs.words.numeral_at.Goals as goal

pub loop-i-init : goal.loop-i-init
loop-i-init c = digits_start _ _ _

pub returns-then-not-is_digit : goal.returns-then-not-is_digit
returns-then-not-is_digit c =
    let h = c.loop-i-test.true in
    let inside : c.loop-i.i < length c.args.text.now = omega (arith, c.requires.inside) in
    rw c.bare.ensures
    (no_numeral _ _ _ c.requires (digits_stop _ _ _ c.loop-i.i c.loop-i.value c.loop-i.invariant h inside (sym c.is_digit.ensures ∙ c.if-not-is_digit.true)))

pub grown-value-requires : goal.grown-value-requires
grown-value-requires c = (c.loop-i.invariant.small, sym c.is_digit.ensures ∙ c.if-not-is_digit.false)

pub loop-i-preserved : goal.loop-i-preserved
loop-i-preserved c =
    let h = c.loop-i-test.true in
    let inside : c.loop-i.i < length c.args.text.now = omega (arith, c.requires.inside) in
    rw add-one
    (digits_on _ _ _ c.loop-i.i c.loop-i.value c.loop-i.invariant h inside (sym c.is_digit.ensures ∙ c.if-not-is_digit.false) _ c.grown-value.ensures)

pub returns : goal.returns
returns c =
    let e = digits_end _ _ _ c.loop-i.i c.loop-i.value c.loop-i.invariant c.loop-i-test.false in
    numeral_read _ _ _ c.requires c.loop-i.value e.0 e.1
