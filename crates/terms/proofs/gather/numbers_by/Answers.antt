-- `terms::gather::numbers_by` meets its contract, by the head. Assumes nothing.
use native.Mathlib.Omega.{arith}
use mathlib.Core.Logic.{⊎_elim}
use borrow.Author.Tests.{ne_eqb, le-ltb}
use Rattle.smtlib.specs.Terms.{collected_fit}
use Rattle.terms.specs.Gathering.{numbers_by}
use Rattle.terms.specs.Heads.{word_code}
use Rattle.terms.proofs.HeadCodes.{larger_first}
use Rattle.terms.proofs.gather.numbers_by.Goals as goal

pub difference-requires : goal.difference-requires
unfolding collected_fit
difference-requires c = (tt, c.requires.0.first_fits.within_limit)

pub returns-in-Times : goal.returns-in-Times
unfolding numbers_by
returns-in-Times c = rw c.in-Times.is record { of_plus = λ e. absurd (omega (arith, e)); of_others = λ n. c.product.ensures }

pub returns-then-g-eq1 : goal.returns-then-g-eq1
unfolding numbers_by
returns-then-g-eq1 c = rw (c.in-Minus.is, c.if-g-eq1.true) record { of_plus = λ e. absurd (omega (arith, e)); of_others = λ n. c.difference.ensures }

pub returns-else-g-eq1 : goal.returns-else-g-eq1
unfolding numbers_by
returns-else-g-eq1 c = rw c.in-Minus.is record { of_plus = λ e. absurd (omega (arith, e)); of_others = λ n. rw (ne_eqb c.args.g.count 1 c.if-g-eq1.false) c.less.ensures }

pub returns-in-Equal : goal.returns-in-Equal
unfolding numbers_by
returns-in-Equal c =
    ⊎_elim
    (λ e. rw e record { of_plus = λ z. absurd (omega (arith, z)); of_others = λ n. c.less-in-Equal.ensures })
    (⊎_elim
    (λ e. rw e record { of_plus = λ z. absurd (omega (arith, z)); of_others = λ n. c.less-in-Equal.ensures })
    (λ e. rw e record { of_plus = λ z. absurd (omega (arith, z)); of_others = λ n. c.less-in-Equal.ensures }))
    c.in-Equal.is

pub returns-in_default : goal.returns-in_default
unfolding numbers_by
returns-in_default c =
    let d = c.in_default in
    let l = larger_first c.args.head d.not-Plus d.not-Minus d.not-Times d.not-Equal d.not-AtMost d.not-Less in
    let code = word_code c.args.head in
    record {
      of_plus = λ e. absurd (omega (arith, l, e));
      of_others = λ n. rw (ne_eqb code 2 (λ e. omega (arith, l, e)), ne_eqb code 1 (λ e. omega (arith, l, e)), le-ltb code 6 l) c.less-in_default.ensures;
    }
