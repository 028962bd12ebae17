-- `laying::negates` meets its contract.
use mathlib.Core.Path.{refl}
use borrow.Author.Tests.{ne_eqb}
use Rattle.terms.specs.declared.heads.HeadWord.{HeadWord}
use Rattle.terms.specs.Heads.{word_code, same_word}
use Rattle.laying.proofs.negates.Goals as goal

pub returns-in-Not : goal.returns-in-Not
returns-in-Not c = rw c.in-Not.is refl

pub returns-in_default : goal.returns-in_default
returns-in_default c = rw (ne_eqb (word_code c.args.head) 8 (λ e. c.in_default.not-Not (same_word c.args.head HeadWord.Not e))) refl
