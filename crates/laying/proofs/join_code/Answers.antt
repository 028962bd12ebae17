-- `laying::join_code` meets its contract.
use mathlib.Core.Path.{refl}
use borrow.Author.Tests.{ne_eqb}
use Rattle.terms.specs.declared.heads.HeadWord.{HeadWord}
use Rattle.terms.specs.Heads.{word_code, same_word}
use Rattle.laying.proofs.join_code.Goals as goal

pub returns-in-Or : goal.returns-in-Or
returns-in-Or c = rw c.in-Or.is refl

pub returns-in_default : goal.returns-in_default
returns-in_default c = rw (ne_eqb (word_code c.args.head) 10 (λ e. c.in_default.not-Or (same_word c.args.head HeadWord.Or e))) refl
