-- `laying::atoms::kind_code` meets its contract: only an equation's kind is not at most.
use mathlib.Core.Path.{refl}
use Rattle.terms.specs.declared.heads.HeadWord.{HeadWord}
use Rattle.terms.specs.Heads.{word_code, same_word}
use Rattle.laying.proofs.AtomNumbers.{no_equation}
use Rattle.laying.proofs.atoms.kind_code.Goals as goal

pub returns-in-Equal : goal.returns-in-Equal
returns-in-Equal c = rw c.in-Equal.is refl

pub returns-in_default : goal.returns-in_default
returns-in_default c = no_equation (word_code c.args.head) (λ e. c.in_default.not-Equal (same_word c.args.head HeadWord.Equal e))
