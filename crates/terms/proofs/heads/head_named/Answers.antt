-- `terms::heads::head_named` meets its contract: the goals are the words that are no head. Assumes nothing.
use native.Mathlib.Omega.{arith}
use Rattle.terms.proofs.HeadWords.{other_of_two, other_of_three, other_of_more}
use Rattle.terms.proofs.heads.head_named.Goals as goal

pub returns-in_default-6 : goal.returns-in_default-6
returns-in_default-6 c =
    let w = c.in_default in
    rw (other_of_two c.args.word.now (omega (arith, w.len_at_least, w.len_below)) (λ e. grind arith) (λ e. grind arith) (λ e. grind arith))

pub returns-in_default-11 : goal.returns-in_default-11
returns-in_default-11 c =
    let w = c.in_default in
    rw (other_of_three c.args.word.now (omega (arith, w.len_at_least, w.len_below)) (λ e. grind arith) (λ e. grind arith))

pub returns-in_default-12 : goal.returns-in_default-12
returns-in_default-12 c = rw (other_of_more c.args.word.now c.in_default.len_at_least)
