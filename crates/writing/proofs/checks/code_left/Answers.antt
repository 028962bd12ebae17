-- `writing::checks::code_left` meets its contract: every code before i is zero.
use native.Mathlib.Omega.{arith}
use Rattle.writing.proofs.Sweeps.{left_again, left_found, left_none}
use Rattle.writing.proofs.checks.code_left.Goals as goal

pub returns-then-question-i-ne0 : goal.returns-then-question-i-ne0
returns-then-question-i-ne0 c = left_found _ _ _ (omega arith) c.if-question-i-ne0.true c.loop-i.invariant

pub loop-i-preserved : goal.loop-i-preserved
loop-i-preserved c = left_again _ _ _ (omega arith) c.if-question-i-ne0.false c.loop-i.invariant

pub returns : goal.returns
returns c = left_none _ _ _ (omega arith) c.loop-i.invariant
