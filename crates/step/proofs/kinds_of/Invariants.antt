use Rattle.step.proofs.KindCodes.{KindsNoted}
use Rattle.step.proofs.kinds_of.Given as goal

abbrev pub invariant-loop-code : goal.invariant-loop-code
invariant-loop-code l = KindsNoted l.codes l.code-index l.kinds l.m
