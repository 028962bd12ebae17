use Rattle.lexicon.specs.Steps.{hand_of}
use Rattle.forms.proofs.Scanning.{Spelling}
use Rattle.forms.proofs.ends.token_end.Given as goal

abbrev pub invariant-loop-i : goal.invariant-loop-i
invariant-loop-i l = Spelling l.text l.at (hand_of l.fn.first) l.i (hand_of l.state)
