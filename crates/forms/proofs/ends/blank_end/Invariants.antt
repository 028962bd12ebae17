use Rattle.lexicon.specs.Steps.{hand_of}
use Rattle.forms.proofs.Scanning.{Skipping}
use Rattle.forms.proofs.ends.blank_end.Given as goal

abbrev pub invariant-loop-i : goal.invariant-loop-i
invariant-loop-i l = Skipping l.text l.at l.i (hand_of l.state)
