use Rattle.lexicon.specs.Steps.{hand_of}
use Rattle.forms.proofs.Scanning.{Counting}
use Rattle.forms.proofs.list_end.Given as goal

abbrev pub invariant-loop-i : goal.invariant-loop-i
invariant-loop-i l = Counting l.text l.at l.i (hand_of l.state) l.left
