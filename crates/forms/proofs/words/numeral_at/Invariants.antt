use Rattle.forms.specs.Numerals.{DigitsSoFar}
use Rattle.forms.proofs.words.numeral_at.Given as goal

abbrev pub invariant-loop-i : goal.invariant-loop-i
invariant-loop-i l = DigitsSoFar l.text l.place l.next l.i l.value
