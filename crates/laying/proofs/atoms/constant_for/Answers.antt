-- `laying::atoms::constant_for` meets its contract.
use mathlib.Core.Path.{◌≡◌, ap, ◌∙◌}
use mathlib.Core.Logic.{⊎_elim}
use lib.IntN.{ℤ, pos, ◌-ℤ◌}
use mir.ValLaws.{to_z-of_z}
use Rattle.terms.specs.declared.heads.HeadWord.{HeadWord}
use Rattle.terms.specs.Heads.{word_code, same_word}
use Rattle.laying.proofs.AtomNumbers.{OtherSide, other_side, not_lowered}
use Rattle.laying.proofs.atoms.constant_for.Reads as reads
use Rattle.laying.proofs.atoms.constant_for.Lts as lts
use Rattle.laying.proofs.atoms.constant_for.Goals as goal
use Rattle.laying.proofs.atoms.constant_for.Goals.{Start}

at_start : (c : lts.Start reads.Pre reads.Post) → OtherSide c.args.collected
at_start c = other_side c.args.collected c.requires.1.1

pub overflow_sub-constant : goal.overflow_sub-constant
overflow_sub-constant c = let z = at_start c in simp (to_z-of_z, z.itself) z.other

pub overflow_sub-result : goal.overflow_sub-result
overflow_sub-result c = let z = at_start (goal.at.overflow_sub-result c).Start in simp (to_z-of_z, z.itself, z.other) z.lower

pub returns-in-Less : goal.returns-in-Less
returns-in-Less c =
    let z = at_start (goal.at.returns-in-Less c).Start in
    ⊎_elim
    (λ e. rw e (simp (to_z-of_z, z.itself, z.other, z.lower) (ap (λ (k : ℤ). k -ℤ pos 1) z.is)))
    (λ e. rw e (simp (to_z-of_z, z.itself, z.other, z.lower) (ap (λ (k : ℤ). k -ℤ pos 1) z.is)))
    c.in-Less.is

pub returns-in_default : goal.returns-in_default
returns-in_default c =
    let z = at_start (goal.at.returns-in_default c).Start in
    let other = λ (k : HeadWord) (n : c.args.head ≡ k → ⊥) (e : word_code c.args.head ≡ word_code k). n (same_word c.args.head k e) in
    simp (to_z-of_z, z.itself, z.other) (z.is ∙ not_lowered (word_code c.args.head) _ c.requires.0 c.requires.1.0 (other HeadWord.Less c.in_default.not-Less) (other HeadWord.Greater c.in_default.not-Greater))
