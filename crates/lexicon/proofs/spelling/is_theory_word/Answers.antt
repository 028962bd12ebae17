-- `lexicon::spelling::is_theory_word` meets its contract: the words of each length are those that stand there. Assumes nothing.
use Prim.Native.Nat.{ℕ}
use native.Mathlib.Omega.{arith}
use mathlib.Core.Path.{refl, sym, ◌∙◌}
use mathlib.Core.List.{List, [], ◌∷◌}
use borrow.Author.Tests.{ne_eqb}
use lib.ListN.{length}
use Rattle.smtlib.specs.Spelling.{theory_words}
use Rattle.smtlib.specs.Lexicon.{among}
use Rattle.lexicon.specs.Spots.{stretch}
use Rattle.lexicon.proofs.Lengths.{listed, unlisted}
use Rattle.lexicon.proofs.spelling.is_theory_word.Goals as goal

pub returns-in-1 : goal.returns-in-1
returns-in-1 c = c.is_one_of.ensures ∙ listed _ theory_words 1 c.in-1.is

pub returns-in-2 : goal.returns-in-2
returns-in-2 c = c.is_one_of-in-2.ensures ∙ listed _ theory_words 2 c.in-2.is

pub returns-in-3 : goal.returns-in-3
returns-in-3 c = c.is_one_of-in-3.ensures ∙ listed _ theory_words 3 c.in-3.is

pub returns-in-4 : goal.returns-in-4
returns-in-4 c = c.is_one_of-in-4.ensures ∙ listed _ theory_words 4 c.in-4.is

pub returns-in-5 : goal.returns-in-5
returns-in-5 c = c.is_one_of-in-5.ensures ∙ listed _ theory_words 5 c.in-5.is

pub returns-in-8 : goal.returns-in-8
returns-in-8 c = c.is_one_of-in-8.ensures ∙ listed _ theory_words 8 c.in-8.is

-- the lengths that they have
abbrev lengths : List ℕ
lengths = 1 ∷ 2 ∷ 3 ∷ 4 ∷ 5 ∷ 8 ∷ []

pub returns-in_default : goal.returns-in_default
unfolding among
returns-in_default c =
    let w = stretch c.args.text.now c.args.from c.args.to in
    sym (unlisted lengths w theory_words refl (rw (ne_eqb (length w) 1 (omega arith), ne_eqb (length w) 2 (omega arith), ne_eqb (length w) 3 (omega arith), ne_eqb (length w) 4 (omega arith), ne_eqb (length w) 5 (omega arith), ne_eqb (length w) 8 (omega arith))))
