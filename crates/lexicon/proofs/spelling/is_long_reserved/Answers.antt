-- `lexicon::spelling::is_long_reserved` meets its contract: the words of each length are those that stand there. Assumes nothing.
use Prim.Native.Nat.{ℕ}
use native.Mathlib.Omega.{arith}
use mathlib.Core.Path.{refl, sym, ◌∙◌}
use mathlib.Core.List.{List, [], ◌∷◌}
use borrow.Author.Tests.{ne_eqb}
use lib.ListN.{length}
use Rattle.smtlib.specs.Spelling.{reserved_words}
use Rattle.smtlib.specs.Lexicon.{among}
use Rattle.lexicon.proofs.Lengths.{listed, unlisted}
use Rattle.lexicon.proofs.spelling.is_long_reserved.Goals as goal

pub returns-in-13 : goal.returns-in-13
returns-in-13 c = c.is_one_of.ensures ∙ listed _ reserved_words 13 c.in-13.is

pub returns-in-14 : goal.returns-in-14
returns-in-14 c = c.is_one_of-in-14.ensures ∙ listed _ reserved_words 14 c.in-14.is

pub returns-in-15 : goal.returns-in-15
returns-in-15 c = c.is_one_of-in-15.ensures ∙ listed _ reserved_words 15 c.in-15.is

pub returns-in-16 : goal.returns-in-16
returns-in-16 c = c.is_one_of-in-16.ensures ∙ listed _ reserved_words 16 c.in-16.is

pub returns-in-17 : goal.returns-in-17
returns-in-17 c = c.is_one_of-in-17.ensures ∙ listed _ reserved_words 17 c.in-17.is

pub returns-in-18 : goal.returns-in-18
returns-in-18 c = c.is_one_of-in-18.ensures ∙ listed _ reserved_words 18 c.in-18.is

pub returns-in-21 : goal.returns-in-21
returns-in-21 c = c.is_one_of-in-21.ensures ∙ listed _ reserved_words 21 c.in-21.is

-- the lengths that they have
abbrev lengths : List ℕ
lengths = 1 ∷ 2 ∷ 3 ∷ 4 ∷ 5 ∷ 6 ∷ 7 ∷ 8 ∷ 9 ∷ 10 ∷ 11 ∷ 12 ∷ 13 ∷ 14 ∷ 15 ∷ 16 ∷ 17 ∷ 18 ∷ 21 ∷ []

pub returns-in_default : goal.returns-in_default
unfolding among
returns-in_default c =
    let w = c.args.word.now in
    sym (unlisted lengths w reserved_words refl (rw (ne_eqb (length w) 1 (omega arith), ne_eqb (length w) 2 (omega arith), ne_eqb (length w) 3 (omega arith), ne_eqb (length w) 4 (omega arith), ne_eqb (length w) 5 (omega arith), ne_eqb (length w) 6 (omega arith), ne_eqb (length w) 7 (omega arith), ne_eqb (length w) 8 (omega arith), ne_eqb (length w) 9 (omega arith), ne_eqb (length w) 10 (omega arith), ne_eqb (length w) 11 (omega arith), ne_eqb (length w) 12 (omega arith), ne_eqb (length w) 13 (omega arith), ne_eqb (length w) 14 (omega arith), ne_eqb (length w) 15 (omega arith), ne_eqb (length w) 16 (omega arith), ne_eqb (length w) 17 (omega arith), ne_eqb (length w) 18 (omega arith), ne_eqb (length w) 21 (omega arith))))
