-- `lexicon::spelling::is_reserved` meets its contract: the words of each length are those that stand there. Assumes nothing.
use native.Mathlib.Omega.{arith}
use mathlib.Core.Path.{◌∙◌}
use Rattle.smtlib.specs.Spelling.{reserved_words}
use Rattle.lexicon.proofs.Lengths.{listed}
use Rattle.lexicon.proofs.spelling.is_reserved.Goals as goal

pub returns-in-0 : goal.returns-in-0
returns-in-0 c = listed _ reserved_words 0 c.in-0.is

pub returns-in-1 : goal.returns-in-1
returns-in-1 c = c.is_one_of.ensures ∙ listed _ reserved_words 1 c.in-1.is

pub returns-in-2 : goal.returns-in-2
returns-in-2 c = c.is_one_of-in-2.ensures ∙ listed _ reserved_words 2 c.in-2.is

pub returns-in-3 : goal.returns-in-3
returns-in-3 c = c.is_one_of-in-3.ensures ∙ listed _ reserved_words 3 c.in-3.is

pub returns-in-4 : goal.returns-in-4
returns-in-4 c = c.is_one_of-in-4.ensures ∙ listed _ reserved_words 4 c.in-4.is

pub returns-in-5 : goal.returns-in-5
returns-in-5 c = c.is_one_of-in-5.ensures ∙ listed _ reserved_words 5 c.in-5.is

pub returns-in-6 : goal.returns-in-6
returns-in-6 c = c.is_one_of-in-6.ensures ∙ listed _ reserved_words 6 c.in-6.is

pub returns-in-7 : goal.returns-in-7
returns-in-7 c = c.is_one_of-in-7.ensures ∙ listed _ reserved_words 7 c.in-7.is

pub returns-in-8 : goal.returns-in-8
returns-in-8 c = c.is_one_of-in-8.ensures ∙ listed _ reserved_words 8 c.in-8.is

pub returns-in-9 : goal.returns-in-9
returns-in-9 c = c.is_one_of-in-9.ensures ∙ listed _ reserved_words 9 c.in-9.is

pub returns-in-10 : goal.returns-in-10
returns-in-10 c = c.is_one_of-in-10.ensures ∙ listed _ reserved_words 10 c.in-10.is

pub returns-in-11 : goal.returns-in-11
returns-in-11 c = c.is_one_of-in-11.ensures ∙ listed _ reserved_words 11 c.in-11.is

pub returns-in-12 : goal.returns-in-12
returns-in-12 c = c.is_one_of-in-12.ensures ∙ listed _ reserved_words 12 c.in-12.is

pub is_long_reserved-requires : goal.is_long_reserved-requires
is_long_reserved-requires c = omega arith
