-- `path::found` meets its contract: whether the word fits is the test of the definition, and its last letter is put behind the row's word.
use mathlib.Core.Path.{◌∙◌}
use native.Mathlib.Omega.{arith}
use lib.ListN.{length-set}
use Rattle.path.specs.Path.{path_word_short}
use Rattle.path.specs.Answering.{answers_short, answers_found}
use Rattle.path.proofs.found.Goals as goal

pub overflow_add-letters : goal.overflow_add-letters
overflow_add-letters c = omega (arith, c.word_length-before.ensures, path_word_short c.requires.linked, c.requires.linked.room)

pub returns-then-word-letters : goal.returns-then-word-letters
returns-then-word-letters c =
    answers_short c.args.path.now c.args.word.now c.args.states c.args.row c.args.letter c.word_length-before.result c.word_length-before.ensures c.if-word-letters.true

pub overflow_cast-word : goal.overflow_cast-word
overflow_cast-word c = omega (arith, c.requires.letter_ok)

pub write_word-requires : goal.write_word-requires
write_word-requires c =
    record { path_linked = c.requires.linked; letters_value = (c.word_length-before.ensures, rw length-set (omega (arith, c.if-word-letters.false))) }

pub shape_of-word : goal.shape_of-word
shape_of-word c = c.write_word.auto.word ∙ length-set c.args.word.now c.word_length-before.result c.args.letter

pub returns : goal.returns
returns c =
    answers_found c.args.path.now c.args.word.now c.args.states c.args.row c.args.letter c.word_length-before.result c.word_length-before.ensures c.if-word-letters.false _ c.write_word.ensures
