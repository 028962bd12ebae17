-- `words::spell` meets its contract: each answer is that of the first check that fails. Assumes nothing.
use mathlib.Core.Path.{◌≡◌, sym, ap, ◌∙◌}
use mathlib.Core.Bool.{true, ◌&&◌}
use lib.Dec.{leb}
use borrow.Author.Tests.{le-leb, lt-leb}
use Rattle.std.specs.Prelude.{Ok, Err}
use Rattle.scope.specs.Sizes.{variables_fit}
use Rattle.scope.specs.Words.{letters_fit}
use Rattle.words.proofs.Running.{letters_tested}
use Rattle.words.proofs.Spelling.{spelt_no_variables, spelt_no_variable, spelt_no_letter, spelt_long, spelt_value}
use Rattle.words.proofs.spell.Goals as goal
use Rattle.words.proofs.spell.Goals.{Else-not-letters_fit, Else-not-within, Else-not-within-2}

-- ---- what has passed, by place
n_fits : (c : goal.Else-not-within) → variables_fit c.args.n ≡ true
n_fits c = sym c.within.ensures ∙ c.if-not-within.false

variable_fits : (c : goal.Else-not-within-2) → leb 1 c.args.variable && leb c.args.variable c.args.n ≡ true
variable_fits c = sym c.within-2.ensures ∙ c.if-not-within-2.false

letters_pass : (c : goal.Else-not-letters_fit) → letters_fit c.args.n c.args.word.now ≡ true
letters_pass c = sym (letters_tested _ _ c.letters_fit.ensures c.letters.ensures.0) ∙ c.if-not-letters_fit.false

-- ---- the answers
pub returns-then-not-within : goal.returns-then-not-within
returns-then-not-within c = ap Err c.at.ensures ∙ sym (spelt_no_variables _ _ _ (sym c.within.ensures ∙ c.if-not-within.true))

pub returns-then-not-within-2 : goal.returns-then-not-within-2
returns-then-not-within-2 c =
    ap Err c.at-then-not-within-2.ensures ∙
    sym (spelt_no_variable _ _ _ (n_fits (goal.at.returns-then-not-within-2 c).Else-not-within) (sym c.within-2.ensures ∙ c.if-not-within-2.true))

pub returns-then-not-letters_fit : goal.returns-then-not-letters_fit
returns-then-not-letters_fit c =
    let p = goal.at.returns-then-not-letters_fit c in
    ap Err c.at-then-not-letters_fit.ensures ∙
    sym
    (spelt_no_letter _ _ _ (n_fits p.Else-not-within) (variable_fits p.Else-not-within-2)
    (sym (letters_tested _ _ c.letters_fit.ensures c.letters.ensures.0) ∙ c.if-not-letters_fit.true))

pub returns-then-word-gt-SPELLED : goal.returns-then-word-gt-SPELLED
returns-then-word-gt-SPELLED c =
    let p = goal.at.returns-then-word-gt-SPELLED c in
    ap Err c.at-then-word-gt-SPELLED.ensures ∙
    sym
    (spelt_long _ _ _ (n_fits p.Else-not-within) (variable_fits p.Else-not-within-2) (letters_pass p.Else-not-letters_fit)
    (lt-leb _ _ c.if-word-gt-SPELLED.true))

pub returns : goal.returns
returns c =
    let p = goal.at.returns c in
    ap Ok c.value_of.ensures ∙
    sym
    (spelt_value _ _ _ (n_fits p.Else-not-within) (variable_fits p.Else-not-within-2) (letters_pass p.Else-not-letters_fit)
    (le-leb _ _ c.if-word-gt-SPELLED.false))
