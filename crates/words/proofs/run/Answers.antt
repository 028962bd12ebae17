-- `words::run` meets its contract: each answer is that of the first check that fails. Assumes nothing.
use Prim.Native.Nat.{ℕ, ◌≤◌}
use mathlib.Core.Path.{◌≡◌, refl, sym, ap, ◌∙◌}
use mathlib.Core.Bool.{true}
use Rattle.std.specs.Prelude.{Ok, Err}
use Rattle.scope.specs.Sizes.{variables_fit}
use Rattle.scope.specs.Words.{letters_fit}
use Rattle.scope.specs.Running.{table_fits}
use Rattle.words.proofs.Running.{letters_tested, ran_no_variables, ran_no_table, ran_no_letter, ran_truth}
use Rattle.theory.specs.Numbers.Tests.{from_one}
use Rattle.words.proofs.run.Goals as goal
use Rattle.words.proofs.run.Goals.{Else-not-letters_fit, Else-not-table_fits, Else-not-within}

within_six : {n : ℕ} → variables_fit n ≡ true → n ≤ 6
within_six {n} e = (from_one n 6 e).1

-- ---- what has passed, by place
n_fits : (c : goal.Else-not-within) → variables_fit c.args.n ≡ true
n_fits c = sym c.within.ensures ∙ c.if-not-within.false

table_passes : (c : goal.Else-not-table_fits) → table_fits c.args.n c.args.cells.now ≡ true
table_passes c = sym c.table_fits.ensures ∙ c.if-not-table_fits.false

letters_pass : (c : goal.Else-not-letters_fit) → letters_fit c.args.n c.args.word.now ≡ true
letters_pass c = sym (letters_tested _ _ c.letters_fit.ensures c.letters.ensures.0) ∙ c.if-not-letters_fit.false

-- ---- the answers
pub says_yes-requires : goal.says_yes-requires
says_yes-requires c =
    let p = goal.at.says_yes-requires c in
    record { small = within_six (n_fits p.Else-not-within); table = table_passes p.Else-not-table_fits; letters = letters_pass p.Else-not-letters_fit }

pub returns-then-not-within : goal.returns-then-not-within
returns-then-not-within c = ap Err c.at.ensures ∙ sym (ran_no_variables _ _ _ (sym c.within.ensures ∙ c.if-not-within.true))

pub returns-then-not-table_fits : goal.returns-then-not-table_fits
returns-then-not-table_fits c =
    ap Err c.at-then-not-table_fits.ensures ∙
    sym (ran_no_table _ _ _ (n_fits (goal.at.returns-then-not-table_fits c).Else-not-within) (sym c.table_fits.ensures ∙ c.if-not-table_fits.true))

pub returns-then-not-letters_fit : goal.returns-then-not-letters_fit
returns-then-not-letters_fit c =
    let p = goal.at.returns-then-not-letters_fit c in
    ap Err c.at-then-not-letters_fit.ensures ∙
    sym
    (ran_no_letter _ _ _ (n_fits p.Else-not-within) (table_passes p.Else-not-table_fits)
    (sym (letters_tested _ _ c.letters_fit.ensures c.letters.ensures.0) ∙ c.if-not-letters_fit.true))

pub returns : goal.returns
returns c =
    let p = goal.at.returns c in
    ap Ok c.says_yes.ensures ∙
    sym (ran_truth _ _ _ _ (n_fits p.Else-not-within) (table_passes p.Else-not-table_fits) (letters_pass p.Else-not-letters_fit) refl)
