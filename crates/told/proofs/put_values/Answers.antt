-- `told::put_values` meets its contract. The invariant: the values of the first variables are put. Assumes nothing.
use Prim.Native.Nat.{ℕ, ◌+◌, ◌-◌}
use native.Mathlib.Omega.{arith}
use mathlib.Core.Path.{◌≡◌, refl, sym, ap, ◌∙◌}
use mathlib.Core.List.{List, ◌++◌}
use borrow.Author.Rules.{rules}
use Rattle.scope.specs.Words.{value, spelled, values_from}
use Rattle.told.specs.Text.{spaced, numbers}
use Rattle.told.specs.Values.{spelled_more}
use Rattle.told.specs.Writers.{put_none, put_both, put_as}
use Rattle.told.proofs.put_values.Goals as goal

one_more : (word : List ℕ) (j v : ℕ) → v ≡ value word (j + 1 - 1) → numbers (spelled j word) ++ spaced v ≡ numbers (spelled (j + 1) word)
one_more word j v e =
    let n : j + 1 - 1 ≡ j = omega arith in
    sym (spelled_more j word ∙ ap (λ (k : ℕ). numbers (spelled j word) ++ spaced k) (sym (e ∙ ap (value word) n)))

pub loop-j-init : goal.loop-j-init
unfolding numbers spelled values_from
loop-j-init c = (search rules, refl, put_none _ _)

pub loop-j-preserved : goal.loop-j-preserved
loop-j-preserved c = (
  omega arith,
  c.put_number-next.auto.out ∙ c.loop-j.invariant.1,
  put_as (one_more c.args.word.now _ _ c.value_of.ensures) (put_both c.loop-j.invariant.2 c.put_number-next.ensures.0),
)
