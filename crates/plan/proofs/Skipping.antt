-- Letters that are passed over: each has the sums of an earlier one, and so leads to a state that has a row already.
use Prim.Native.Nat.{ℕ, zero, suc, ◌≤◌, ◌<◌}
use mathlib.Core.Path.{◌≡◌, sym, ◌∙◌}
use mathlib.Core.Logic.{by_cases}
use mathlib.Core.Bool.{false}
use mathlib.Core.List.{List}
use native.Mathlib.Decide.{ℕ_discrete}
use native.Mathlib.Omega.{arith}
use lib.ListN.{length}
use lib.IntN.{ℤ}
use Rattle.scope.specs.Numbering.{Machine, row, numbered}
use Rattle.theory.specs.Machine.Exploring.{partial, partial_old, repeated_old}
use Rattle.formula.specs.Truths.{bit_at}
use Rattle.step.specs.Laws.{step_alike}
use Rattle.plan.specs.declared.Plan.{Plan}
use Rattle.plan.specs.Machine.{Runs, Task, Repeats}

module _ {plan : Plan} {sums start : List ℤ} {M : Machine (List ℤ)} (runs : Runs plan sums start M) (task : Task plan sums) (i : ℕ)
    (begun : i < length (numbered M i)) where
  passed : (a : ℕ) → a < plan.letters → bit_at plan.fresh a ≡ false → partial M i (suc a) ≡ partial M i a
  passed a h e =
      let r : Repeats sums a = task.bits.repeats a h e in
      let state = (row M (partial M i a) i).state in
      partial_old M runs.lawful i a
      (repeated_old M runs.lawful i a r.lead begun r.earlier
      (runs.steps state a
      ∙ step_alike plan.kinds plan.width sums a r.lead state (λ j l. r.same j (omega (arith, task.narrow)))
      ∙ sym (runs.steps state r.lead)))

  pub all_passed : (a b : ℕ) → a < b → b ≤ plan.letters → ((k : ℕ) → a < k → k < b → bit_at plan.fresh k ≡ false) → partial M i b ≡ partial M i (suc a)
  all_passed a zero h l between = absurd (omega arith)
  all_passed a (suc b) h l between =
      by_cases (ℕ_discrete a b)
      (λ e. rw e)
      (λ ne.
      passed b (omega arith) (between b (omega arith) (omega arith))
      ∙ all_passed a b (omega arith) (omega arith) (λ k p q. between k p (omega arith)))
