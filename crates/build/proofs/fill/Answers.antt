-- `build::fill` meets its contract: few rows first, which are enough, or give way to all where they are full. Assumes nothing.
use mathlib.Core.List.{[], ◌∷◌}
use Prim.Native.Nat.{ℕ, ◌≤◌}
use native.Mathlib.Omega.{arith}
use Rattle.plan.specs.Moves.{with_rows}
use Rattle.build.specs.Filling.{Filling, FilledFrom, any_path, from_start, few_filling, few_built, many_filling, many_stands, many_built}
use Rattle.build.proofs.fill.Goals as goal
use Rattle.build.proofs.fill.Goals.{After-fill_from-ended, Start}

-- what is handed over, with the path area that building does not look at
filling : (s : goal.Start) → Filling s.args.plan s.args.sums.now s.args.keys.now (0 ∷ []) s.args.table.now
filling s = any_path s.requires (0 ∷ [])

pub fill_from-ended-requires : goal.fill_from-ended-requires
fill_from-ended-requires c =
    let least = c.min-few.ensures in
    let given = filling (goal.at.fill_from-ended-requires c).Start in
    let fewer : Filling (with_rows c.args.plan c.min-few.result) c.args.sums.now c.args.keys.now (0 ∷ []) c.args.table.now =
    few_filling given (omega (arith, least)) (omega (arith, least, given.ready.some_rows)) in
    rw (c.with_rows-fewer.ensures, c.going-start.ensures)
    (record {
      filling = fewer;
      stands = from_start fewer;
      room = (omega arith, omega arith, omega (arith, least));
    })

-- ---- few rows are filled
module _ (c : goal.After-fill_from-ended) where
  abbrev few : ℕ
  few = c.min-few.result

  fewer : few ≤ c.args.plan.rows
  fewer = omega (arith, c.min-few.ensures)

  filled : FilledFrom (with_rows c.args.plan few) c.args.sums.now 1 c.args.keys.now (0 ∷ []) c.args.table.now c.fill_from-ended.new.keys c.fill_from-ended.new.path c.fill_from-ended.new.table c.fill_from-ended.result
  filled = rw (c.with_rows-fewer.ensures, c.going-start.ensures) at c.fill_from-ended.ensures

pub fill_from-requires : goal.fill_from-requires
fill_from-requires c =
    let y = c.in-Some.ensures.says in
    let same = c.fill_from-ended.auto.keys in
    let at = goal.at.fill_from-requires c in
    let given = filling at.Start in
    let less = fewer at.After-fill_from-ended in
    let few = filled at.After-fill_from-ended in
    record {
      filling = many_filling given less few same y.0;
      stands = many_stands given less few same y.0;
      room = (omega arith, omega arith, omega (arith, given.ready.lent.few_rows));
    }

pub returns-in-Some : goal.returns-in-Some
returns-in-Some c =
    let y = c.in-Some.ensures.says in
    let at = goal.at.returns-in-Some c in
    rw c.answer.ensures
    (many_built (filling at.Start) (fewer at.After-fill_from-ended) (filled at.After-fill_from-ended) c.fill_from-ended.auto.keys y.0 c.fill_from.ensures c.fill_from.auto.keys)

pub returns : goal.returns
returns c =
    rw c.answer-2.ensures
    (few_built (filling (goal.at.returns c).Start) (fewer (goal.at.returns c).After-fill_from-ended) (filled (goal.at.returns c).After-fill_from-ended) c.fill_from-ended.auto.keys (c.in_default.ensures.says))
