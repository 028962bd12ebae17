-- `build::build_rows` meets its contract: filling is asked with the start as row 0, and what it leaves is document 01's. Assumes nothing.
use borrow.Author.Rules.{rules}
use Rattle.build.specs.Asked.{asks_sums, asks_plan, asks_start, asks_filling, question_built}
use Rattle.build.proofs.build_rows.Goals as goal

pub letter_sums-sums-requires : goal.letter_sums-sums-requires
letter_sums-sums-requires c = rw c.from.ensures (asks_sums c.requires)

pub plan_of-plan-requires : goal.plan_of-plan-requires
plan_of-plan-requires c = asks_plan c.requires (rw c.from.ensures at c.letter_sums-sums.ensures) (search rules)

pub store_row-requires : goal.store_row-requires
store_row-requires c = asks_start c.requires c.plan_of-plan.ensures

pub fill-requires : goal.fill-requires
fill-requires c = asks_filling c.requires c.plan_of-plan.ensures c.store_row.ensures

pub returns : goal.returns
returns c = question_built c.requires c.plan_of-plan.ensures c.store_row.ensures c.fill.ensures
