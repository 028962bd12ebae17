-- `decide::decide_rows` meets its contract: each call is handed what it asks, and the answer is made of what numbering leaves. Assumes nothing.
use mathlib.Core.Path.{◌≡◌}
use mathlib.Core.Bool.{false}
use borrow.Author.Rules.{rules}
use Rattle.scope.specs.Numbering.{machine_of}
use Rattle.decide.specs.Lends.{sums_asked}
use Rattle.decide.specs.Explores.{Explores, decides_start, explores_on, word_spelt, question_decided}
use Rattle.decide.specs.Handed.{asks_plan, asks_start, start_put, start_accepts, task, handed_numbered, ready}
use Rattle.decide.proofs.decide_rows.Goals as goal
use Rattle.decide.proofs.decide_rows.Goals.{After-number_rows-explored, Else-accepts}

pub letter_sums-sums-requires : goal.letter_sums-sums-requires
letter_sums-sums-requires c = rw c.from.ensures (sums_asked c.requires)

pub plan_of-plan-requires : goal.plan_of-plan-requires
plan_of-plan-requires c = asks_plan c.requires (rw c.from.ensures at c.letter_sums-sums.ensures) (search rules)

pub put_start-requires : goal.put_start-requires
put_start-requires c = asks_start c.requires c.plan_of-plan.ensures

pub returns-then-accepts : goal.returns-then-accepts
returns-then-accepts c =
    let made = c.plan_of-plan.ensures in
    decides_start c.requires (start_put c.requires made c.put_start.ensures) (start_accepts c.requires made c.accepts.ensures c.if-accepts.true)

-- ---- where the start does not accept
refused : (c : goal.Else-accepts) → let q = c.args.question.now in (machine_of q).accepts (machine_of q).start ≡ false
refused c = start_accepts c.requires c.plan_of-plan.ensures c.accepts.ensures c.if-accepts.false

pub number_rows-explored-requires : goal.number_rows-explored-requires
number_rows-explored-requires c =
    let made = c.plan_of-plan.ensures in
    let put = c.put_start.ensures in
    record { task = task c.requires made put; ready = ready c.requires made put (refused (goal.at.number_rows-explored-requires c).Else-accepts) }

explored : (c : goal.After-number_rows-explored)
    → (machine_of c.args.question.now).accepts (machine_of c.args.question.now).start ≡ false
    → Explores c.args.question.now c.args.rows c.args.keys.now c.args.path.now c.number_rows-explored.new.keys c.number_rows-explored.new.path c.number_rows-explored.result
explored c start =
    let made = c.plan_of-plan.ensures in
    let put = c.put_start.ensures in
    explores_on c.requires (start_put c.requires made put) made start (handed_numbered c.requires made put c.number_rows-explored.ensures)

pub answer-requires : goal.answer-requires
answer-requires c =
    let at = goal.at.answer-requires c in
    word_spelt c.requires (explored at.After-number_rows-explored (refused at.Else-accepts))

pub returns : goal.returns
returns c =
    let at = goal.at.returns c in
    question_decided c.requires (explored at.After-number_rows-explored (refused at.Else-accepts)) c.answer.ensures
