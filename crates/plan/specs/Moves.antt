-- Where the numbering stands: how it moves on to the place after a letter, past letters that repeat others, and how it ended.
use Rattle.std.specs.Prelude.{ℕ, ◌+◌, ◌*◌, ◌≤◌, ◌<◌, ◌≡◌, false, Option, MatchOption, Result, Ok, Err}
use Rattle.scope.specs.Sizes.{most_letters}
use Rattle.formula.specs.Truths.{bit_at}
use Rattle.plan.specs.declared.Plan.{Plan}
use Rattle.plan.specs.declared.Stand.{Stand}
use Rattle.plan.specs.declared.Stop.{Stop}
use Rattle.plan.specs.declared.Stop.TheVariants.{Found, Full}
use Rattle.plan.specs.declared.Explored.{Explored}

-- at a letter of a row that is to be tried
abbrev pub going_at : ℕ → ℕ → ℕ → Stand
going_at count row letter = record { count = count; row = row; letter = letter }

-- the letters between have their bits at 0
pub record Skips (fresh letter next : ℕ) : Type 0 where
  pub later : letter < next
  pub between : (k : ℕ) → letter < k → k < next → bit_at fresh k ≡ false

-- the place after letter a of row i: a later letter, or the next row, with no letter between that is to be tried
pub data After (plan : Plan) (i a : ℕ) : ℕ → ℕ → Type 0 where
  next_letter : {b : ℕ} → b < plan.letters → Skips plan.fresh a b → After plan i a i b
  next_row : Skips plan.fresh a plan.letters → After plan i a (i + 1) 0

-- from s to the place after it, with so many rows
pub record Moved (plan : Plan) (s : Stand) (count : ℕ) (to : Stand) : Type 0 where
  pub count_is : to.count ≡ count
  pub place : After plan s.row s.letter to.row to.letter

-- how far it has come
abbrev pub place : Stand → ℕ
place s = s.row * most_letters + s.letter

-- ---- the ends

-- where exploring stands at its end, whether or not it stopped
abbrev pub stand_of : Result Stand Stop → Stand
stand_of (Ok s) = s
stand_of (Err (Found s)) = s
stand_of (Err (Full s)) = s

-- by whether exploring has stopped, and why
abbrev pub explored_by : Result Stand Stop → Explored
explored_by (Ok s) = Explored.All s.count
explored_by (Err (Found s)) = Explored.Found s.count s.row s.letter
explored_by (Err (Full s)) = Explored.NoRoom s.count

-- ---- few rows first

-- the same plan in so many rows
abbrev pub with_rows : Plan → ℕ → Plan
with_rows plan rows = record {
  kinds = plan.kinds;
  width = plan.width;
  letters = plan.letters;
  rows = rows;
  noting = plan.noting;
  testing = plan.testing;
  truths = plan.truths;
  fresh = plan.fresh;
}

-- where exploring with few rows stopped for want of rows, if there are more
pub record Resumed (ended : Result Stand Stop) (few rows : ℕ) (more : Option Stand) : Type 0 where
  pub says : MatchOption more ((s : Stand) → ended ≡ Err (Full s) → rows ≤ few) (λ s. (ended ≡ Err (Full s)) × (few < rows))
