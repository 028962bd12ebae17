-- Where exploring stands: the areas hold the rows of the middle of row i, its letters below a tried, and the index has them. And what it
-- ends in: a new state that accepts, a new state that finds no room, or every row expanded.
use Rattle.std.specs.Prelude.{ℕ, ◌+◌, ◌*◌, ◌≤◌, ◌<◌, ◌≡◌, Bool, true, ◌&&◌, Result, Ok, Err, List, length, take, ℤ}
use Rattle.scope.specs.Numbering.{Machine, Rows, numbered}
use Rattle.scope.specs.Sizes.{most_letters, most_states}
use Rattle.theory.specs.Machine.Verdicts.{NoneOf}
use Rattle.theory.specs.Machine.Exploring.{partial, target, New, rows_grown}
use Rattle.formula.specs.Truths.{truth_at}
use Rattle.step.specs.Cells.{worth_cells}
use Rattle.index.specs.Rows.{row_at}
use Rattle.index.specs.Index.{Key, buckets, Indexed}
use Rattle.plan.specs.declared.Plan.{Plan}
use Rattle.plan.specs.declared.Stand.{Stand}
use Rattle.plan.specs.declared.Stop.{Stop}
use Rattle.plan.specs.declared.Stop.TheVariants.{Found, Full}
use Rattle.plan.specs.Machine.{KeyRow}
use Rattle.plan.specs.Moves.{place, stand_of}
use Rattle.explore.specs.Areas.{path_count, Held, Kept, Stored, RowRoom}

-- the areas have room for the rows
pub record Lent (plan : Plan) (keys : List ℤ) (path : List ℕ) : Type 0 where
  pub few_rows : plan.rows ≤ most_states
  pub keys_room : plan.rows * plan.width ≤ length keys
  pub path_room : path_count plan.noting plan.rows ≤ length path

-- the index has the first count rows, and room for all
pub record Linked (plan : Plan) (keys : List ℤ) (links : List ℕ) (count : ℕ) : Type 0 where
  pub indexed : Indexed keys plan.width links count
  pub room : plan.rows ≤ buckets links

-- the rows l are there and, where they are tested, none of them accepts
pub record There (M : Machine (List ℤ)) (plan : Plan) (keys : List ℤ) (path : List ℕ) (count : ℕ) (l : Rows (List ℤ)) : Type 0 where
  pub lent : Lent plan keys path
  pub count_ok : count ≤ plan.rows
  pub start_is : take plan.width keys ≡ M.start
  pub start_row : KeyRow plan.width M.start
  pub held : Held plan.width plan.noting l count keys path
  pub none : plan.testing ≡ true → NoneOf M l (length l)

-- at a letter of a row
pub record Stands (M : Machine (List ℤ)) (plan : Plan) (keys : List ℤ) (path : List ℕ) (s : Stand) : Type 0 where
  pub rows_there : There M plan keys path s.count (partial M s.row s.letter)
  pub letter_ok : s.letter < M.letters
  pub begun : (s.letter ≡ 0 → ⊥) → s.row < length (numbered M s.row)
  pub row_ok : s.row ≤ s.count

-- there is a row where it stands, and these are its cells
pub record RowOf (plan : Plan) (keys : List ℤ) (s : Stand) (row : List ℤ) : Type 0 where
  pub below : s.row < s.count
  pub cells : take plan.width row ≡ row_at keys plan.width s.row
  pub key : Key plan.width row

-- letter a of row i leads to a state that has no row
pub record Spot (M : Machine (List ℤ)) (i a : ℕ) : Type 0 where
  pub begun : i < length (numbered M i)
  pub letter_ok : a < M.letters
  pub new : New M i a

-- the new state was tested, has the last row, and accepts
pub record FoundLast (M : Machine (List ℤ)) (plan : Plan) (keys : List ℤ) (path : List ℕ) (s : Stand) : Type 0 where
  pub is_tested : plan.testing ≡ true
  pub spot : Spot M s.row s.letter
  pub count_ok : s.count ≤ plan.rows
  pub held : Held plan.width plan.noting (rows_grown M s.row s.letter) s.count keys path
  pub none : NoneOf M (partial M s.row s.letter) (length (partial M s.row s.letter))
  pub accepts : M.accepts (target M (partial M s.row s.letter) s.row s.letter) ≡ true

-- the new state has no row left
pub record FullAt (M : Machine (List ℤ)) (plan : Plan) (keys : List ℤ) (path : List ℕ) (s : Stand) : Type 0 where
  pub stands : Stands M plan keys path s
  pub new : New M s.row s.letter
  pub below : s.row < s.count
  pub full : s.count ≡ plan.rows

-- by whether exploring has stopped, and why
abbrev pub StandsBy : Machine (List ℤ) → Plan → List ℤ → List ℕ → Result Stand Stop → Type 0
StandsBy M plan keys path (Ok s) = Stands M plan keys path s
StandsBy M plan keys path (Err (Found s)) = FoundLast M plan keys path s
StandsBy M plan keys path (Err (Full s)) = FullAt M plan keys path s

pub stands_as : (M : Machine (List ℤ)) (plan : Plan) (keys : List ℤ) (path : List ℕ) {r q : Result Stand Stop} → r ≡ q
    → StandsBy M plan keys path r → StandsBy M plan keys path q
stands_as M plan keys path e t = rw (← e) t

-- from the areas of before, with count₀ rows, to where r stands
pub record Went (M : Machine (List ℤ)) (plan : Plan) (count₀ : ℕ) (keys₀ : List ℤ) (path₀ : List ℕ) (keys : List ℤ) (path : List ℕ) (r : Result Stand Stop) : Type 0 where
  pub more : count₀ ≤ (stand_of r).count
  pub kept : Kept plan.width plan.noting (stand_of r).count keys₀ path₀ keys path
  pub there : StandsBy M plan keys path r

-- once a letter is tried where `from` stands, or the letters that are left of its row
pub record Tried (M : Machine (List ℤ)) (plan : Plan) (from : Stand) (keys₀ : List ℤ) (path₀ : List ℕ) (keys : List ℤ) (path links : List ℕ) (r : Result Stand Stop) : Type 0 where
  pub went : Went M plan from.count keys₀ path₀ keys path r
  pub linked : (s : Stand) → r ≡ Ok s → Linked plan keys links s.count
  pub on : (s : Stand) → r ≡ Ok s → place from < place s

-- the rows that were there are as they were
abbrev pub FrontStays : Plan → Stand → List ℤ → List ℤ → Type 0
FrontStays plan s keys₀ keys = take (s.count * plan.width) keys ≡ take (s.count * plan.width) keys₀

-- once exploring has ended: where it has not stopped, every row is expanded, and the index has them all
pub record ExploringEnded (M : Machine (List ℤ)) (plan : Plan) (count₀ : ℕ) (keys₀ : List ℤ) (path₀ : List ℕ) (keys : List ℤ) (path : List ℕ) (r : Result Stand Stop) : Type 0 where
  pub went : Went M plan count₀ keys₀ path₀ keys path r
  pub all : (s : Stand) → r ≡ Ok s → s.count ≤ s.row

-- ---- a row that is added

-- what the next row, numbered from where s stands, asks
pub record RowFits (plan : Plan) (s : Stand) (key keys : List ℤ) (path links : List ℕ) : Type 0 where
  pub room : RowRoom plan.width plan.noting s.count key keys path
  pub is_key : Key plan.width key
  pub number : s.count < most_states
  pub link : s.count < buckets links
  pub from : s.row < most_states
  pub letter : s.letter < most_letters

-- it has the key's cells, and is indexed; and whether it accepts, where that is tested
pub record RowAdded (plan : Plan) (s : Stand) (key keys₀ : List ℤ) (path₀ : List ℕ) (keys : List ℤ) (path links : List ℕ) (r : Bool) : Type 0 where
  pub stored : Stored plan.width plan.noting s.count key s.row s.letter keys₀ path₀ keys path
  pub indexed : Indexed keys plan.width links (s.count + 1)
  pub says : r ≡ plan.testing && truth_at plan.truths (worth_cells plan.kinds key)
