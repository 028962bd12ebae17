-- `terms::gather::settled` meets its contract, by the way that it takes. Assumes nothing.
use Prim.Native.Nat.{ℕ}
use mathlib.Core.Path.{◌≡◌, sym, ◌∙◌}
use mathlib.Core.Bool.{Bool, true, false, ◌||◌, and-eq-true_iff}
use lib.Dec.{eqb}
use lib.ListN.{length}
use borrow.Author.Rules.{rules}
use Rattle.terms.specs.Heads.{word_code}
use Rattle.terms.specs.Gathered.{shapely_at}
use Rattle.terms.proofs.SettledSays.{misshapen_says, faulty_says, sound_says, beyond_says}
use Rattle.terms.proofs.gather.settled.Goals as goal
use Rattle.terms.proofs.gather.settled.Goals.{After-is_shapely, Start}

module _ (c : goal.After-is_shapely) (t : Bool) where
  shape : c.is_shapely.result ≡ t
      → shapely_at (word_code c.args.head) c.args.g.count (c.args.g.first.numeric || c.args.g.second.numeric) ≡ t
  shape e = sym c.is_shapely.ensures ∙ e

first_seven : (s : goal.Start) → length s.args.g.first.numbers ≡ 7
first_seven s = search rules

-- a product that is shapely has a numeral
numeral_there : (head count : ℕ) (b : Bool) → shapely_at head count b ≡ true → head ≡ 2 → b ≡ true
unfolding shapely_at
numeral_there head count b e h = ((and-eq-true_iff b (eqb count 2)).0 (rw h at e)).0

pub returns-then-not-is_shapely : goal.returns-then-not-is_shapely
returns-then-not-is_shapely c =
    rw c.outside.ensures (λ h ts e few had. misshapen_says c.args.place h ts (rw e at few) had (rw e at (shape (goal.at.returns-then-not-is_shapely c).After-is_shapely false c.if-not-is_shapely.true)))

pub returns-then-is_some : goal.returns-then-is_some
returns-then-is_some c =
    rw c.faulty.ensures (λ h ts e few had. faulty_says c.args.place h ts (rw e at few) had (rw e at (shape (goal.at.returns-then-is_some c).After-is_shapely true c.if-not-is_shapely.false)) (sym c.is_some.ensures ∙ c.if-is_some.true))

pub numbers_by-numbers-requires : goal.numbers_by-numbers-requires
numbers_by-numbers-requires c =
    (c.requires, λ e. numeral_there (word_code c.args.head) c.args.g.count _ (shape (goal.at.numbers_by-numbers-requires c).After-is_shapely true c.if-not-is_shapely.false) e)

pub returns-then-within : goal.returns-then-within
returns-then-within c =
    let seven = first_seven (goal.at.returns-then-within c).Start in
    rw c.of.ensures (λ h ts e few had. sound_says c.args.place h ts (rw e at few) had (rw e at (shape (goal.at.returns-then-within c).After-is_shapely true c.if-not-is_shapely.false)) (sym c.is_some.ensures ∙ c.if-is_some.false) seven (rw e at c.numbers_by-numbers.ensures) (sym c.within.ensures ∙ c.if-within.true))

pub returns : goal.returns
returns c =
    let seven = first_seven (goal.at.returns c).Start in
    rw c.outside-2.ensures (λ h ts e few had. beyond_says c.args.place h ts (rw e at few) had (rw e at (shape (goal.at.returns c).After-is_shapely true c.if-not-is_shapely.false)) (sym c.is_some.ensures ∙ c.if-is_some.false) seven (rw e at c.numbers_by-numbers.ensures) (sym c.within.ensures ∙ c.if-within.false))
