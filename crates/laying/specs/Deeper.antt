-- A connective laid, and then its parts one level deeper.
use Rattle.std.specs.Prelude.{suc, ◌≡◌, Bool, true, false, List, [], ◌∷◌, Result, Ok, Err}
use Rattle.scope.specs.declared.Refusal.{Refusal}
use Rattle.smtlib.specs.Imported.{PlacedNode}
use Rattle.laying.specs.declared.Laying.{Laying}
use Rattle.laying.specs.Laid.{Layable, LaysMore, Refuses}
use Rattle.laying.specs.Noted.{at_depth}

-- what is laid or refused next is behind it; what is laid puts the depth back
pub record Deepened (x : PlacedNode) (before after : Laying) : Type 0 where
  pub ready : Layable after
  pub deeper : after.depth ≡ suc before.depth
  pub onward : (xs : List PlacedNode) (later : Laying) → LaysMore xs after later → LaysMore (x ∷ xs) before (at_depth later before.depth)
  pub refused : (xs : List PlacedNode) (r : Refusal) → Refuses xs after r → Refuses (x ∷ xs) before r

abbrev pub DeepenedOr : PlacedNode → Laying → Result Laying Refusal → Type 0
DeepenedOr x before (Ok after) = Deepened x before after
DeepenedOr x before (Err r) = Refuses (x ∷ []) before r

-- only where it is asked for
pub record DeepenedIf (asked : Bool) (x : PlacedNode) (before after : Laying) : Type 0 where
  pub asked_for : asked ≡ true → Deepened x before after
  pub as_before : asked ≡ false → after ≡ before

abbrev pub DeepenedIfOr : Bool → PlacedNode → Laying → Result Laying Refusal → Type 0
DeepenedIfOr asked x before (Ok after) = DeepenedIf asked x before after
DeepenedIfOr asked x before (Err r) = (asked ≡ true) × Refuses (x ∷ []) before r
