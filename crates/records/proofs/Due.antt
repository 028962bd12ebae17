-- The parts that are due, and a walk's steps onward.
use mathlib.Core.Path.{◌≡◌, refl, ap}
use mathlib.Core.Bool.{Bool, true, false}
use lib.Dec.{ltb}
use borrow.Author.Tests.{ltb-true, ltb-false}
use Rattle.std.specs.Prelude.{Some, None}
use mathlib.Core.List.{[], ◌∷◌}
use Prim.Native.Nat.{ℕ, suc, ◌+◌, ◌-◌, ◌<◌, ◌≤◌}
use native.Mathlib.Omega.{arith}
use native.Mathlib.Numerals.{add-one}
use lib.ListN.{length, drop_of_length-le}
use lib.Seq.{drop-cons}
use Rattle.scope.specs.Sizes.{most_nodes}
use Rattle.scope.specs.Refusals.{Progress, going, onward}
use Rattle.scope.specs.Wire as wire
use Rattle.records.specs.declared.shape.Shape.{Shape}
use Rattle.records.specs.Formula.{ShapeSound, Grown, due_of, depth_or, first_due, due_depth, later_of}

pub due_first : (s : Shape) → ShapeSound s → s.top < most_nodes + 2 → due_of s ≡ due_depth s ∷ later_of s
due_first s h t = rw add-one (drop-cons s.due s.top 0 (omega (arith, h.full)))

pub due_none : (s : Shape) → ShapeSound s → most_nodes + 2 ≤ s.top → due_of s ≡ []
due_none s h t = let l : length s.due ≤ s.top = omega (arith, h.full) in drop_of_length-le s.due l

pub grown_nodes : (s : Shape) (code : ℕ) (r : Shape) → Grown s code r → r.nodes ≡ s.nodes + 1
unfolding wire.grown
grown_nodes s code r g = ap (λ (w : wire.Shape). w.nodes) g.shape

pub onward_first : {A B : Type 0} (step : A → Progress A B) (nodes : ℕ) (a : A) → nodes ≤ most_nodes
    → onward (most_nodes + 1 - nodes) step (going a) ≡ onward (most_nodes - nodes) step (step a)
unfolding onward
onward_first step nodes a h = let e : most_nodes + 1 - nodes ≡ suc (most_nodes - nodes) = omega arith in rw e

-- ---- which part is due first, if any

some_by : (t : Bool) (d depth : ℕ) → Some depth ≡ depth_or t d → (t ≡ true) × (depth ≡ d)
some_by true d depth e = (refl, cc)
some_by false d depth e = let z : ◌≡◌ {A = ℕ} 0 1 = cc in absurd (omega arith)

none_by : (t : Bool) (d : ℕ) → None ≡ depth_or t d → t ≡ false
none_by true d e = let z : ◌≡◌ {A = ℕ} 0 1 = cc in absurd (omega arith)
none_by false d e = refl

pub first_is : (s : Shape) (depth : ℕ) → Some depth ≡ first_due s → (s.top < most_nodes + 2) × (depth ≡ due_depth s)
first_is s depth e = let p = some_by (ltb s.top (most_nodes + 2)) (due_depth s) depth e in (ltb-true _ _ p.0, p.1)

pub first_none : (s : Shape) → None ≡ first_due s → most_nodes + 2 ≤ s.top
first_none s e = ltb-false _ _ (none_by (ltb s.top (most_nodes + 2)) (due_depth s) e)
