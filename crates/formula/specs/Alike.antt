-- Worths that read alike at the atoms' places give a formula the same worth: an array may have more places than there are atoms.
use Rattle.std.specs.Prelude.{ℕ, zero, suc, ◌+◌, ◌<◌, ◌≡◌, refl, Bool, false, not, ◌&&◌, ◌||◌, List, [], ◌∷◌, length, get_or, drop}
use Rattle.std.proofs.Common.{arith, sym, ap, ◌∙◌, get_or-drop}
use Rattle.scope.specs.Sizes.{most_depth}
use Rattle.scope.specs.Question.{Node, unused, atom, kinds_of}
use Rattle.scope.specs.States.{Settled, settled, formula_worth}

abbrev pub Alike : ℕ → List Bool → List Bool → Type 0
Alike n us ws = (i : ℕ) → i < n → get_or us i false ≡ get_or ws i false

-- at the places of the atoms among the nodes
abbrev pub AlikeAt : List Node → List Bool → List Bool → Type 0
AlikeAt xs us ws = Alike (length (kinds_of xs)) us ws

-- parts that are settled alike
record Same (p q : Settled) : Type 0 where
  truth : p.truth ≡ q.truth
  nodes : p.nodes ≡ q.nodes
  worths : AlikeAt p.nodes p.worths q.worths

alike_after : (n : ℕ) (us ws : List Bool) → Alike (suc n) us ws → Alike n (drop 1 us) (drop 1 ws)
alike_after n us ws h i l = get_or-drop 1 us i false ∙ h (1 + i) (omega arith) ∙ sym (get_or-drop 1 ws i false)

AllSame : ℕ → Type 0
AllSame d = (xs : List Node) (us ws : List Bool) → AlikeAt xs us ws → Same (settled d xs us) (settled d xs ws)

-- the second part, after first parts that are settled alike
second : (d : ℕ) → AllSame d → (p q : Settled) → Same p q → Same (settled d p.nodes p.worths) (settled d q.nodes q.worths)
unfolding AllSame
second d h p q e = rw e.nodes (h q.nodes p.worths q.worths (rw e.nodes at e.worths))

same : (d : ℕ) → AllSame d
unfolding settled kinds_of AllSame
same zero xs us ws h = record { truth = refl; nodes = refl; worths = h }
same (suc d) [] us ws h = record { truth = refl; nodes = refl; worths = h }
same (suc d) (unused ∷ xs) us ws h = record { truth = refl; nodes = refl; worths = h }
same (suc d) (atom κ ∷ xs) us ws h = record { truth = h 0 (omega arith); nodes = refl; worths = alike_after (length (kinds_of xs)) us ws h }
same (suc d) (Node.not ∷ xs) us ws h =
    let p = same d xs us ws h in
    record { truth = ap not p.truth; nodes = p.nodes; worths = p.worths }
same (suc d) (Node.and ∷ xs) us ws h =
    let p = same d xs us ws h in
    let r = second d (same d) (settled d xs us) (settled d xs ws) p in
    record { truth = (λ i. p.truth i && r.truth i); nodes = r.nodes; worths = r.worths }
same (suc d) (Node.or ∷ xs) us ws h =
    let p = same d xs us ws h in
    let r = second d (same d) (settled d xs us) (settled d xs ws) p in
    record { truth = (λ i. p.truth i || r.truth i); nodes = r.nodes; worths = r.worths }

pub worth_alike : (xs : List Node) (us ws : List Bool) → AlikeAt xs us ws → formula_worth xs us ≡ formula_worth xs ws
unfolding formula_worth AllSame
worth_alike xs us ws h = (same most_depth xs us ws h).truth
