-- Document 01, "States and steps": entries, the step on a letter, acceptance, the formula's worth; and what the values satisfy.
use Rattle.std.specs.Prelude.{ℕ, zero, suc, Bool, true, false, not, cond, ◌&&◌, ◌||◌, List, [], ◌∷◌, map, get_or, drop, eqb, ℤ, pos, negsuc, ◌+ℤ◌, ◌-ℤ◌, ◌*ℤ◌}
use Rattle.std.specs.Int.Signed.{le_z}
use Rattle.scope.specs.declared.Question.{Question}
use Rattle.scope.specs.Whole.{eq_z, even, half}
use Rattle.scope.specs.Sizes.{most_depth}
use Rattle.scope.specs.Question.{Kind, equation, at_most, Node, unused, atom, Atom, nodes_of, atoms_of}
use Rattle.scope.specs.Words.{digit}

-- ---- entries: a number, or dead

pub data Entry : Type 0 where
  dead : Entry
  live : ℤ → Entry

-- an entry's key cell
abbrev pub dead_cell : ℤ
dead_cell = negsuc 2147483647

unfoldable pub cell_of : Entry → ℤ
cell_of dead = dead_cell
cell_of (live k) = k

unfoldable pub same_entry : Entry → Entry → Bool
same_entry dead dead = true
same_entry dead (live k) = false
same_entry (live k) dead = false
same_entry (live k) (live h) = eq_z k h

-- s: the sum of the coefficients of the variables whose digit is 1, from variable j + 1 on
unfoldable pub sum_from : ℕ → ℕ → List ℤ → ℤ
sum_from letter j [] = pos 0
sum_from letter j (a ∷ cs) = cond (eqb (digit letter j) 1) a (pos 0) +ℤ sum_from letter (suc j) cs

unfoldable pub sum_at : List ℤ → ℕ → ℤ
sum_at coefficients letter = sum_from letter 0 coefficients

-- equation: half where even, else dead; at most: half, never dead
abbrev pub halved : Kind → ℤ → Entry
halved equation d = cond (even d) (live (half d)) dead
halved at_most d = live (half d)

unfoldable pub start_entry : Atom → Entry
start_entry a = live a.constant

unfoldable pub step_entry : Atom → Entry → ℕ → Entry
step_entry a dead letter = dead
step_entry a (live k) letter = halved a.kind (k -ℤ sum_at a.coefficients letter)

-- what an atom is worth at its entry
abbrev pub worth_live : Kind → ℤ → Bool
worth_live equation k = eq_z k (pos 0)
worth_live at_most k = le_z (pos 0) k

unfoldable pub worth : Atom → Entry → Bool
worth a dead = false
worth a (live k) = worth_live a.kind k

-- ---- states: one entry an atom

abbrev pub State : Type 0
State = List Entry

unfoldable pub start_of : List Atom → State
start_of ats = map start_entry ats

unfoldable pub step_of : List Atom → State → ℕ → State
step_of [] es letter = []
step_of (a ∷ ats) [] letter = []
step_of (a ∷ ats) (e ∷ es) letter = step_entry a e letter ∷ step_of ats es letter

unfoldable pub worths_of : List Atom → State → List Bool
worths_of [] es = []
worths_of (a ∷ ats) [] = []
worths_of (a ∷ ats) (e ∷ es) = worth a e ∷ worths_of ats es

unfoldable pub same_state : State → State → Bool
same_state [] [] = true
same_state [] (e ∷ es) = false
same_state (d ∷ ds) [] = false
same_state (d ∷ ds) (e ∷ es) = same_entry d e && same_state ds es

unfoldable pub cells_of : State → List ℤ
cells_of es = map cell_of es

-- ---- the formula's worth, settled from its parts

-- the truth of a part, and the nodes and the atoms' worths after it
pub record Settled : Type 0 where
  pub truth : Bool
  pub nodes : List Node
  pub worths : List Bool

-- at most depth deep; each connective stands before its parts (a formula that was accepted is never cut)
unfoldable pub settled : ℕ → List Node → List Bool → Settled
settled zero xs ws = record { truth = false; nodes = xs; worths = ws }
settled (suc depth) [] ws = record { truth = false; nodes = []; worths = ws }
settled (suc depth) (unused ∷ xs) ws = record { truth = false; nodes = xs; worths = ws }
settled (suc depth) (atom κ ∷ xs) ws = record { truth = get_or ws 0 false; nodes = xs; worths = drop 1 ws }
settled (suc depth) (Node.not ∷ xs) ws =
    let p = settled depth xs ws in
    record { truth = not p.truth; nodes = p.nodes; worths = p.worths }
settled (suc depth) (Node.and ∷ xs) ws =
    let p = settled depth xs ws in
    let r = settled depth p.nodes p.worths in
    record { truth = p.truth && r.truth; nodes = r.nodes; worths = r.worths }
settled (suc depth) (Node.or ∷ xs) ws =
    let p = settled depth xs ws in
    let r = settled depth p.nodes p.worths in
    record { truth = p.truth || r.truth; nodes = r.nodes; worths = r.worths }

unfoldable pub formula_worth : List Node → List Bool → Bool
formula_worth xs ws = (settled most_depth xs ws).truth

unfoldable pub accepting : List Node → List Atom → State → Bool
accepting xs ats es = formula_worth xs (worths_of ats es)

-- ---- whole-number arithmetic: whether the values satisfy the question

-- the sum of a_j x_j
unfoldable pub dot : List ℤ → List ℕ → ℤ
dot [] xs = pos 0
dot (a ∷ cs) [] = pos 0
dot (a ∷ cs) (x ∷ xs) = a *ℤ pos x +ℤ dot cs xs

abbrev pub compares : Kind → ℤ → ℤ → Bool
compares equation d k = eq_z d k
compares at_most d k = le_z d k

unfoldable pub holds : Atom → List ℕ → Bool
holds a xs = compares a.kind (dot a.coefficients xs) a.constant

unfoldable pub satisfied : Question → List ℕ → Bool
satisfied q xs = formula_worth (nodes_of q) (map (λ (a : Atom). holds a xs) (atoms_of q))
