-- What writing needs besides document 01's definitions: a question's bytes node by node, and what its checks answer.
use Rattle.std.specs.Prelude.{ℕ, zero, suc, ◌+◌, ◌-◌, ◌≤◌, ◌<◌, ◌≡◌, Bool, true, cond, ◌||◌, List, [], ◌∷◌, ◌++◌, length, get_or, ℤ, pos, ltb, Result, Ok, Err, Some, None}
use Rattle.std.proofs.Math.Option as maybe
use Rattle.std.specs.Prelude.{Option}
use Rattle.scope.specs.declared.Rule.{Rule}
use Rattle.scope.specs.declared.Refusal.{Refusal}
use Rattle.scope.specs.declared.Question.{Question}
use Rattle.scope.specs.Whole.{eq_z}
use Rattle.scope.specs.Sizes.{most_variables, most_atoms, most_nodes, most_bytes}
use Rattle.scope.specs.Question.{Node, node_of, is_atom}
use Rattle.scope.specs.Refusals.{Check, refusal, first_refusal, Progress, stopped, going, ended, onward}
use Rattle.scope.specs.Wire.{body_length, head_kind, end_kind}
use Rattle.scope.specs.Writing.{record_bytes, node_bytes, Walk, first_walk, node_held, node_held_checks, part_written, code_checks, coefficient_used, written, wrote}
use Rattle.records.specs.Formula.{counts}
use Rattle.records.specs.Parts.{node_or}
use Rattle.writing.specs.declared.checks.Formula.{Formula}

-- ---- a call's outcome

pub record Writes (q : Question) (before : List ℕ) (r : Result ℕ Refusal) (after : List ℕ) : Type 0 where
  pub answer : r ≡ (wrote q before).answer
  pub buffer : after ≡ (wrote q before).buffer

-- ---- the bytes of the head and the first nodes

abbrev pub code_node : Question → ℕ → Node
code_node q i = node_of (get_or q.codes i 0)

unfoldable pub atoms_to : Question → ℕ → ℕ
atoms_to q zero = 0
atoms_to q (suc i) = atoms_to q i + cond (is_atom (code_node q i)) 1 0

unfoldable pub bytes_to : Question → ℕ → List ℕ
bytes_to q zero = record_bytes head_kind (q.n ∷ [])
bytes_to q (suc i) = bytes_to q i ++ node_bytes q (code_node q i) (atoms_to q i)

-- ---- the checks at a node

-- the formula by its counts, and its bytes
abbrev pub walk_at : Question → ℕ → ℕ → Walk
walk_at q nodes atoms = record { shape = counts nodes atoms; bytes = bytes_to q nodes }

abbrev pub code_answer : Question → ℕ → Walk → Result ℕ Refusal
code_answer q depth w = node_or (first_refusal (node_held_checks q depth w)) (node_held q w)

-- ---- the formula, and what is left over

pub record FormulaIs (q : Question) (f : Formula) : Type 0 where
  pub variables : q.n ≤ most_variables
  pub few_nodes : f.nodes ≤ most_nodes
  pub few_atoms : f.atoms ≤ most_atoms
  pub atoms_is : f.atoms ≡ atoms_to q f.nodes
  pub len_is : f.len ≡ length (bytes_to q f.nodes)
  pub short : f.len + 4 ≤ most_bytes

-- from the head on, once n is within its limit
abbrev pub formula_written : Question → Progress Walk Walk
formula_written q = onward (most_nodes + 1) (part_written q) (going (first_walk q))

abbrev pub FormulaSays : Question → Result Formula Refusal → Type 0
FormulaSays q (Ok f) = FormulaIs q f × (formula_written q ≡ ended (walk_at q f.nodes f.atoms))
FormulaSays q (Err r) = formula_written q ≡ stopped r

-- with every check
abbrev pub CheckedSays : Question → Result Formula Refusal → Type 0
CheckedSays q (Ok f) =
    FormulaIs q f
    × (written q ≡ ended (record { shape = counts f.nodes f.atoms; bytes = bytes_to q f.nodes ++ record_bytes end_kind [] }))
CheckedSays q (Err r) = written q ≡ stopped r

-- the first code from a place on that is not zero, or none
abbrev pub left_or : Option ℕ → maybe.Option Refusal → maybe.Option Refusal
left_or None later = later
left_or (Some i) later = maybe.some (refusal Rule.LeftOver i)

abbrev pub CodeLeft : List ℕ → ℕ → Option ℕ → Type 0
CodeLeft codes i r = (later : List Check) → first_refusal (code_checks (most_nodes - i) codes i later) ≡ left_or r (first_refusal later)

abbrev pub is_zero : ℤ → Bool
is_zero z = eq_z z (pos 0)

abbrev pub coefficient_clear : ℕ → ℕ → ℕ → ℤ → Bool
coefficient_clear n atoms c z = coefficient_used n atoms c || is_zero z

abbrev pub constant_clear : ℕ → ℕ → ℤ → Bool
constant_clear atoms i z = ltb i atoms || is_zero z

-- ---- room in a buffer

pub record NodeRoom (q : Question) (code atom : ℕ) (buffer : List ℕ) (at : ℕ) : Type 0 where
  pub variables : q.n ≤ most_variables
  pub few : is_atom (node_of code) ≡ true → atom < most_atoms
  pub room : at + 4 + body_length q.n (node_of code) ≤ length buffer

pub record QuestionRoom (q : Question) (nodes : ℕ) (buffer : List ℕ) : Type 0 where
  pub variables : q.n ≤ most_variables
  pub few_nodes : nodes ≤ most_nodes
  pub few_atoms : atoms_to q nodes ≤ most_atoms
  pub short : length (bytes_to q nodes) + 4 ≤ most_bytes
  pub room : length (bytes_to q nodes) + 4 ≤ length buffer
