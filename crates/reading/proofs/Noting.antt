-- A node noted in the question, as the code puts it together.
use mathlib.Core.Path.{◌≡◌, refl, sym, ◌∙◌}
use mathlib.Core.Bool.{Bool, true, false}
use mathlib.Core.List.{List, []}
use Prim.Native.Nat.{ℕ, ◌*◌}
use native.Mathlib.Omega.{arith}
use lib.IntN.{ℤ}
use lib.ListN.{set}
use lib.Seq.{sets}
use Rattle.scope.specs.declared.Question.{Question}
use Rattle.scope.specs.declared.Refusal.{Refusal}
use Rattle.scope.specs.Sizes.{most_variables}
use Rattle.scope.specs.Question.{Node, code_of, is_atom}
use Rattle.scope.specs.Wire.{Shape, Reading, noted, after_node}
use Rattle.std.specs.Prelude.{Result, Ok, Err}
use Rattle.records.specs.Formula.{counts}
use Rattle.reading.specs.Steps.{node_answer, NodeRead}

module _ (q : Question) (s : Shape) (x : Node) (row : List ℤ) (constant : ℤ) (code : ℕ) (e : code ≡ code_of x) where
  pub noted_plain : is_atom x ≡ false
      → ◌≡◌ {A = Question} (record { n = q.n; codes = set q.codes s.nodes code; coefficients = q.coefficients; constants = q.constants }) (noted (is_atom x) x row constant s q)
  unfolding noted
  noted_plain a = rw (a, e)

  pub noted_atom : (after : Question) → is_atom x ≡ true → after.n ≡ q.n → after.codes ≡ set q.codes s.nodes code
      → after.coefficients ≡ sets q.coefficients (most_variables * s.atoms) row → after.constants ≡ set q.constants s.atoms constant
      → after ≡ noted (is_atom x) x row constant s q
  unfolding noted
  noted_atom after a m l f g =
      (λ i. record { n = m i; codes = l i; coefficients = f i; constants = g i })
      ∙ rw (a, e)

-- what is due has no part in it
pub noted_counts : (t : Bool) (x : Node) (cs : List ℤ) (k : ℤ) (nodes atoms : ℕ) (due : List ℕ) (q : Question)
    → noted t x cs k (counts nodes atoms) q ≡ noted t x cs k (record { nodes = nodes; atoms = atoms; due = due }) q
unfolding noted
noted_counts true x cs k nodes atoms due q = refl
noted_counts false x cs k nodes atoms due q = refl

-- the variables stay
pub noted_n : (t : Bool) (x : Node) (cs : List ℤ) (k : ℤ) (s : Shape) (q : Question) → (noted t x cs k s q).n ≡ q.n
unfolding noted
noted_n true x cs k s q = refl
noted_n false x cs k s q = refl

-- ---- a node read

pub not_node : {A : Type 0} (r : Refusal) (code : ℕ) → Err r ≡ Ok code → A
not_node r code e = let z : ◌≡◌ {A = ℕ} 0 1 = cc in absurd (omega arith)

module _ (b : List ℕ) (depth : ℕ) (s : Reading) (a : Result ℕ Refusal) (said : a ≡ node_answer b depth s) (after : Question) where
  pub read_refused : (r : Refusal) → a ≡ Err r → NodeRead b depth s a after
  read_refused r e = record { answer = said; noted = λ code f. not_node r code (sym e ∙ f) }

  pub read_noted : after ≡ (after_node b depth [] s).question → NodeRead b depth s a after
  read_noted n = record { answer = said; noted = λ code f. n }
