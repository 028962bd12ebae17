-- An atom of a held question, and what looking at one of its nodes answers.
use Rattle.std.specs.Prelude.{ℕ, ◌≤◌, ◌<◌, Result}
use Rattle.std.proofs.Math.Option.{Option}
use Rattle.scope.specs.Refusals.{unless_refused}
use Rattle.scope.specs.declared.Question.{Question}
use Rattle.scope.specs.declared.Refusal.{Refusal}
use Rattle.scope.specs.Sizes.{most_variables, most_atoms}
use Rattle.scope.specs.Question.{Node, code_of}

-- an atom of a question that names no more variables than there can be
pub record AtomHeld (q : Question) (atom : ℕ) : Type 0 where
  pub variables : q.n ≤ most_variables
  pub few : atom < most_atoms

-- the code, where nothing is refused
abbrev pub node_or : Option Refusal → Node → Result ℕ Refusal
node_or o x = unless_refused o (code_of x)
