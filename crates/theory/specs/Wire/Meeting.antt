-- Where reading stands at a node and writing stands at the same node: what the one checks the other does, and both grow to one shape.
use Rattle.std.specs.Prelude.{◌≡◌, not, List, ℕ, ◌<◌, T}
use Rattle.std.proofs.Common.{sym, ◌∙◌, subst}
use Rattle.scope.specs.declared.Question.{Question}
use Rattle.scope.specs.Question.{Node, is_unused, is_atom, coefficients_of, constant_of}
use Rattle.scope.specs.Wire.{header_there, body_there, length_at, body_length, Shape, grown, Reading, node_at, coefficients_at, constant_at}
use Rattle.scope.specs.Writing.{Walk, node_held}
use Rattle.scope.specs.Sizes.{most_atoms, most_nodes}
use Rattle.theory.specs.Wire.ReadingSteps.{NodeThere}
use Rattle.theory.specs.Wire.WritingSteps.{NodeHeld}

pub record Meet (b : List ℕ) (q : Question) (s : Reading) (w : Walk) : Type 0 where
  pub shape : s.shape ≡ w.shape
  pub n : s.question.n ≡ q.n
  pub node : node_at b s ≡ node_held q w
  pub coefficients : T (is_atom (node_held q w)) → coefficients_at b s ≡ coefficients_of q w.shape.atoms
  pub constant : T (is_atom (node_held q w)) → constant_at b s ≡ constant_of q w.shape.atoms

module _ (b : List ℕ) (q : Question) (s : Reading) (w : Walk) (m : Meet b q s w) (depth : ℕ) where
  held_atom : T (is_atom (node_at b s)) → T (is_atom (node_held q w))
  held_atom t = subst (λ (x : Node). T (is_atom x)) m.node t

  there_atom : T (is_atom (node_held q w)) → T (is_atom (node_at b s))
  there_atom t = subst (λ (x : Node). T (is_atom x)) (sym m.node) t

  pub same_row_length : body_length s.question.n (node_at b s) ≡ body_length q.n (node_held q w)
  same_row_length i = body_length (m.n i) (m.node i)

  pub there_of_held : NodeHeld q depth w → T (header_there b s.place) → length_at b s.place ≡ body_length q.n (node_held q w) → T (body_there b s.place) → NodeThere b depth s
  there_of_held h header exact body = record {
    header = header;
    used = subst (λ (x : Node). T (not (is_unused x))) (sym m.node) h.used;
    exact = exact ∙ sym same_row_length;
    body = body;
    room = subst (λ (a : Shape). a.nodes < most_nodes) (sym m.shape) h.room;
    few = λ t. subst (λ (a : Shape). a.atoms < most_atoms) (sym m.shape) (h.few (held_atom t));
    shallow = h.shallow;
    fit = λ t. rw (m.coefficients (held_atom t), m.constant (held_atom t)) (h.fit (held_atom t));
  }

  pub held_of_there : NodeThere b depth s → NodeHeld q depth w
  held_of_there h = record {
    room = subst (λ (a : Shape). a.nodes < most_nodes) m.shape h.room;
    used = subst (λ (x : Node). T (not (is_unused x))) m.node h.used;
    few = λ t. subst (λ (a : Shape). a.atoms < most_atoms) m.shape (h.few (there_atom t));
    shallow = h.shallow;
    fit = λ t. rw (← m.coefficients t, ← m.constant t) (h.fit (there_atom t));
  }

  pub same_grown : (due : List ℕ) → grown (node_at b s) depth due s.shape ≡ grown (node_held q w) depth due w.shape
  same_grown due i = grown (m.node i) depth due (m.shape i)
