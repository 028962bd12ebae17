-- What holds of every held question that was read.
use Rattle.std.specs.Prelude.{◌≡◌, List, [], ℕ, ◌≤◌, ◌<◌, ◌+◌, T, length, Ok, Result, IsOk, is_ok}
use Rattle.std.proofs.Common.{sym, ap, subst, arith}
use Rattle.scope.specs.declared.Refusal.{Refusal}
use Rattle.scope.specs.declared.Question.{Question}
use Rattle.scope.specs.Sizes.{numbers_fit, variables_fit, most_atoms, most_nodes, most_variables}
use Rattle.scope.specs.Question.{nodes_of, kinds_of, coefficients_of, constant_of}
use Rattle.scope.specs.Refusals.{ended}
use Rattle.scope.specs.Wire.{Shape, Reading, Ended, record_read, read_from, read_held, after_head, question_held}
use Rattle.theory.specs.Wire.Lockstep.{kept_onward}
use Rattle.theory.specs.Wire.Held.{Sized}
use Rattle.theory.specs.Wire.ReadingSteps.{EndStep, going_record, ended_record}
use Rattle.theory.specs.Wire.Sound.{Sound, variables_range, sound_head, sound_step}
use Rattle.theory.specs.Wire.Wholes.{ReadWhole, read_whole, whole_read_lem, AcceptedWhole, accepted_whole}

pub record ReadSound (q : Question) : Type 0 where
  pub shape : Shape
  pub sound : Sound q shape
  pub none_due : shape.due ≡ []

read_sound : (b : List ℕ) (at : ℕ) (e : Ended) → read_from b at ≡ ended e → ReadSound e.question
read_sound b at e x =
    let g : ReadWhole b at e = read_whole b at e x in
    kept_onward (record_read b) e (λ (s : Reading). Sound s.question s.shape) (ReadSound e.question)
    (λ s r h y. sound_step b s r h (going_record b s r y))
    (λ s h y. at_end s h (ended_record b s e y))
    (most_nodes + 1) (after_head b at) (sound_head b at g.head) g.walk
  where
    at_end : (s : Reading) → Sound s.question s.shape → EndStep b s e → ReadSound e.question
    at_end s h st = subst (λ (u : Ended). ReadSound u.question) (sym st.after) (record { shape = s.shape; sound = h; none_due = st.none_due })

-- what document 01 says of a question's sizes
pub record WithinLimits (q : Question) : Type 0 where
  pub sized : Sized q
  pub some_variable : 1 ≤ q.n
  pub variables : q.n ≤ most_variables
  pub some_atom : 1 ≤ length (kinds_of (nodes_of q))
  pub atoms : length (kinds_of (nodes_of q)) ≤ most_atoms
  pub numbers : (i : ℕ) → i < length (kinds_of (nodes_of q)) → T (numbers_fit (coefficients_of q i) (constant_of q i))

sound_within : (q : Question) → ReadSound q → WithinLimits q
sound_within q r =
    let none : length r.shape.due ≡ 0 = ap length r.none_due in
    record {
      sized = r.sound.sized;
      some_variable = (variables_range q.n r.sound.variables).0;
      variables = (variables_range q.n r.sound.variables).1;
      some_atom = omega (arith, r.sound.kinds, r.sound.formed.begun);
      atoms = omega (arith, r.sound.kinds, r.sound.formed.atoms);
      numbers = λ i h. r.sound.fits i (rw r.sound.kinds at h);
    }

accepted_sound : (b : List ℕ) → IsOk (read_held b) → ReadSound (question_held (read_held b))
accepted_sound b e =
    let a : AcceptedWhole b = accepted_whole b e in
    subst ReadSound (sym a.question) (read_sound b 0 a.last (whole_read_lem b 0 a.last a.whole))

pub accepted_within : (b : List ℕ) → IsOk (read_held b) → WithinLimits (question_held (read_held b))
accepted_within b e = sound_within (question_held (read_held b)) (accepted_sound b e)

pub accepted_variables : (b : List ℕ) (q : Question) → read_held b ≡ Ok q → T (variables_fit q.n)
accepted_variables b q e = subst (λ (h : Result Question Refusal). T (variables_fit (question_held h).n)) e (accepted_sound b (ap is_ok e)).sound.variables
