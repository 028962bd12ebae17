-- Judging agrees with running: what the judge says of values that it takes is what the machine says, and what a built table says, of
-- the word of 40 letters that spells them.
use Rattle.std.specs.Prelude.{◌≡◌, ◌↔◌, Bool, List, [], ◌∷◌, ℕ, ◌*◌, ◌^◌, ◌≤◌, length, take, T, ℤ, Ok, Err, Result}
use Rattle.std.proofs.Math.Path.{refl}
use Rattle.std.proofs.Common.{sym, ap, ◌∙◌}
use Rattle.std.proofs.Math.Bool.{true, false}
use Rattle.std.proofs.Math.Dec.{eqb, leb, eqb→eq, eqb_refl}
use Rattle.std.specs.Float.Ieee.Bits.{is_true}
use Rattle.scope.specs.declared.Rule.{Rule}
use Rattle.scope.specs.declared.Building.{Building}
use Rattle.scope.specs.declared.Question.{Question}
use Rattle.scope.specs.declared.Refusal.{Refusal}
use Rattle.std.specs.List.{list_all}
use Rattle.scope.specs.Sizes.{most_value, most_states, variables_fit}
use Rattle.scope.specs.Refusals.{check, refusal, unless_refused, first_refusal}
use Rattle.scope.specs.Wire.{read_held}
use Rattle.scope.specs.Words.{letters, spelled, Over}
use Rattle.scope.specs.States.{satisfied}
use Rattle.scope.specs.Numbering.{machine_of, after}
use Rattle.scope.specs.Building.{table_width, built}
use Rattle.scope.specs.Running.{ran}
use Rattle.scope.specs.Judging.{judged_question, judged}
use Rattle.theory.specs.Words.Spelling.{word_of_values, word_of_values_over, word_of_values_spells, values_at_most}
use Rattle.theory.specs.Entries.Meaning.{values_mean}
use Rattle.theory.specs.Calls.Deciding.{rows_of}
use Rattle.theory.specs.Calls.Building.{table_of, held_table_answers}
use Rattle.theory.specs.Calls.Built.{built_answers}

-- yes is yes, and no is no
pub truth_yes : (b : Bool) → (◌≡◌ {A = Result Bool Refusal} (Ok b) (Ok true)) ↔ (b ≡ true)
truth_yes true = (λ e. refl, λ e. refl)
truth_yes false = (λ e. cc, λ e. cc)

-- the values that the judge takes: n of them, each at most 2 ^ 40 - 1
pub record Taken (n : ℕ) (values : List ℕ) : Type 0 where
  pub count : length values ≡ n
  pub small : Over (2 ^ 40) values

module _ (q : Question) (values : List ℕ) where
  pub judged_truth : Taken q.n values → judged_question q values ≡ Ok (satisfied q values)
  unfolding judged_question first_refusal
  judged_truth t =
      rw (t.count, is_true (eqb q.n q.n) (eqb_refl q.n), is_true (list_all (λ v. leb v most_value) values) ((values_at_most most_value values).1 t.small))

  pub spelled_over : Taken q.n values → Over (letters q.n) (word_of_values 40 values)
  spelled_over t = rw t.count at (word_of_values_over 40 values)

  pub word_spells : Taken q.n values → spelled q.n (word_of_values 40 values) ≡ values
  word_spells t = rw t.count at (word_of_values_spells 40 values t.small)

  -- by the machine
  pub judged_machine : Taken q.n values → judged_question q values ≡ Ok ((machine_of q).accepts (after (machine_of q) (machine_of q).start (word_of_values 40 values)))
  judged_machine t = judged_truth t ∙ ap Ok (sym (values_mean q 40 values t.count t.small))

  -- by the table
  pub judged_table : Taken q.n values → T (variables_fit q.n) → (r : ℕ) → length (rows_of q r) ≤ r → length (rows_of q r) ≤ most_states
      → judged_question q values ≡ ran q.n (table_of q r) (word_of_values 40 values)
  judged_table t v r room few = judged_truth t ∙ sym (rw (word_spells t) at (held_table_answers q r room v few (spelled_over t)))

  -- other values are refused
  pub judged_refused : ¬ Taken q.n values → judged_question q values ≡ Err (refusal Rule.Values 0)
  unfolding judged_question first_refusal
  judged_refused n = go (eqb (length values) q.n) (list_all (λ v. leb v most_value) values) refl refl
    where
      go : (b c : Bool) → eqb (length values) q.n ≡ b → list_all (λ v. leb v most_value) values ≡ c
          → unless_refused (first_refusal (check Rule.Values 0 b ∷ check Rule.Values 0 c ∷ [])) (satisfied q values) ≡ Err (refusal Rule.Values 0)
      go true true e d = absurd (n (record { count = eqb→eq (length values) q.n (rw e tt); small = (values_at_most most_value values).0 (rw d tt) }))
      go true false e d = refl
      go false c e d = refl

-- ---- the call, where the bytes are accepted as q

module _ (bytes values : List ℕ) (q : Question) (accepted : read_held bytes ≡ Ok q) where
  pub judged_accepted : judged bytes values ≡ judged_question q values
  unfolding judged
  judged_accepted = rw accepted

  -- judging the bytes agrees with the table that the same bytes build
  pub judged_built : Taken q.n values → (keys : List ℤ) (table : List ℕ) (states : ℕ) → (built bytes keys table).answer ≡ Ok (Building.Built states)
      → judged bytes values ≡ ran q.n (take (states * table_width q.n) (built bytes keys table).table) (word_of_values 40 values)
  judged_built t keys table states e =
      judged_accepted ∙ judged_truth q values t ∙ sym (rw (word_spells q values t) at (built_answers bytes keys table q accepted states e (word_of_values 40 values) (spelled_over q values t)))
