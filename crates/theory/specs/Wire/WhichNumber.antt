-- Which number is refused. Reading and writing are stopped by 12 or 13 exactly where they come to an atom whose record and size are right and one
-- of whose numbers is beyond its limit: by the first one's number, at its place. By 4 they are stopped exactly for n.
use Rattle.std.proofs.Math.Path.{◌≡◌, refl}
use Rattle.std.proofs.Common.{ap, ◌∙◌, arith}
use Rattle.std.specs.Prelude.{◌↔◌, Bool, not, cond, List, [], ◌∷◌, ◌++◌, ℕ, zero, suc, ◌+◌, ◌-◌, ◌≤◌, ◌<◌, T, eqb, ℤ}
use Rattle.std.proofs.Math.Logic.{⊎_elim}
use Rattle.std.proofs.Math.Bool.{true, false}
use Rattle.std.proofs.Math.Option.{none, some}
use Rattle.scope.specs.declared.Rule.{Rule}
use Rattle.scope.specs.declared.Question.{Question}
use Rattle.scope.specs.declared.Refusal.{Refusal}
use Rattle.scope.specs.Sizes.{most_nodes, variables_fit}
use Rattle.scope.specs.Question.{is_unused, is_atom, coefficients_of, constant_of}
use Rattle.scope.specs.Refusals.{rule_number, Check, check, refusal, unless_passed, first_refusal}
use Rattle.scope.specs.Wire.{byte_at, kind_at, head_kind, frame_checks, head_checks, body_length, place_check, size_checks, field_checks, Reading, node_at, coefficients_at, constant_at, end_checks}
use Rattle.scope.specs.Writing.{Walk, node_held, code_checks, left_over_checks, number_checks, head_held_checks}
use Rattle.theory.specs.Wire.Checks.{Passed, EveryRule, FirstFailing, some_iff_failing, failing_append, passed_append, failing_numbered}
use Rattle.theory.specs.Wire.Fields.{NamesNumber, fields_refused_iff}
use Rattle.theory.specs.Wire.Stopped.{RecordReached, StoppedAt, at_head, at_node, at_end}
use Rattle.theory.specs.Wire.WritingStopped as writing

-- ---- the checks before an atom's numbers, and those

abbrev Low : Rule → Type 0
Low rule = rule_number rule < rule_number Rule.CoefficientBeyond

abbrev Other : Rule → Type 0
Other rule = rule ≡ Rule.BeyondLimit → ⊥

named_high : (place apart : ℕ) (cs : List ℤ) (k : ℤ) (ρ : Refusal) → NamesNumber place apart cs k ρ → rule_number Rule.CoefficientBeyond ≤ rule_number ρ.rule
named_high place apart cs k ρ = ⊎_elim (λ c. rw c.told (omega arith)) (λ c. rw c.told (omega arith))

module _ (before : List Check) (place apart : ℕ) (cs : List ℤ) (k : ℤ) (ρ : Refusal) where
  in_atom : (t : Bool) → first_refusal (cond t (field_checks place apart cs k) []) ≡ some ρ → T t × NamesNumber place apart cs k ρ
  unfolding first_refusal
  in_atom true e = (tt, (fields_refused_iff apart k place cs ρ).0 e)
  in_atom false e = let z : ◌≡◌ {A = ℕ} 0 1 = cc in absurd (omega arith)

  module _ (t : Bool) where
    abbrev all_checks : List Check
    all_checks = before ++ cond t (field_checks place apart cs k) []

    numbers_failed : EveryRule Low before → FirstFailing all_checks ρ → rule_number Rule.CoefficientBeyond ≤ rule_number ρ.rule → T t × Passed before × NamesNumber place apart cs k ρ
    numbers_failed low f h = ⊎_elim
        (λ e. absurd (omega (arith, h, failing_numbered Low before ρ low ((some_iff_failing before ρ).0 e))))
        (λ p. let n = in_atom t p.1 in (n.0, p.0, n.1))
        (failing_append before (cond t (field_checks place apart cs k) []) ρ ((some_iff_failing all_checks ρ).1 f))

    numbers_other : EveryRule Other before → FirstFailing all_checks ρ → ρ.rule ≡ Rule.BeyondLimit → ⊥
    numbers_other other f h = ⊎_elim
        (λ e. failing_numbered Other before ρ other ((some_iff_failing before ρ).0 e) h)
        (λ p. omega (arith, ap rule_number h, named_high place apart cs k ρ (in_atom t p.1).1))
        (failing_append before (cond t (field_checks place apart cs k) []) ρ ((some_iff_failing all_checks ρ).1 f))

  failed_numbers : (t : Bool) → T t → Passed before → NamesNumber place apart cs k ρ → FirstFailing (all_checks t) ρ
  failed_numbers true u p n = (some_iff_failing (all_checks true) ρ).0 (passed_append before (field_checks place apart cs k) p ∙ (fields_refused_iff apart k place cs ρ).1 n)
  failed_numbers false u p n = absurd u

-- ---- the check of n, behind others

module _ (before : List Check) (place n : ℕ) (ρ : Refusal) where
  abbrev last : List Check
  last = check Rule.BeyondLimit place (variables_fit n) ∷ []

  n_failed : (t : Bool) → variables_fit n ≡ t → unless_passed t (refusal Rule.BeyondLimit place) none ≡ some ρ → (variables_fit n ≡ false) × (ρ ≡ refusal Rule.BeyondLimit place)
  n_failed true h e = let z : ◌≡◌ {A = ℕ} 0 1 = cc in absurd (omega arith)
  n_failed false h e = (h, cc)

  variables_failed : EveryRule Other before → FirstFailing (before ++ last) ρ → ρ.rule ≡ Rule.BeyondLimit → Passed before × (variables_fit n ≡ false) × (ρ ≡ refusal Rule.BeyondLimit place)
  unfolding first_refusal
  variables_failed other f h = ⊎_elim
      (λ e. absurd (failing_numbered Other before ρ other ((some_iff_failing before ρ).0 e) h))
      (λ p. let n = n_failed (variables_fit n) refl p.1 in (p.0, n.0, n.1))
      (failing_append before last ρ ((some_iff_failing (before ++ last) ρ).1 f))

  failed_variables : Passed before → variables_fit n ≡ false → ρ ≡ refusal Rule.BeyondLimit place → FirstFailing (before ++ last) ρ
  unfolding first_refusal
  failed_variables p e r = (some_iff_failing (before ++ last) ρ).0 (passed_append before last p ∙ rw (e, r))

-- ---- reading

module _ (b : List ℕ) (at : ℕ) where
  -- the checks of a node before its numbers
  abbrev node_before : ℕ → Reading → List Check
  node_before depth s =
      frame_checks b s.place (not (is_unused (node_at b s))) (body_length s.question.n (node_at b s)) (place_check s.place s.shape ∷ size_checks s.place (node_at b s) depth s.shape [])

  -- reading comes to an atom that is due and passes these
  pub record AtomReached : Type 0 where
    pub reading : Reading
    pub depth : ℕ
    pub due : List ℕ
    pub reached : RecordReached b at reading
    pub next : reading.shape.due ≡ depth ∷ due
    pub atom : T (is_atom (node_at b reading))
    pub before : Passed (node_before depth reading)

  module _ (ρ : Refusal) where
    -- the first number beyond its limit is told at its own first byte
    pub record StoppedByNumber : Type 0 where
      pub atom : AtomReached
      pub named : NamesNumber (atom.reading.place + 4) 4 (coefficients_at b atom.reading) (constant_at b atom.reading) ρ

    -- the head is there, and its n is beyond its limit
    pub record StoppedByVariables : Type 0 where
      pub before : Passed (frame_checks b at (eqb (kind_at b at) head_kind) 1 [])
      pub beyond : variables_fit (byte_at b (at + 4)) ≡ false
      pub told : ρ ≡ refusal Rule.BeyondLimit at

    stopped_number : StoppedAt b at ρ → rule_number Rule.CoefficientBeyond ≤ rule_number ρ.rule → StoppedByNumber
    stopped_number (at_head f) h =
        absurd (omega (arith, h, failing_numbered Low (head_checks b at) ρ (omega arith, (omega arith, (omega arith, (omega arith, (omega arith, tt))))) f))
    stopped_number (at_node s depth due r d f) h =
        let n = numbers_failed (node_before depth s) (s.place + 4) 4 (coefficients_at b s) (constant_at b s) ρ (is_atom (node_at b s)) (omega arith, (omega arith, (omega arith, (omega arith, (omega arith, (omega arith, (omega arith, tt))))))) f h in
        record { atom = record { reading = s; depth = depth; due = due; reached = r; next = d; atom = n.0; before = n.1 }; named = n.2 }
    stopped_number (at_end s r d f) h =
        absurd (omega (arith, h, failing_numbered Low (end_checks b s.place) ρ (omega arith, (omega arith, (omega arith, (omega arith, tt)))) f))

    number_stopped : StoppedByNumber → StoppedAt b at ρ × (rule_number Rule.CoefficientBeyond ≤ rule_number ρ.rule)
    number_stopped n =
        let a = n.atom in
        let s = a.reading in (
          at_node s a.depth a.due a.reached a.next
              (failed_numbers (node_before a.depth s) (s.place + 4) 4 (coefficients_at b s) (constant_at b s) ρ (is_atom (node_at b s)) a.atom a.before n.named),
          named_high (s.place + 4) 4 (coefficients_at b s) (constant_at b s) ρ n.named,
        )

    pub number_stopped_iff : (StoppedAt b at ρ × (rule_number Rule.CoefficientBeyond ≤ rule_number ρ.rule)) ↔ StoppedByNumber
    number_stopped_iff = (λ p. stopped_number p.0 p.1, number_stopped)

    stopped_variables : StoppedAt b at ρ → ρ.rule ≡ Rule.BeyondLimit → StoppedByVariables
    stopped_variables (at_head f) h =
        let v = variables_failed (frame_checks b at (eqb (kind_at b at) head_kind) 1 []) at (byte_at b (at + 4)) ρ ((λ e. omega (arith, ap rule_number e)), ((λ e. omega (arith, ap rule_number e)), ((λ e. omega (arith, ap rule_number e)), ((λ e. omega (arith, ap rule_number e)), tt)))) f h in
        record { before = v.0; beyond = v.1; told = v.2 }
    stopped_variables (at_node s depth due r d f) h =
        absurd (numbers_other (node_before depth s) (s.place + 4) 4 (coefficients_at b s) (constant_at b s) ρ (is_atom (node_at b s)) ((λ e. omega (arith, ap rule_number e)), ((λ e. omega (arith, ap rule_number e)), ((λ e. omega (arith, ap rule_number e)), ((λ e. omega (arith, ap rule_number e)), ((λ e. omega (arith, ap rule_number e)), ((λ e. omega (arith, ap rule_number e)), ((λ e. omega (arith, ap rule_number e)), tt))))))) f h)
    stopped_variables (at_end s r d f) h =
        absurd (failing_numbered Other (end_checks b s.place) ρ ((λ e. omega (arith, ap rule_number e)), ((λ e. omega (arith, ap rule_number e)), ((λ e. omega (arith, ap rule_number e)), ((λ e. omega (arith, ap rule_number e)), tt)))) f h)

    variables_stopped : StoppedByVariables → StoppedAt b at ρ × (ρ.rule ≡ Rule.BeyondLimit)
    variables_stopped v = (
      at_head (failed_variables (frame_checks b at (eqb (kind_at b at) head_kind) 1 []) at (byte_at b (at + 4)) ρ v.before v.beyond v.told),
      ap (λ (r : Refusal). r.rule) v.told,
    )

    pub variables_stopped_iff : (StoppedAt b at ρ × (ρ.rule ≡ Rule.BeyondLimit)) ↔ StoppedByVariables
    variables_stopped_iff = (λ p. stopped_variables p.0 p.1, variables_stopped)

-- ---- writing

codes_numbered : (P : Rule → Type 0) (count : ℕ) (codes : List ℕ) (i : ℕ) (later : List Check) → P Rule.LeftOver → EveryRule P later → EveryRule P (code_checks count codes i later)
unfolding code_checks
codes_numbered P zero codes i later p n = n
codes_numbered P (suc count) codes i later p n = (p, codes_numbered P count codes (suc i) later p n)

module _ (q : Question) where
  abbrev node_held_before : ℕ → Walk → List Check
  node_held_before depth w = place_check w.shape.nodes w.shape ∷ check Rule.NotDue w.shape.nodes (not (is_unused (node_held q w))) ∷ size_checks w.shape.nodes (node_held q w) depth w.shape []

  -- writing comes to an atom that is due and passes these
  pub record AtomWalked : Type 0 where
    pub walk : Walk
    pub depth : ℕ
    pub due : List ℕ
    pub walked : writing.Walked q walk
    pub next : walk.shape.due ≡ depth ∷ due
    pub atom : T (is_atom (node_held q walk))
    pub before : Passed (node_held_before depth walk)

  left_numbered : (P : Rule → Type 0) (w : Walk) → P Rule.LeftOver → EveryRule P (left_over_checks q w.shape)
  unfolding left_over_checks
  left_numbered P w p = codes_numbered P (most_nodes - w.shape.nodes) q.codes w.shape.nodes (number_checks q w.shape.atoms) p (p, tt)

  module _ (ρ : Refusal) where
    -- the first number beyond its limit is told at the node
    pub record RefusedByNumber : Type 0 where
      pub atom : AtomWalked
      pub named : NamesNumber atom.walk.shape.nodes 0 (coefficients_of q atom.walk.shape.atoms) (constant_of q atom.walk.shape.atoms) ρ

    refused_number : writing.RefusedAt q ρ → rule_number Rule.CoefficientBeyond ≤ rule_number ρ.rule → RefusedByNumber
    refused_number (writing.at_head f) h = absurd (omega (arith, h, failing_numbered Low (head_held_checks q) ρ (omega arith, tt) f))
    refused_number (writing.at_node w depth due r d f) h =
        let n = numbers_failed (node_held_before depth w) w.shape.nodes 0 (coefficients_of q w.shape.atoms) (constant_of q w.shape.atoms) ρ (is_atom (node_held q w)) (omega arith, (omega arith, (omega arith, (omega arith, tt)))) f h in
        record { atom = record { walk = w; depth = depth; due = due; walked = r; next = d; atom = n.0; before = n.1 }; named = n.2 }
    refused_number (writing.at_rest w r d f) h = absurd (omega (arith, h, failing_numbered Low (left_over_checks q w.shape) ρ (left_numbered Low w (omega arith)) f))

    number_refused : RefusedByNumber → writing.RefusedAt q ρ × (rule_number Rule.CoefficientBeyond ≤ rule_number ρ.rule)
    number_refused n =
        let a = n.atom in
        let w = a.walk in
        let cs = coefficients_of q w.shape.atoms in
        let k = constant_of q w.shape.atoms in (
          writing.at_node w a.depth a.due a.walked a.next (failed_numbers (node_held_before a.depth w) w.shape.nodes 0 cs k ρ (is_atom (node_held q w)) a.atom a.before n.named),
          named_high w.shape.nodes 0 cs k ρ n.named,
        )

    pub number_refused_iff : (writing.RefusedAt q ρ × (rule_number Rule.CoefficientBeyond ≤ rule_number ρ.rule)) ↔ RefusedByNumber
    number_refused_iff = (λ p. refused_number p.0 p.1, number_refused)

    refused_variables : writing.RefusedAt q ρ → ρ.rule ≡ Rule.BeyondLimit → (variables_fit q.n ≡ false) × (ρ ≡ refusal Rule.BeyondLimit 0)
    refused_variables (writing.at_head f) h = let v = variables_failed [] 0 q.n ρ tt f h in (v.1, v.2)
    refused_variables (writing.at_node w depth due r d f) h =
        absurd (numbers_other (node_held_before depth w) w.shape.nodes 0 (coefficients_of q w.shape.atoms) (constant_of q w.shape.atoms) ρ (is_atom (node_held q w)) ((λ e. omega (arith, ap rule_number e)), ((λ e. omega (arith, ap rule_number e)), ((λ e. omega (arith, ap rule_number e)), ((λ e. omega (arith, ap rule_number e)), tt)))) f h)
    refused_variables (writing.at_rest w r d f) h = absurd (failing_numbered Other (left_over_checks q w.shape) ρ (left_numbered Other w (λ e. omega (arith, ap rule_number e))) f h)

    pub variables_refused_iff : (writing.RefusedAt q ρ × (ρ.rule ≡ Rule.BeyondLimit)) ↔ ((variables_fit q.n ≡ false) × (ρ ≡ refusal Rule.BeyondLimit 0))
    variables_refused_iff = (
      λ p. refused_variables p.0 p.1,
      λ v. (writing.at_head (failed_variables [] 0 q.n ρ tt v.0 v.1), ap (λ (r : Refusal). r.rule) v.1),
    )
