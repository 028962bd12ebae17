-- A place in a question: any two outcomes of opening it, of peeking at its record and of a step coincide; and a refused step stays.
-- Their outcomes are tied to the `ensures` clauses themselves, at the end.
use Rattle.std.specs.Prelude.{◌≡◌, refl, List, ℕ, Err, Result}
use Rattle.std.proofs.Common.{sym, ap, ◌∙◌}
use Rattle.std.specs.Borrow.{Bor}
use seplogic.Ra.Ura.{Ura}
use base.Logic.{SProp}
use base.Fml.{Lft}
use prog.Memory.{Memory}
use prog.Routine.{Routine}
use types.Logic.{Logic}
use contract.Monad.{Fun, fact}
use Rattle.place.specs.contracts.open as opening
use Rattle.place.specs.contracts.peek_record as peeking
use Rattle.place.specs.contracts.next_record as stepping
use Rattle.scope.specs.declared.Record.{Record}
use Rattle.scope.specs.declared.Rule.{Rule}
use Rattle.scope.specs.declared.Refusal.{Refusal}
use Rattle.scope.specs.Refusals.{refusal}
use Rattle.place.specs.declared.Place.{Place}
use Rattle.place.specs.declared.Step.{Step}
use Rattle.place.specs.Steps.{moved_by, PlaceStepped}
use Rattle.promises.specs.Calls.{RecordOutcome}
use Rattle.promises.specs.Once.{SamePart}
use Rattle.promises.specs.Demand1.{record_cut}

abbrev pub OpenOutcome : Bor (List ℕ) → Place → Type 0
OpenOutcome bytes p = (p.bytes ≡ bytes) × (p.at ≡ 0)

pub open_once : (bytes : Bor (List ℕ)) {p q : Place} → OpenOutcome bytes p → OpenOutcome bytes q → p ≡ q
open_once bytes a b = λ i. record { bytes = (a.0 ∙ sym b.0) i; at = (a.1 ∙ sym b.1) i }

abbrev pub PeekOutcome : Place → Result Record Refusal → Type 0
PeekOutcome p r = RecordOutcome p.bytes.now p.at r

pub peek_once : (p : Place) {r s : Result Record Refusal} → PeekOutcome p r → PeekOutcome p s → r ≡ s
peek_once p a b = a ∙ sym b

pub record SameStep (s u : Step) : Type 0 where
  pub place : s.place ≡ u.place
  pub answer : s.answer ≡ u.answer
  pub body : SamePart s.body u.body

pub step_once : (p : Place) {s u : Step} → PlaceStepped p s → PlaceStepped p u → SameStep s u
step_once p a b = record {
  place = λ i. record { bytes = (a.same_bytes ∙ sym b.same_bytes) i; at = (a.moved ∙ sym b.moved) i };
  answer = a.answered ∙ sym b.answered;
  body = record { lies = a.handed.lies ∙ sym b.handed.lies; holds = a.handed.holds ∙ sym b.handed.holds };
}

-- a bare step refuses only by 1, at the record, and the place then stays
pub step_stays : (p : Place) {s : Step} → PlaceStepped p s → (ρ : Refusal) → s.answer ≡ Err ρ → (ρ ≡ refusal Rule.BytesEnd p.at) × (s.place ≡ p)
step_stays p a ρ e = (
  record_cut p.bytes.now p.at a.answered ρ e,
  λ i. record { bytes = a.same_bytes i; at = (a.moved ∙ ap (λ (r : Result Record Refusal). moved_by r p.at) (sym a.answered ∙ e)) i },
)

-- ---- each outcome is what the call's own `ensures` says, as the program logic has it; no call here has a `requires`

module _ {M : Type 1} {𝓤 : Ura M} (𝓛 : Logic 𝓤) (mem : Memory → SProp 𝓤) (run : Routine → Fun 𝓤) (κ : Lft) where
  pub open_tied : (bytes : Bor (List ℕ)) (p : Place) → opening.ensures-1 𝓛 (κ, tt) mem run bytes (record { entry = bytes; exit = bytes }) p ≡ fact 𝓤 (OpenOutcome bytes p)
  open_tied bytes p = refl

  pub peek_tied : (p : Place) (r : Result Record Refusal) → peeking.ensures-1 𝓛 (κ, tt) mem run p (record { entry = p; exit = p }) r ≡ fact 𝓤 (PeekOutcome p r)
  peek_tied p r = refl

  pub step_tied : (p : Place) (s : Step) → stepping.ensures-1 𝓛 (κ, tt) mem run p (record { entry = p; exit = p }) s ≡ fact 𝓤 (PlaceStepped p s)
  step_tied p s = refl
