-- A machine whose `same` tests equality, as the numbering's laws ask from `has` on; a question's machine is one.
use Rattle.std.specs.Prelude.{◌≡◌, refl, true, [], ◌∷◌}
use Rattle.std.proofs.Common.{sym, ap, ap₂, true≢false}
use Rattle.std.proofs.Math.Bool.{and-eq-true_iff}
use Rattle.std.specs.Float.Ieee.Bits.{is_true}
use Rattle.scope.specs.declared.Question.{Question}
use Rattle.scope.specs.Whole.{eq_z}
use Rattle.scope.specs.States.{Entry, dead, live, State, same_entry, same_state}
use Rattle.scope.specs.Numbering.{Machine, machine_of}
use Rattle.theory.specs.Numbers.Integers.{eqZ→eq, eq→eq_z}

pub record Lawful {S : Type 0} (m : Machine S) : Type 0 where
  pub same_sound : (s t : S) → m.same s t ≡ true → s ≡ t
  pub same_refl : (s : S) → m.same s s ≡ true

same_entry_sound : (d e : Entry) → same_entry d e ≡ true → d ≡ e
unfolding same_entry
same_entry_sound dead dead p = refl
same_entry_sound dead (live k) p = absurd (true≢false (sym p))
same_entry_sound (live k) dead p = absurd (true≢false (sym p))
same_entry_sound (live k) (live h) p = ap live (eqZ→eq k h (rw p tt))

same_entry_refl : (d : Entry) → same_entry d d ≡ true
unfolding same_entry
same_entry_refl dead = refl
same_entry_refl (live k) = is_true (eq_z k k) (eq→eq_z k k refl)

pub same_state_sound : (s t : State) → same_state s t ≡ true → s ≡ t
unfolding same_state
same_state_sound [] [] p = refl
same_state_sound [] (e ∷ es) p = absurd (true≢false (sym p))
same_state_sound (d ∷ ds) [] p = absurd (true≢false (sym p))
same_state_sound (d ∷ ds) (e ∷ es) p =
    let b = (and-eq-true_iff (same_entry d e) (same_state ds es)).0 p in
    ap₂ ◌∷◌ (same_entry_sound d e b.0) (same_state_sound ds es b.1)

pub same_state_refl : (s : State) → same_state s s ≡ true
unfolding same_state
same_state_refl [] = refl
same_state_refl (d ∷ ds) = rw (same_entry_refl d, same_state_refl ds)

pub machine_lawful : (q : Question) → Lawful (machine_of q)
unfolding machine_of
machine_lawful q = record { same_sound = same_state_sound; same_refl = same_state_refl }
