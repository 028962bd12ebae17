-- The sham builds that document 01 names ("What the contracts must tie down"): each is shut out by the demand that document 01 says in brackets.
-- A sham is stated of questions alone, and whatever it does of other bytes.
use Rattle.std.proofs.Math.Path.{◌≡◌, refl, sym, ap}
use Rattle.std.proofs.Common.{◌∙◌, subst, true≢false, leb→le}
use Rattle.std.specs.Prelude.{Bool, false, ◌&&◌, ℕ, zero, suc, ◌+◌, ◌*◌, ◌/◌, ◌%◌, ◌≤◌, ◌<◌, leb, eqb, length, take, replicate, ℤ, pos, Ok, Err}
use Rattle.std.proofs.Math.Bool.{true}
use mathlib.Core.List.{List, [], ◌∷◌}
use native.Mathlib.Omega.{arith}
use Rattle.scope.specs.declared.Rule.{Rule}
use Rattle.scope.specs.declared.Decision.{Decision}
use Rattle.scope.specs.declared.Building.{Building}
use Rattle.scope.specs.Whole.{all_from}
use Rattle.scope.specs.Question.{equation}
use Rattle.scope.specs.Refusals.{refusal, first_refusal}
use Rattle.scope.specs.Words.{Word, letters, spelled, Over, over-[], over-∷}
use Rattle.scope.specs.Tree.{Tree, question_bytes, true_for, IsQuestion}
use Rattle.scope.specs.Bound.{bound}
use Rattle.scope.specs.Numbering.{machine_of}
use Rattle.scope.specs.Deciding.{Decided}
use Rattle.scope.specs.Building.{Built}
use Rattle.scope.specs.Running.{table_fits, ran}
use Rattle.scope.specs.Outcomes.{running}
use Rattle.theory.specs.Calls.Deciding.{StatesAre, states_unique, FirstSatisfying}
use Rattle.theory.specs.Calls.Decided.{RowFound}
use Rattle.theory.specs.Calls.Questions.{held_in, room_for, found_as, never_as, no_room_as, rows_for, built_as, HandsOver}
use Rattle.promises.specs.Calls.{DecideOutcome, BuildOutcome}
use Rattle.promises.specs.Demand2 as two
use Rattle.promises.specs.Demand3 as three
use Rattle.promises.specs.Demand3.{table_in}

-- ---- a build's calls, and that they meet their contracts

abbrev pub Decider : Type 0
Decider = List ℕ → List ℤ → List ℕ → List ℕ → Decided

abbrev pub Builder : Type 0
Builder = List ℕ → List ℤ → List ℕ → Built

abbrev pub MeetsDecide : Decider → Type 0
MeetsDecide d = (bytes : List ℕ) (keys : List ℤ) (path word : List ℕ) → DecideOutcome bytes keys path word (d bytes keys path word)

abbrev pub MeetsBuild : Builder → Type 0
MeetsBuild b = (bytes : List ℕ) (keys : List ℤ) (table : List ℕ) → BuildOutcome bytes keys table (b bytes keys table)

-- what a build does of every question
abbrev pub EachDecided : Decider → (List ℕ → Decided → Type 0) → Type 0
EachDecided d P = (bytes : List ℕ) (keys : List ℤ) (path word : List ℕ) → IsQuestion bytes → P word (d bytes keys path word)

abbrev pub EachBuilt : Builder → (ℕ → ℕ → List ℕ → List ℕ → Type 0) → Type 0
EachBuilt b P =
    (bytes : List ℕ) (keys : List ℤ) (table : List ℕ) (q : IsQuestion bytes) (states : ℕ) → (b bytes keys table).answer ≡ Ok (Building.Built states) → P q.n states table (b bytes keys table).table

-- ---- two questions: not (x = 0), which 1 satisfies and 0 does not, and x = 1, which 1 satisfies and 3 does not

abbrev not_nought : Tree
not_nought = Tree.not (Tree.atom (record { kind = equation; coefficients = pos 1 ∷ []; constant = pos 0 }))

abbrev is_one : Tree
is_one = Tree.atom (record { kind = equation; coefficients = pos 1 ∷ []; constant = pos 1 })

nought : IsQuestion (question_bytes 1 not_nought)
unfolding running
nought = record { n = 1; tree = not_nought; within = tt; bytes_are = refl }

one : IsQuestion (question_bytes 1 is_one)
unfolding running
one = record { n = 1; tree = is_one; within = tt; bytes_are = refl }

-- cells marked 9, for as many rows as the bound
abbrev some_keys : List ℤ
some_keys = replicate 4 (pos 9)

abbrev some_path : List ℕ
some_path = replicate 8 9

abbrev some_letters : List ℕ
some_letters = replicate 4 9

abbrev some_table : List ℕ
some_table = replicate 12 9

nought_room : (bound (held_in nought) ≤ room_for nought some_keys some_path) × (room_for nought some_keys some_path ≤ length some_letters)
unfolding running nought
nought_room = (leb→le _ _ tt, leb→le _ _ tt)

one_room : bound (held_in one) ≤ rows_for one some_keys some_table
unfolding running one
one_room = leb→le _ _ tt

nought_truth : (true_for nought.tree (1 ∷ []) ≡ true) × (true_for nought.tree (spelled nought.n []) ≡ false)
unfolding running nought
nought_truth = (refl, refl)

one_truth : (true_for one.tree (spelled one.n (1 ∷ [])) ≡ true) × (true_for one.tree (spelled one.n (1 ∷ 1 ∷ [])) ≡ false)
unfolding running one
one_truth = (refl, refl)

one_over : Over (letters one.n) (1 ∷ []) × Over (letters one.n) (1 ∷ 1 ∷ [])
unfolding one
one_over = let h : 1 < letters 1 = omega arith in (over-∷ h over-[], over-∷ h (over-∷ h over-[]))

-- ---- deciding

module _ (d : Decider) (meets : MeetsDecide d) where
  abbrev o : Decided
  o = d (question_bytes 1 not_nought) some_keys some_path some_letters

  abbrev out : DecideOutcome (question_bytes 1 not_nought) some_keys some_path some_letters o
  out = meets (question_bytes 1 not_nought) some_keys some_path some_letters

  -- one that always says no room: demand 2 fixes when it is given
  pub not_always_no_room : ¬ EachDecided d (λ word o. (states : ℕ) × (o.answer ≡ Ok (Decision.NoRoom states)))
  not_always_no_room always =
      let a = always (question_bytes 1 not_nought) some_keys some_path some_letters nought in
      two.bound_is_room (question_bytes 1 not_nought) some_keys some_path some_letters out nought nought_room.0 a.0 a.1

  -- one that always says never: demand 2
  pub not_always_never : ¬ EachDecided d (λ word o. (states : ℕ) × (o.answer ≡ Ok (Decision.Never states)))
  unfolding nought
  not_always_never always =
      let a = always (question_bytes 1 not_nought) some_keys some_path some_letters nought in
      two.satisfied_not_never (question_bytes 1 not_nought) some_keys some_path some_letters out nought (1 ∷ []) refl nought_truth.0 a.0 a.1

  -- one that writes nothing: demand 2 by the word handed over
  pub not_word_kept : ¬ EachDecided d (λ word o. o.word ≡ word)
  unfolding nought
  not_word_kept kept =
      let f = two.satisfied_found (question_bytes 1 not_nought) some_keys some_path some_letters out nought nought_room.0 nought_room.1 (1 ∷ []) refl nought_truth.0 in
      let h : HandsOver nought some_letters o.word f.1 = two.found_first (question_bytes 1 not_nought) some_keys some_path some_letters out nought f.0 f.1 f.2 in
      let k = kept (question_bytes 1 not_nought) some_keys some_path some_letters nought in
      no_such f.1 (subst (λ (w : List ℕ). FirstSatisfying 1 (true_for not_nought) (take f.1 w)) k h.first)
    where
      nine_over : {w : Word} → Over (letters 1) (9 ∷ w) → ⊥
      nine_over (over-∷ h o) = omega (arith, h)

      no_such : (count : ℕ) → FirstSatisfying 1 (true_for not_nought) (take count some_letters) → ⊥
      no_such zero f = true≢false (sym f.satisfies ∙ nought_truth.1)
      no_such (suc k) f = nine_over f.over

-- ---- building

-- cells marked 9 are no table
no_table : (a b c : Bool) → a && (b && (c && false)) ≡ false
no_table true true true = refl
no_table true true false = refl
no_table true false c = refl
no_table false b c = refl

nine_refused : (l : List ℕ) (w : Word) → ran 1 (9 ∷ l) w ≡ Err (refusal Rule.Table 0)
unfolding ran first_refusal table_fits all_from
nine_refused l w = rw (no_table (eqb (suc (length l) % 3) 0) (leb 1 (suc (length l) / 3)) (leb (suc (length l) / 3) 65535))

nines_refused : (states : ℕ) (w : Word) → ran 1 (table_in 1 states some_table) w ≡ Err (refusal Rule.Table 0)
unfolding ran first_refusal table_fits
nines_refused zero w = refl
nines_refused (suc s) w =
    let e : suc s * 3 ≡ suc (s * 3 + 2) = omega arith in
    ap (λ (k : ℕ). ran 1 (take k some_table) w) e ∙ nine_refused (take (s * 3 + 2) (replicate 11 9)) w

module _ (b : Builder) (meets : MeetsBuild b) where
  abbrev made : Built
  made = b (question_bytes 1 is_one) some_keys some_table

  abbrev made_out : BuildOutcome (question_bytes 1 is_one) some_keys some_table made
  made_out = meets (question_bytes 1 is_one) some_keys some_table

  one_built : (states : ℕ) × (made.answer ≡ Ok (Building.Built states))
  one_built = three.bound_builds (question_bytes 1 is_one) some_keys some_table made_out one one_room

  -- one that always says no room: demand 3 fixes when it is given
  pub not_always_unbuilt : ¬ ((bytes : List ℕ) (keys : List ℤ) (table : List ℕ) → IsQuestion bytes → (states : ℕ) × ((b bytes keys table).answer ≡ Ok (Building.NoRoom states)))
  not_always_unbuilt always =
      let e = one_built.1 in
      let f = (always (question_bytes 1 is_one) some_keys some_table one).1 in
      let z : ◌≡◌ {A = ℕ} 0 1 = cc in
      omega arith

  -- what the table says of a word: demand 3
  says : (w : Word) → Over (letters one.n) w → (x : Bool) → true_for one.tree (spelled one.n w) ≡ x → ran one.n (table_in one.n one_built.0 made.table) w ≡ Ok x
  says w over x e = three.table_is (question_bytes 1 is_one) some_keys some_table made_out one one_built.0 one_built.1 w over refl ∙ ap Ok e

  -- one that builds a table that always says no: demand 3
  pub not_always_no : ¬ EachBuilt b (λ n states table table₁. (w : Word) → Over (letters n) w → ran n (table_in n states table₁) w ≡ (Ok false))
  not_always_no always =
      let e = says (1 ∷ []) one_over.0 true one_truth.0 in
      let f = always (question_bytes 1 is_one) some_keys some_table one one_built.0 one_built.1 (1 ∷ []) one_over.0 in
      let z : ◌≡◌ {A = ℕ} 0 1 = cc in
      omega arith

  -- one that writes nothing: demand 3 by the table run
  pub not_table_kept : ¬ EachBuilt b (λ n states table table₁. table₁ ≡ table)
  unfolding one
  not_table_kept kept =
      let e = says (1 ∷ []) one_over.0 true one_truth.0 in
      let k = kept (question_bytes 1 is_one) some_keys some_table one one_built.0 one_built.1 in
      let r = nines_refused one_built.0 (1 ∷ []) in
      let f : Err (refusal Rule.Table 0) ≡ (Ok true) = sym r ∙ ap (λ (l : List ℕ). ran 1 (table_in 1 one_built.0 l) (1 ∷ [])) (sym k) ∙ e in
      let z : ◌≡◌ {A = ℕ} 0 1 = cc in
      omega arith

  -- one right on a word's first letter only: demand 3, any length
  pub not_first_letter_only : ¬ EachBuilt b (λ n states table table₁. (a : ℕ) (u v : Word) → Over (letters n) (a ∷ u) → Over (letters n) (a ∷ v)
      → ran n (table_in n states table₁) (a ∷ u) ≡ ran n (table_in n states table₁) (a ∷ v))
  not_first_letter_only alike =
      let e = says (1 ∷ []) one_over.0 true one_truth.0 in
      let f = says (1 ∷ 1 ∷ []) one_over.1 false one_truth.1 in
      let g = alike (question_bytes 1 is_one) some_keys some_table one one_built.0 one_built.1 1 [] (1 ∷ []) one_over.0 one_over.1 in
      let z : ◌≡◌ {A = ℕ} 0 1 = cc in
      omega arith

-- ---- one with an invented state count: demand 2, through the numbering

module _ (bytes : List ℕ) (keys : List ℤ) (path word : List ℕ) (q : IsQuestion bytes) {o : Decided} (out : DecideOutcome bytes keys path word o) where
  pub found_count : {states count s k : ℕ} → o.answer ≡ Ok (Decision.Found states count) → RowFound (held_in q) (true_for q.tree) (room_for q keys path) s k → k ≤ length word → states ≡ s
  found_count {states} {count} {s} {k} e f h = let d = out.answer ∙ (found_as bytes keys path word q s k).1 (f, h) in cc

  pub never_count : {states s : ℕ} → o.answer ≡ Ok (Decision.Never states) → StatesAre (machine_of (held_in q)) s → states ≡ s
  never_count {states} e a = states_unique ((never_as bytes keys path word q states).0 (sym out.answer ∙ e)).states_are a

  pub no_room_count : {states : ℕ} → o.answer ≡ Ok (Decision.NoRoom states) → states ≡ room_for q keys path
  no_room_count {states} e = ((no_room_as bytes keys path word q states).0 (sym out.answer ∙ e)).states_are

pub built_count : (bytes : List ℕ) (keys : List ℤ) (table : List ℕ) (q : IsQuestion bytes) {o : Built} → BuildOutcome bytes keys table o
    → {states s : ℕ} → o.answer ≡ Ok (Building.Built states) → StatesAre (machine_of (held_in q)) s → states ≡ s
built_count bytes keys table q out {states} e a = states_unique ((built_as bytes keys table q states).0 (sym out.answer ∙ e)).0 a
