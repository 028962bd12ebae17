-- Document 01, "Refusal numbers", with those of document 02, E1 and E2: checks in their order, the first that fails gives the refusal; and, for
-- each answer that is an enum, the number, the place and the values that the documents give for each of its cases.
use Rattle.std.specs.Prelude.{ℕ, zero, suc, Bool, true, false, List, [], ◌∷◌, Ok, Err, Result}
use Rattle.std.proofs.Math.Option.{Option, none, some}
use Rattle.scope.specs.declared.Question.{Question}
use Rattle.scope.specs.declared.Record.{Record}
use Rattle.scope.specs.declared.Rule.{Rule}
use Rattle.scope.specs.declared.Decision.{Decision}
use Rattle.scope.specs.declared.Building.{Building}
use Rattle.scope.specs.declared.Refusal.{Refusal}

-- ---- the numbers

abbrev pub rule_number : Rule → ℕ
rule_number Rule.BytesEnd = 1
rule_number Rule.NotDue = 2
rule_number Rule.BodyLength = 3
rule_number Rule.BeyondLimit = 4
rule_number Rule.TooMany = 5
rule_number Rule.LeftOver = 6
rule_number Rule.NoRoom = 7
rule_number Rule.TooShort = 8
rule_number Rule.Values = 9
rule_number Rule.Letter = 10
rule_number Rule.Table = 11
rule_number Rule.CoefficientBeyond = 12
rule_number Rule.ConstantBeyond = 13
rule_number Rule.NotWellFormed = 14
rule_number Rule.OutsideSubset = 15

-- ---- checks

pub record Check : Type 0 where
  pub rule : Rule
  pub place : ℕ
  pub passed : Bool

abbrev pub refusal : Rule → ℕ → Refusal
refusal rule place = record { rule = rule; place = place }

abbrev pub check : Rule → ℕ → Bool → Check
check rule place passed = record { rule = rule; place = place; passed = passed }

-- whether the check was passed comes first
abbrev pub unless_passed : Bool → Refusal → Option Refusal → Option Refusal
unless_passed true r later = later
unless_passed false r later = some r

unfoldable pub first_refusal : List Check → Option Refusal
first_refusal [] = none
first_refusal (c ∷ cs) = unless_passed c.passed (refusal c.rule c.place) (first_refusal cs)

-- an answer, where nothing is refused
abbrev pub unless_refused : {A : Type 0} → Option Refusal → A → Result A Refusal
unless_refused none a = Ok a
unless_refused (some r) a = Err r

-- ---- work that goes on step by step until it is refused or done

pub data Progress (A B : Type 0) : Type 0 where
  stopped : Refusal → Progress A B
  going : A → Progress A B
  ended : B → Progress A B

abbrev pub or_stopped : {A B : Type 0} → Option Refusal → Progress A B → Progress A B
or_stopped none p = p
or_stopped (some r) p = stopped r

-- at most f steps more
unfoldable pub onward : {A B : Type 0} → ℕ → (A → Progress A B) → Progress A B → Progress A B
onward zero step p = p
onward (suc f) step (stopped r) = stopped r
onward (suc f) step (going a) = onward f step (step a)
onward (suc f) step (ended b) = ended b

-- ---- the cases of the answers

-- what document 01 says of an answer: the refusal's number, 0 where nothing is refused; the place; the values
pub record Told : Type 0 where
  pub number : ℕ
  pub place : ℕ
  pub values : List ℕ

abbrev pub refused : Refusal → Told
refused r = record { number = rule_number r.rule; place = r.place; values = [] }

abbrev pub given : List ℕ → Told
given values = record { number = 0; place = 0; values = values }

-- a refusal that hands over values, and has no place
abbrev pub refused_with : Rule → List ℕ → Told
refused_with rule values = record { number = rule_number rule; place = 0; values = values }

abbrev pub record_told : Result Record Refusal → Told
record_told (Ok r) = given (r.kind ∷ r.start ∷ r.len ∷ r.next ∷ [])
record_told (Err r) = refused r

abbrev pub read_told : Result Question Refusal → Told
read_told (Ok q) = given []
read_told (Err r) = refused r

abbrev pub write_told : Result ℕ Refusal → Told
write_told (Ok count) = given (count ∷ [])
write_told (Err r) = refused r

-- yes is 1 and no is 0, as in a table's accept cells
abbrev pub truth_told : Result Bool Refusal → Told
truth_told (Ok true) = given (1 ∷ [])
truth_told (Ok false) = given (0 ∷ [])
truth_told (Err r) = refused r

-- the states, and behind them the letters of a word that was found
abbrev pub decide_told : Result Decision Refusal → Told
decide_told (Ok (Decision.Found states letters)) = given (states ∷ letters ∷ [])
decide_told (Ok (Decision.Never states)) = given (states ∷ [])
decide_told (Ok (Decision.NoRoom states)) = refused_with Rule.NoRoom (states ∷ [])
decide_told (Ok (Decision.Short states letters)) = refused_with Rule.TooShort (states ∷ letters ∷ [])
decide_told (Err r) = refused r

abbrev pub build_told : Result Building Refusal → Told
build_told (Ok (Building.Built states)) = given (states ∷ [])
build_told (Ok (Building.NoRoom states)) = refused_with Rule.NoRoom (states ∷ [])
build_told (Err r) = refused r

abbrev pub spell_told : Result ℕ Refusal → Told
spell_told (Ok value) = given (value ∷ [])
spell_told (Err r) = refused r
