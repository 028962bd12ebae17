-- What the worked examples and the outside vectors compare: each call's outcome on buffers whose cells are marked, so that a cell
-- that should stay as it was is seen to.
use Rattle.std.specs.Prelude.{ℕ, ◌-◌, ◌*◌, Bool, List, [], ◌∷◌, map, get_or, replicate, ℤ, pos, Result}
use Rattle.scope.specs.declared.Refusal.{Refusal}
use Rattle.scope.specs.declared.Rule.{Rule}
use Rattle.scope.specs.declared.Decision.{Decision}
use Rattle.scope.specs.declared.Building.{Building}
use Rattle.scope.specs.declared.Question.{Question}
use Rattle.scope.specs.Whole.{all_from, joined, at_front, half}
use Rattle.scope.specs.Sizes.{numbers_fit}
use Rattle.scope.specs.Question.{nodes_of, coefficients_of, constant_of, kinds_of, atoms_from, atoms_of, atom_count}
use Rattle.scope.specs.Refusals.{refusal, first_refusal, onward}
use Rattle.scope.specs.Wire.{numbers_at, record_at, grown, field_checks, head_read, noted, node_read, end_read, record_read, read_from, whole_read, read_held, question_held}
use Rattle.scope.specs.Writing.{atom_body, node_bytes, head_written, node_written, part_written, code_checks, numbers_clear, left_over_checks, end_written, written, Wrote, wrote}
use Rattle.scope.specs.Words.{digit, letter_of, value_from, value, values_from, spelled, spelt}
use Rattle.scope.specs.States.{cell_of, same_entry, sum_from, sum_at, start_entry, step_entry, worth, start_of, step_of, worths_of, same_state, cells_of, settled, formula_worth, accepting, dot, holds, satisfied}
use Rattle.scope.specs.Tree.{Tree, nodes_in, atoms_in, depth_of, atom_fits, within_limits, tree_bytes, question_bytes, row_of, true_for}
use Rattle.scope.specs.Bound.{positives, negatives, lowest, highest, entry_count, product, bound}
use Rattle.scope.specs.Numbering.{machine_of, first_if, after, start_row, has, added_if, tried, tried_all, expanded_if, numbered, word_within, word_of, first_accepting, number_if, number_of}
use Rattle.scope.specs.Deciding.{verdict, decide_room, key_cells, path_cells, decided_question, Decided, decided}
use Rattle.scope.specs.Building.{table_width, next_states, table_row, table_cells, build_room, built_question, Built, built}
use Rattle.scope.specs.Running.{table_fits, row_after, says_yes, ran}
use Rattle.scope.specs.Judging.{judged_question, judged}

pub data Outcome : Type 0 where
  held : Result Question Refusal → Outcome
  wrote_bytes : Wrote → Outcome
  truth : Result Bool Refusal → Outcome
  decision : Result Decision Refusal → List ℕ → Outcome
  table : Result Building Refusal → List ℤ → List ℕ → Outcome
  spelling : Result ℕ Refusal → Outcome
  number : ℤ → Outcome
  count : ℕ → Outcome
  tree : Bool → List ℕ → Outcome
  holding : Bool → Outcome

-- a line of a table: what the definitions give, and what they should
pub record Line : Type 0 where
  pub gives : Outcome
  pub should : Outcome

abbrev pub line : Outcome → Outcome → Line
line gives should = record { gives = gives; should = should }

abbrev pub all_given : List Line → List Outcome
all_given lines = map (λ (l : Line). l.gives) lines

abbrev pub wanted : List Line → List Outcome
wanted lines = map (λ (l : Line). l.should) lines

-- ---- refusals by the documents' numbers

abbrev pub rules : List Rule
rules =
    Rule.BytesEnd ∷
    Rule.NotDue ∷
    Rule.BodyLength ∷
    Rule.BeyondLimit ∷
    Rule.TooMany ∷
    Rule.LeftOver ∷
    Rule.NoRoom ∷
    Rule.TooShort ∷
    Rule.Values ∷
    Rule.Letter ∷
    Rule.Table ∷
    Rule.CoefficientBeyond ∷
    Rule.ConstantBeyond ∷
    Rule.NotWellFormed ∷
    Rule.OutsideSubset ∷
    []

abbrev pub numbered_refusal : ℕ → ℕ → Refusal
numbered_refusal n place = refusal (get_or rules (n - 1) Rule.OutsideSubset) place

-- ---- marked cells

abbrev pub key_mark : ℤ
key_mark = pos 77

abbrev pub mark : ℕ
mark = 99

abbrev pub marked : ℕ → List ℕ
marked cells = replicate cells mark

-- ---- the calls, with r rows lent

abbrev pub reads : List ℕ → Outcome
reads bytes = held (read_held bytes)

abbrev pub writes : Question → ℕ → Outcome
writes q room = wrote_bytes (wrote q (marked room))

abbrev pub judges : List ℕ → List ℕ → Outcome
judges bytes values = truth (judged bytes values)

abbrev pub atoms : List ℕ → ℕ
atoms bytes = atom_count (question_held (read_held bytes))

abbrev pub decided_in : List ℕ → ℕ → ℕ → Decided
decided_in bytes r room = decided bytes (replicate (r * atoms bytes) key_mark) (marked (2 * r)) (marked room)

abbrev pub decides : List ℕ → ℕ → ℕ → Outcome
decides bytes r room = let d = decided_in bytes r room in decision d.answer d.word

abbrev pub built_in : List ℕ → ℕ → Built
built_in bytes r = built bytes (replicate (r * atoms bytes) key_mark) (marked (r * table_width (question_held (read_held bytes)).n))

abbrev pub builds : List ℕ → ℕ → Outcome
builds bytes r = let b = built_in bytes r in table b.answer b.keys b.table

abbrev pub spells : ℕ → ℕ → List ℕ → Outcome
spells n variable word = spelling (spelt n variable word)

abbrev pub runs : ℕ → List ℕ → List ℕ → Outcome
runs n cells word = truth (ran n cells word)

abbrev pub half_of : ℤ → Outcome
half_of z = number (half z)

abbrev pub bounds : List ℕ → Outcome
bounds bytes = count (bound (question_held (read_held bytes)))

-- ---- a tree: whether it is within the limits, and its bytes; what it says of naturals

abbrev pub asks : ℕ → Tree → Outcome
asks n t = tree (within_limits n t) (question_bytes n t)

abbrev pub fits_limits : ℕ → Tree → Outcome
fits_limits n t = holding (within_limits n t)

abbrev pub says_tree : Tree → List ℕ → Outcome
says_tree t values = holding (true_for t values)

-- what has to unfold for the definitions to run
unfoldable pub running : Unit {0}
unfolding all_from joined at_front numbers_fit nodes_of coefficients_of constant_of kinds_of atoms_from atoms_of atom_count first_refusal onward numbers_at record_at grown field_checks head_read noted node_read end_read record_read read_from whole_read read_held atom_body node_bytes head_written node_written part_written code_checks numbers_clear left_over_checks end_written written wrote digit letter_of value_from value values_from spelled spelt cell_of same_entry sum_from sum_at start_entry step_entry worth start_of step_of worths_of same_state cells_of settled formula_worth accepting dot holds satisfied nodes_in atoms_in depth_of atom_fits within_limits tree_bytes question_bytes row_of true_for positives negatives lowest highest entry_count product bound machine_of first_if after start_row has added_if tried tried_all expanded_if numbered word_within word_of first_accepting number_if number_of verdict decide_room key_cells path_cells decided_question decided next_states table_row table_cells build_room built_question built table_fits row_after says_yes ran judged_question judged
running = tt
