-- What exploring a question asks of the arrays and areas that it is lent, and that the code's least of three numbers is R, the rows lent.
use Rattle.std.specs.Prelude.{◌≡◌, List, ℕ, ◌*◌, ◌/◌, ◌≤◌, ◌<◌, min, length, ℤ}
use Rattle.std.proofs.Common.{◌∙◌, mul-le-mul_right, one-mul, div-mul-le_self, arith}
use Rattle.scope.specs.declared.Question.{Question}
use Rattle.scope.specs.Sizes.{most_states}
use Rattle.scope.specs.Question.{atom_count}
use Rattle.scope.specs.Deciding.{decide_room}
use Rattle.theory.specs.Wire.Answers.{atom_count_lem}
use Rattle.theory.specs.Wire.Accepted.{WithinLimits}
use Rattle.step.specs.declared.Kinds.{Kinds}
use Rattle.step.specs.Eight.{padded}
use Rattle.step.specs.Cells.{kind_codes, Coefficients}
use Rattle.step.specs.Atoms.{kinds_count, few_atoms, coefficients_fit}

-- what deciding in so many rows asks
pub record DecideLends (q : Question) (atoms : Kinds) (rows : ℕ) (keys : List ℤ) (path : List ℕ) : Type 0 where
  pub limits : WithinLimits q
  pub kinds_are : atoms.kinds ≡ padded 0 (kind_codes q.codes)
  pub count : atoms.m ≡ atom_count q
  pub rows_are : rows ≡ decide_room q keys path
  pub some_rows : 0 < rows
  pub few_rows : rows ≤ most_states
  pub keys_room : rows * atom_count q ≤ length keys
  pub path_room : 2 * rows ≤ length path

module _ {q : Question} {atoms : Kinds} {rows : ℕ} {keys₀ : List ℤ} {path₀ : List ℕ} (ask : DecideLends q atoms rows keys₀ path₀) where
  pub constants_long : atom_count q ≤ length q.constants
  constants_long = omega (arith, few_atoms ask.limits, ask.limits.sized.constants)

  pub keys_long : atom_count q ≤ length keys₀
  keys_long = omega (arith, rw one-mul at (mul-le-mul_right (atom_count q) ask.some_rows), ask.keys_room)

  pub sums_asked : Coefficients q.n atoms.m q.coefficients
  sums_asked = rw ask.count (coefficients_fit ask.limits)

-- ---- R

module _ {q : Question} (w : WithinLimits q) {m : ℕ} (counts : m ≡ length (kind_codes q.codes)) where
  count_is : m ≡ atom_count q
  count_is = counts ∙ kinds_count q

  pub some_atoms : 0 < m
  some_atoms = omega (arith, count_is, atom_count_lem q, w.some_atom)

  module _ {rows : ℕ} (keys : List ℤ) (path : List ℕ) (least : rows ≡ min (min (length keys / m) (length path / 2)) most_states) where
    pub room_is : rows ≡ decide_room q keys path
    unfolding decide_room
    room_is = rw (← count_is) least

    pub lends : {kinds : List ℕ} → kinds ≡ padded 0 (kind_codes q.codes) → ¬ (rows ≡ 0) → DecideLends q (record { kinds = kinds; m = m }) rows keys path
    lends k some = record {
      limits = w;
      kinds_are = k;
      count = count_is;
      rows_are = room_is;
      some_rows = omega arith;
      few_rows = omega arith;
      keys_room = rw (← count_is) (let h : rows ≤ length keys / m = omega arith in omega (arith, mul-le-mul_right m h, div-mul-le_self (length keys) m));
      path_room = omega arith;
    }
