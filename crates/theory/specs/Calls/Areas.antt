-- The areas after deciding and building, where the bytes are accepted: the states told are the rows filled, key row t has the cells of the
-- state that the word of row t leads to, path row t the state and letter from which it was numbered, and every cell beyond is as it was.
use Rattle.std.specs.Prelude.{◌≡◌, refl, Bool, true, false, List, [], ◌∷◌, ℕ, suc, ◌+◌, ◌*◌, ◌≤◌, ◌<◌, get_or, take, leb, ℤ, Ok, Err, Result}
use Rattle.std.proofs.Common.{sym, ◌∙◌, mul-le-mul_right, suc-mul, arith, length-take, get_or-take, length-take-le}
use Rattle.std.proofs.Math.Path.{ap}
use Rattle.std.proofs.Math.Logic.{by_cases}
use Rattle.std.proofs.Math.Decide.{dec_lt}
use Rattle.std.proofs.Math.ListN.{length}
use Rattle.std.proofs.Math.Seq.{take-length}
use Rattle.scope.specs.declared.Refusal.{Refusal}
use Rattle.scope.specs.declared.Decision.{Decision}
use Rattle.scope.specs.declared.Building.{Building}
use Rattle.scope.specs.declared.Question.{Question}
use Rattle.scope.specs.Whole.{at_front}
use Rattle.scope.specs.Question.{atom_count}
use Rattle.scope.specs.Wire.{read_held}
use Rattle.scope.specs.Words.{Word}
use Rattle.scope.specs.States.{State, cells_of}
use Rattle.scope.specs.Numbering.{Row, machine_of, row, start_row, after}
use Rattle.scope.specs.Deciding.{Verdict, found, never, no_room, counted, decide_room, key_cells, path_cells, found_answer, decide_answer, Decided, decided_question, decided}
use Rattle.scope.specs.Building.{build_room, built}
use Rattle.theory.specs.Machine.Lawful.{machine_lawful}
use Rattle.theory.specs.Machine.Table.{numbered_rooted}
use Rattle.theory.specs.Machine.Firsts.{after_word}
use Rattle.theory.specs.Machine.Verdicts.{no_room_iff}
use Rattle.theory.specs.Numbers.Joined.{joined_at_lem, at_front_before, at_front_beyond}
use Rattle.theory.specs.Calls.Deciding.{rows_of, row_word, verdict_of, counted_rows, held_found_exactly}
use Rattle.theory.specs.Calls.Decided.{answer_of, decided_accepted, decided_answer}
use Rattle.theory.specs.Calls.Built.{built_of, with_room, without_room, built_accepted}
use Rattle.theory.specs.Calls.Lengths.{path_length, key_row, keys_length, counted_are}

-- the states that an answer tells of
abbrev pub states_told : Result Decision Refusal → ℕ
states_told (Ok (Decision.Found states k)) = states
states_told (Ok (Decision.Never states)) = states
states_told (Ok (Decision.NoRoom states)) = states
states_told (Ok (Decision.Short states k)) = states
states_told (Err r) = 0

found_states : (b : Bool) (states : ℕ) (w : Word) → states_told (found_answer b states w) ≡ states
found_states true states w = refl
found_states false states w = refl

module _ (q : Question) (r : ℕ) (word : List ℕ) where
  counted_length : length (counted_rows q r) ≡ states_told (answer_of q r word)
  counted_length = go (verdict_of q r) refl
    where
      go : (v : Verdict) → verdict_of q r ≡ v → length (counted v r (rows_of q r)) ≡ states_told (decide_answer v r (rows_of q r) (machine_of q) word)
      go (found w) e =
          let f = (held_found_exactly q r w).0 e in
          rw (found_states (leb (length (row_word q r w)) (length word)) (suc w) (row_word q r w)) (length-take-le (suc w) (rows_of q r) f.inside)
      go never e = refl
      go no_room e =
          let n = (no_room_iff (machine_of q) (machine_lawful q) r).0 e in
          length-take-le r (rows_of q r) (omega (arith, n.more))

-- cell c of row t is before the end of the rows
row_inside : (t c w count : ℕ) → t < count → c < w → t * w + c < count * w
row_inside t c w count h g = omega (arith, suc-mul t w, mul-le-mul_right w h)

-- ---- where the first k of the rows numbered by r expansions are filled

module _ (q : Question) (r k : ℕ) where
  first_row : (t : ℕ) → t < length (take k (rows_of q r)) → (t < length (rows_of q r)) × (row (machine_of q) (take k (rows_of q r)) t ≡ row (machine_of q) (rows_of q r) t)
  first_row t h =
      let g : t < k = omega (arith, length-take k (rows_of q r)) in
      (omega (arith, length-take k (rows_of q r)), get_or-take k (rows_of q r) t (start_row (machine_of q)) g)

  key_at : (t i : ℕ) (z : ℤ) → t < length (take k (rows_of q r)) → i < atom_count q
      → get_or (key_cells (take k (rows_of q r))) (t * atom_count q + i) z ≡ get_or (cells_of (after (machine_of q) (machine_of q).start (row_word q r t))) i z
  unfolding key_cells
  key_at t i z h g =
      let f = first_row t h in
      let rooted = numbered_rooted (machine_of q) (machine_lawful q) r in
      joined_at_lem (λ (x : Row State). cells_of x.state) (atom_count q) (start_row (machine_of q)) (take k (rows_of q r)) wide t i z h g
      ∙ rw (after_word (machine_of q) rooted t f.0, f.1)
    where
      wide : (t : ℕ) → t < length (take k (rows_of q r)) → length (cells_of (row (machine_of q) (take k (rows_of q r)) t).state) ≡ atom_count q
      wide t h = let f = first_row t h in rw f.1 (key_row q r t f.0)

  path_at : (t i a : ℕ) → t < length (take k (rows_of q r)) → i < 2
      → get_or (path_cells (take k (rows_of q r))) (t * 2 + i) a ≡ get_or ((row (machine_of q) (rows_of q r) t).from ∷ (row (machine_of q) (rows_of q r) t).letter ∷ []) i a
  unfolding path_cells
  path_at t i a h g =
      joined_at_lem (λ (x : Row State). x.from ∷ x.letter ∷ []) 2 (start_row (machine_of q)) (take k (rows_of q r)) (λ t h. refl) t i a h g
      ∙ rw (first_row t h).1

-- an area afterwards, of rows of w cells: the first count rows are filled, and the cells beyond are as they were
pub record Filled {A : Type 0} (count w : ℕ) (cell : ℕ → ℕ → A → A) (before after : List A) : Type 0 where
  pub filled : (t i : ℕ) (a : A) → t < count → i < w → get_or after (t * w + i) a ≡ cell t i a
  pub kept : (c : ℕ) (a : A) → count * w ≤ c → get_or after c a ≡ get_or before c a

module _ {A : Type 0} (cells : List A) (count w : ℕ) (cell : ℕ → ℕ → A → A) (size : length cells ≡ count * w)
    (are : (t i : ℕ) (a : A) → t < count → i < w → get_or cells (t * w + i) a ≡ cell t i a)
  where
    front_filled : (before : List A) → Filled count w cell before (at_front cells before)
    front_filled before = record {
      filled = λ t i a h g. at_front_before cells before (t * w + i) a (rw size (row_inside t i w count h g)) ∙ are t i a h g;
      kept = λ c a h. at_front_beyond cells before c a (rw size h);
    }

-- cell i of the key row t: that of the state that the word of row t leads to
abbrev pub key_cell : Question → ℕ → ℕ → ℕ → ℤ → ℤ
key_cell q r t i z = get_or (cells_of (after (machine_of q) (machine_of q).start (row_word q r t))) i z

-- the state and the letter from which row t was numbered
abbrev pub path_cell : Question → ℕ → ℕ → ℕ → ℕ → ℕ
path_cell q r t i a = get_or ((row (machine_of q) (rows_of q r) t).from ∷ (row (machine_of q) (rows_of q r) t).letter ∷ []) i a

module _ (q : Question) (r k : ℕ) where
  first_keys : (keys : List ℤ) → Filled (length (take k (rows_of q r))) (atom_count q) (key_cell q r) keys (at_front (key_cells (take k (rows_of q r))) keys)
  first_keys keys = front_filled (key_cells (take k (rows_of q r))) (length (take k (rows_of q r))) (atom_count q) (key_cell q r) (keys_length q r k) (key_at q r k) keys

  first_paths : (path : List ℕ) → Filled (length (take k (rows_of q r))) 2 (path_cell q r) path (at_front (path_cells (take k (rows_of q r))) path)
  first_paths path = front_filled (path_cells (take k (rows_of q r))) (length (take k (rows_of q r))) 2 (path_cell q r) (path_length (take k (rows_of q r))) (path_at q r k) path

-- ---- deciding, where the bytes are accepted as q and R = decide_room q keys path rows are lent

module _ (bytes : List ℕ) (keys : List ℤ) (path word : List ℕ) (q : Question) (accepted : read_held bytes ≡ Ok q) where
  told : length (counted_rows q (decide_room q keys path)) ≡ states_told (decided bytes keys path word).answer
  told = counted_length q (decide_room q keys path) word ∙ ap states_told (sym (decided_answer bytes keys path word q accepted))

  keys_are : (decided bytes keys path word).keys ≡ at_front (key_cells (counted_rows q (decide_room q keys path))) keys
  unfolding decided_question
  keys_are = ap (λ (d : Decided). d.keys) (decided_accepted bytes keys path word q accepted)

  path_is : (decided bytes keys path word).path ≡ at_front (path_cells (counted_rows q (decide_room q keys path))) path
  unfolding decided_question
  path_is = ap (λ (d : Decided). d.path) (decided_accepted bytes keys path word q accepted)

  pub decided_keys : Filled (states_told (decided bytes keys path word).answer) (atom_count q) (key_cell q (decide_room q keys path)) keys (decided bytes keys path word).keys
  decided_keys =
      let c = counted_are q (decide_room q keys path) (verdict_of q (decide_room q keys path)) refl in
      rw (← told, keys_are, c.are) (first_keys q (decide_room q keys path) c.k keys)

  pub decided_path : Filled (states_told (decided bytes keys path word).answer) 2 (path_cell q (decide_room q keys path)) path (decided bytes keys path word).path
  decided_path =
      let c = counted_are q (decide_room q keys path) (verdict_of q (decide_room q keys path)) refl in
      rw (← told, path_is, c.are) (first_paths q (decide_room q keys path) c.k path)

-- ---- building, where R = build_room q keys table rows are lent

abbrev pub built_told : Result Building Refusal → ℕ
built_told (Ok (Building.Built states)) = states
built_told (Ok (Building.NoRoom states)) = states
built_told (Err r) = 0

module _ (q : Question) (r : ℕ) (keys : List ℤ) (table : List ℕ) where
  built_of_keys : Filled (built_told (built_of q r keys table).answer) (atom_count q) (key_cell q r) keys (built_of q r keys table).keys
  built_of_keys = by_cases (dec_lt r (length (rows_of q r))) no_room_lem (λ h. room (omega arith))
    where
      no_room_lem : r < length (rows_of q r) → Filled (built_told (built_of q r keys table).answer) (atom_count q) (key_cell q r) keys (built_of q r keys table).keys
      no_room_lem h = rw (without_room q r keys table h) (rw (length-take-le r (rows_of q r) (omega arith)) at (first_keys q r r keys))

      room : length (rows_of q r) ≤ r → Filled (built_told (built_of q r keys table).answer) (atom_count q) (key_cell q r) keys (built_of q r keys table).keys
      room h = rw (with_room q r keys table h) (rw (take-length (rows_of q r)) at (first_keys q r (length (rows_of q r)) keys))

pub built_keys : (bytes : List ℕ) (keys : List ℤ) (table : List ℕ) (q : Question) → read_held bytes ≡ Ok q
    → Filled (built_told (built bytes keys table).answer) (atom_count q) (key_cell q (build_room q keys table)) keys (built bytes keys table).keys
built_keys bytes keys table q accepted = rw (built_accepted bytes keys table q accepted) (built_of_keys q (build_room q keys table) keys table)
