-- Every lent buffer has afterwards the length that it had before, whatever the bytes: the rows counted are at most the rows lent.
use Rattle.std.specs.Prelude.{◌≡◌, Bool, true, false, List, [], ◌∷◌, ℕ, suc, ◌*◌, ◌/◌, ◌≤◌, ◌<◌, take, leb, ℤ, Err, Result, Ok}
use Rattle.std.proofs.Math.Path.{refl}
use Rattle.std.proofs.Common.{sym, ◌∙◌, mul-le-mul_right, div-mul-le_self, le_refl, get_or-take, leb→le}
use native.Mathlib.Omega.{arith}
use Rattle.std.proofs.Math.ListN.{length, length-take, length-map}
use Rattle.std.proofs.Math.Seq.{take-length}
use Rattle.scope.specs.declared.Refusal.{Refusal}
use Rattle.scope.specs.declared.Question.{Question}
use Rattle.scope.specs.Question.{atom_count}
use Rattle.scope.specs.Refusals.{Progress, stopped, going, ended}
use Rattle.scope.specs.Wire.{read_held}
use Rattle.scope.specs.Writing.{Walk, fitted, wrote_of, written, wrote}
use Rattle.scope.specs.States.{State, cell_of, cells_of}
use Rattle.scope.specs.Numbering.{Row, Rows, machine_of, row, start_row, word_of}
use Rattle.scope.specs.Deciding.{Verdict, found, never, no_room, counted, decide_room, key_cells, path_cells, found_word, word_after, decided_question, decided_by, decided}
use Rattle.scope.specs.Building.{table_width, build_room, built_if, built_question, built_by, built}
use Rattle.theory.specs.Machine.Lawful.{machine_lawful}
use Rattle.theory.specs.Machine.Table.{numbered_rooted}
use Rattle.theory.specs.Machine.Firsts.{after_word}
use Rattle.theory.specs.Machine.Verdicts.{never_iff}
use Rattle.theory.specs.Entries.Range.{length_in}
use Rattle.theory.specs.Entries.Bounded.{rows_in}
use Rattle.theory.specs.Numbers.Joined.{joined_length, at_front_length}
use Rattle.theory.specs.Calls.Deciding.{rows_of, verdict_of, counted_rows, held_found_exactly}
use Rattle.theory.specs.Calls.Building.{table_size}

-- ---- rows of w cells

rows_fit : (count w size : ℕ) → count ≤ size / w → count * w ≤ size
rows_fit count w size h = omega (arith, mul-le-mul_right w h, div-mul-le_self size w)

pub path_length : (l : Rows State) → length (path_cells l) ≡ length l * 2
unfolding path_cells
path_length l = joined_length (λ (r : Row State). r.from ∷ r.letter ∷ []) 2 (record { state = []; from = 0; letter = 0 }) l (λ t h. refl)

module _ (q : Question) (r : ℕ) where
  -- a row has a cell for each atom
  pub key_row : (t : ℕ) → t < length (rows_of q r) → length (cells_of (row (machine_of q) (rows_of q r) t).state) ≡ atom_count q
  unfolding cells_of atom_count
  key_row t h =
      let k = numbered_rooted (machine_of q) (machine_lawful q) r in
      let s = (row (machine_of q) (rows_of q r) t).state in
      length-map s cell_of ∙ length_in (rows_in q (rows_of q r) (after_word (machine_of q) k) t h)

  pub keys_length : (k : ℕ) → length (key_cells (take k (rows_of q r))) ≡ length (take k (rows_of q r)) * atom_count q
  unfolding key_cells
  keys_length k = joined_length (λ (r : Row State). cells_of r.state) (atom_count q) (start_row (machine_of q)) (take k (rows_of q r)) wide
    where
      wide : (t : ℕ) → t < length (take k (rows_of q r)) → length (cells_of (row (machine_of q) (take k (rows_of q r)) t).state) ≡ atom_count q
      wide t h =
          let a : t < k = omega (arith, length-take k (rows_of q r)) in
          rw (get_or-take k (rows_of q r) t (start_row (machine_of q)) a) (key_row t (omega (arith, length-take k (rows_of q r))))

  -- the rows counted are the first k, and k is at most r
  pub record Counted (v : Verdict) : Type 0 where
    pub k : ℕ
    pub few : k ≤ r
    pub are : counted v r (rows_of q r) ≡ take k (rows_of q r)

  pub counted_are : (v : Verdict) → verdict_of q r ≡ v → Counted v
  counted_are (found w) e = let f = (held_found_exactly q r w).0 e in record { k = suc w; few = f.room; are = refl }
  counted_are never e = record { k = length (rows_of q r); few = ((never_iff (machine_of q) (machine_lawful q) r).0 e).room; are = sym (take-length (rows_of q r)) }
  counted_are no_room e = record { k = r; few = le_refl r; are = refl }

  counted_few : length (counted_rows q r) ≤ r
  counted_few = let c = counted_are (verdict_of q r) refl in rw c.are (omega (arith, length-take c.k (rows_of q r), c.few))

  -- so their cells have room in areas of r rows
  counted_keys : (size : ℕ) → r ≤ size / atom_count q → length (key_cells (counted_rows q r)) ≤ size
  counted_keys size h =
      let c = counted_are (verdict_of q r) refl in
      rw (c.are, keys_length c.k) (rows_fit (length (take c.k (rows_of q r))) (atom_count q) size (omega (arith, length-take c.k (rows_of q r), c.few)))

  counted_path : (size : ℕ) → r ≤ size / 2 → length (path_cells (counted_rows q r)) ≤ size
  counted_path size h = rw (path_length (counted_rows q r)) (omega (arith, counted_few))

-- ---- deciding

module _ (q : Question) (keys : List ℤ) (path : List ℕ) where
  room_keys : decide_room q keys path ≤ length keys / atom_count q
  unfolding decide_room
  room_keys = omega arith

  room_path : decide_room q keys path ≤ length path / 2
  unfolding decide_room
  room_path = omega arith

found_word_length : (b : Bool) (w word : List ℕ) → leb (length w) (length word) ≡ b → length (found_word b w word) ≡ length word
found_word_length true w word e = at_front_length w word (leb→le (length w) (length word) (rw e tt))
found_word_length false w word e = refl

word_length : (v : Verdict) (l : Rows State) (q : Question) (word : List ℕ) → length (word_after v l (machine_of q) word) ≡ length word
word_length (found w) l q word = found_word_length (leb (length (word_of (machine_of q) l w)) (length word)) (word_of (machine_of q) l w) word refl
word_length never l q word = refl
word_length no_room l q word = refl

module _ (bytes : List ℕ) (keys : List ℤ) (path word : List ℕ) where
  pub decided_keys_length : length (decided bytes keys path word).keys ≡ length keys
  unfolding decided decided_question
  decided_keys_length = go (read_held bytes)
    where
      go : (a : Result Question Refusal) → length (decided_by a keys path word).keys ≡ length keys
      go (Ok q) = at_front_length _ keys (counted_keys q (decide_room q keys path) (length keys) (room_keys q keys path))
      go (Err r) = refl

  pub decided_path_length : length (decided bytes keys path word).path ≡ length path
  unfolding decided decided_question
  decided_path_length = go (read_held bytes)
    where
      go : (a : Result Question Refusal) → length (decided_by a keys path word).path ≡ length path
      go (Ok q) = at_front_length _ path (counted_path q (decide_room q keys path) (length path) (room_path q keys path))
      go (Err r) = refl

  pub decided_word_length : length (decided bytes keys path word).word ≡ length word
  unfolding decided decided_question
  decided_word_length = go (read_held bytes)
    where
      go : (a : Result Question Refusal) → length (decided_by a keys path word).word ≡ length word
      go (Ok q) = word_length (verdict_of q (decide_room q keys path)) (rows_of q (decide_room q keys path)) q word
      go (Err r) = refl

-- ---- building

module _ (q : Question) (keys : List ℤ) (table : List ℕ) where
  pub build_room_keys : build_room q keys table ≤ length keys / atom_count q
  unfolding build_room
  build_room_keys = omega arith

  pub build_room_table : build_room q keys table ≤ length table / table_width q.n
  unfolding build_room
  build_room_table = omega arith

module _ (q : Question) (r : ℕ) (keys : List ℤ) (table : List ℕ) where
  -- where all rows are counted, or the first r
  first_keys : (k : ℕ) → length (take k (rows_of q r)) ≤ length keys / atom_count q → length (key_cells (take k (rows_of q r))) ≤ length keys
  first_keys k h = rw (keys_length q r k) (rows_fit (length (take k (rows_of q r))) (atom_count q) (length keys) h)

  built_if_keys : (b : Bool) → leb (length (rows_of q r)) r ≡ b → r ≤ length keys / atom_count q → length (built_if b r (machine_of q) (rows_of q r) keys table).keys ≡ length keys
  built_if_keys true e h =
      let g = leb→le (length (rows_of q r)) r (rw e tt) in
      at_front_length _ keys (rw take-length at (first_keys (length (rows_of q r)) (rw take-length (omega arith))))
  built_if_keys false e h = at_front_length _ keys (first_keys r (omega (arith, length-take r (rows_of q r))))

  built_if_table : (b : Bool) → leb (length (rows_of q r)) r ≡ b → r ≤ length table / table_width q.n
      → length (built_if b r (machine_of q) (rows_of q r) keys table).table ≡ length table
  built_if_table true e h =
      let g = leb→le (length (rows_of q r)) r (rw e tt) in
      at_front_length _ table (rw (table_size q r) (rows_fit (length (rows_of q r)) (table_width q.n) (length table) (omega arith)))
  built_if_table false e h = refl

module _ (bytes : List ℕ) (keys : List ℤ) (table : List ℕ) where
  pub built_keys_length : length (built bytes keys table).keys ≡ length keys
  unfolding built built_question
  built_keys_length = go (read_held bytes)
    where
      go : (a : Result Question Refusal) → length (built_by a keys table).keys ≡ length keys
      go (Ok q) = let r = build_room q keys table in built_if_keys q r keys table (leb (length (rows_of q r)) r) refl (build_room_keys q keys table)
      go (Err r) = refl

  pub built_table_length : length (built bytes keys table).table ≡ length table
  unfolding built built_question
  built_table_length = go (read_held bytes)
    where
      go : (a : Result Question Refusal) → length (built_by a keys table).table ≡ length table
      go (Ok q) = let r = build_room q keys table in built_if_table q r keys table (leb (length (rows_of q r)) r) refl (build_room_table q keys table)
      go (Err r) = refl

-- ---- writing

fitted_length : (b : Bool) (bytes buffer : List ℕ) → leb (length bytes) (length buffer) ≡ b → length (fitted b bytes buffer).buffer ≡ length buffer
fitted_length true bytes buffer e = at_front_length bytes buffer (leb→le (length bytes) (length buffer) (rw e tt))
fitted_length false bytes buffer e = refl

wrote_of_length : (p : Progress Walk Walk) (buffer : List ℕ) → length (wrote_of p buffer).buffer ≡ length buffer
wrote_of_length (stopped r) buffer = refl
wrote_of_length (going w) buffer = refl
wrote_of_length (ended w) buffer = fitted_length (leb (length w.bytes) (length buffer)) w.bytes buffer refl

pub wrote_length : (q : Question) (buffer : List ℕ) → length (wrote q buffer).buffer ≡ length buffer
unfolding wrote
wrote_length q buffer = wrote_of_length (written q) buffer
