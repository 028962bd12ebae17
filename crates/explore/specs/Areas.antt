-- The key area and the path area: that rows stand at their fronts, that what comes after is as it was, and what one row more does.
-- Building has no path area: what is said of the path then says that it is unchanged.
use Rattle.std.specs.Prelude.{ℕ, suc, ◌+◌, ◌-◌, ◌*◌, ◌≤◌, ◌<◌, ◌≡◌, refl, Bool, set, ℤ}
use Rattle.std.proofs.Math.Path.{sym, ap}
use Rattle.std.proofs.Common.{◌∙◌, suc-mul, mul-le-mul_right, add-one, length-take, length-set, take-append-drop, take-suc-set, drop-set-lt, drop_at}
use Rattle.std.proofs.Math.Bool.{true, false}
use mathlib.Core.List.{List, [], ◌∷◌, ◌++◌, map, map-append, append_assoc, append-nil}
use native.Mathlib.Omega.{arith}
use Rattle.std.proofs.Math.ListN.{length, take, drop, length-append}
use Rattle.std.proofs.Math.Seq.{length-take-le, drop-drop, paste}
use Rattle.std.proofs.lemmas.List.Edits.{take-paste, drop-paste}
use Rattle.scope.specs.Whole.{joined, at_front}
use Rattle.scope.specs.Numbering.{Machine, Row, Rows, start_row, row}
use Rattle.theory.specs.Machine.Simulation.{AllGood, good_at}
use Rattle.theory.specs.Numbers.Joined.{joined_length, joined_append}
use Rattle.index.specs.Rows.{row_at, filled_row}
use Rattle.plan.specs.Machine.{KeyRow}

-- ---- rows as they stand in the areas

unfoldable pub row_cells : Rows (List ℤ) → List ℤ
row_cells l = joined (map (λ (r : Row (List ℤ)). r.state) l)

unfoldable pub path_rows : {S : Type 0} → Bool → Rows S → List ℕ
path_rows {S} true l = joined (map (λ (r : Row S). r.from ∷ r.letter ∷ []) l)
path_rows false l = []

-- the path cells of so many rows
abbrev pub path_count : Bool → ℕ → ℕ
path_count true count = 2 * count
path_count false count = 0

-- the path area with the cells of row count
abbrev pub path_with : Bool → List ℕ → ℕ → ℕ → ℕ → List ℕ
path_with true path count from letter = set (set path (2 * count) from) (2 * count + 1) letter
path_with false path count from letter = path

-- the rows l stand at the fronts
pub record Held (width : ℕ) (noting : Bool) (l : Rows (List ℤ)) (count : ℕ) (keys : List ℤ) (path : List ℕ) : Type 0 where
  pub count_is : length l ≡ count
  pub keys_hold : take (count * width) keys ≡ row_cells l
  pub path_holds : take (path_count noting count) path ≡ path_rows noting l

-- behind count rows the areas are as they were
pub record Kept (width : ℕ) (noting : Bool) (count : ℕ) (keys₀ : List ℤ) (path₀ : List ℕ) (keys : List ℤ) (path : List ℕ) : Type 0 where
  pub keys_rest : drop (count * width) keys ≡ drop (count * width) keys₀
  pub path_rest : drop (path_count noting count) path ≡ drop (path_count noting count) path₀

-- ---- both together: the rows at the front of what was there

module _ {A : Type 0} where
  pub front_is : {cells new : List A} (old : List A) (n : ℕ) → n ≤ length new → take n new ≡ cells → drop n new ≡ drop n old → new ≡ at_front cells old
  unfolding at_front
  front_is {cells} {new} old n room front rest =
      let e : length cells ≡ n = sym (ap length front) ∙ length-take-le n new room in
      sym (take-append-drop n new) ∙ rw (e, front, rest)

  -- cells that are put in front of others replace them
  pub front_twice : (cells more buffer : List A) → length cells ≤ length more → length cells ≤ length buffer → at_front more (at_front cells buffer) ≡ at_front more buffer
  unfolding at_front
  front_twice cells more buffer h room =
      let n = length more - length cells in
      let e : length more ≡ length cells + n = omega arith in
      ap (λ (l : List A). more ++ l)
      (rw e
      (sym (drop-drop n (length cells) (cells ++ drop (length cells) buffer))
      ∙ ap (drop n) (drop_at cells (drop (length cells) buffer) (length cells) refl)
      ∙ drop-drop n (length cells) buffer))

  drop_on : (old new : List A) (a b : ℕ) → a ≤ b → drop a new ≡ drop a old → drop b new ≡ drop b old
  drop_on old new a b h e =
      let d : b ≡ a + (b - a) = omega arith in
      rw d (sym (drop-drop (b - a) a new) ∙ ap (drop (b - a)) e ∙ drop-drop (b - a) a old)

pub kept_refl : (width : ℕ) (noting : Bool) (count : ℕ) (keys : List ℤ) (path : List ℕ) → Kept width noting count keys path keys path
kept_refl width noting count keys path = record { keys_rest = refl; path_rest = refl }

pub path_count_le : (noting : Bool) (a b : ℕ) → a ≤ b → path_count noting a ≤ path_count noting b
path_count_le true a b h = omega arith
path_count_le false a b h = omega arith

pub kept_trans : {width : ℕ} {noting : Bool} (a b : ℕ) {keys₀ keys keys' : List ℤ} {path₀ path path' : List ℕ} → a ≤ b
    → Kept width noting a keys₀ path₀ keys path → Kept width noting b keys path keys' path' → Kept width noting b keys₀ path₀ keys' path'
kept_trans {width} {noting} a b {keys₀} {keys} {path₀ = path₀} {path} h k k' = record {
  keys_rest = k'.keys_rest ∙ drop_on keys₀ keys (a * width) (b * width) (mul-le-mul_right width h) k.keys_rest;
  path_rest = k'.path_rest ∙ drop_on path₀ path (path_count noting a) (path_count noting b) (path_count_le noting a b h) k.path_rest;
}

module _ {width : ℕ} {noting : Bool} {l : Rows (List ℤ)} {count : ℕ} {keys₀ keys : List ℤ} {path₀ path : List ℕ}
    (held : Held width noting l count keys path) where
  pub keys_front : count * width ≤ length keys → Kept width noting count keys₀ path₀ keys path → keys ≡ at_front (row_cells l) keys₀
  keys_front room k = front_is keys₀ (count * width) room held.keys_hold k.keys_rest

  pub path_front : path_count noting count ≤ length path → Kept width noting count keys₀ path₀ keys path → path ≡ at_front (path_rows noting l) path₀
  path_front room k = front_is path₀ (path_count noting count) room held.path_holds k.path_rest

-- ---- a row of the key area is a row's state

wide : (M : Machine (List ℤ)) (width : ℕ) {l : Rows (List ℤ)} → AllGood (KeyRow width) l → (t : ℕ) → t < length l → length (row M l t).state ≡ width
wide M width ok t h = (good_at M ok t h).size

pub held_row_lem : (M : Machine (List ℤ)) (width : ℕ) {noting : Bool} {l : Rows (List ℤ)} {count : ℕ} {keys : List ℤ} {path : List ℕ}
    → Held width noting l count keys path → AllGood (KeyRow width) l → (t : ℕ) → t < count → row_at keys width t ≡ (row M l t).state
unfolding row_cells
held_row_lem M width {l = l} {count} {keys} held ok t h =
    let e : take (count * width) keys ≡ joined (map (λ (r : Row (List ℤ)). r.state) l) = held.keys_hold in
    let n : length (joined (map (λ (r : Row (List ℤ)). r.state) l)) ≡ count * width =
    rw held.count_is at (joined_length (λ (r : Row (List ℤ)). r.state) width (start_row M) l (wide M width ok)) in
    let room : count * width ≤ length keys = omega (arith, length-take (count * width) keys, ap length e) in
    ap (λ (k : List ℤ). row_at k width t) (front_is keys (count * width) room e refl)
    ∙ filled_row (λ (r : Row (List ℤ)). r.state) width (start_row M) l keys t (wide M width ok) (omega (arith, held.count_is))

-- ---- one row more

row_more : (l : Rows (List ℤ)) (r : Row (List ℤ)) → row_cells (l ++ (r ∷ [])) ≡ row_cells l ++ r.state
unfolding row_cells joined
row_more l r = rw (map-append (λ (r : Row (List ℤ)). r.state) l (r ∷ []), joined_append (map (λ (r : Row (List ℤ)). r.state) l) (r.state ∷ []), append-nil)

path_more : (l : Rows (List ℤ)) (r : Row (List ℤ)) → path_rows true (l ++ (r ∷ [])) ≡ path_rows true l ++ (r.from ∷ r.letter ∷ [])
unfolding path_rows joined
path_more l r =
    rw (map-append (λ (r : Row (List ℤ)). r.from ∷ r.letter ∷ []) l (r ∷ []))
    (joined_append (map (λ (r : Row (List ℤ)). r.from ∷ r.letter ∷ []) l) ((r.from ∷ r.letter ∷ []) ∷ []))

module _ (path : List ℕ) (count from letter : ℕ) (room : 2 * (count + 1) ≤ length path) where
  stored_path : take (2 * (count + 1)) (path_with true path count from letter) ≡ take (2 * count) path ++ (from ∷ letter ∷ [])
  stored_path =
      let e : 2 * (count + 1) ≡ suc (2 * count + 1) = omega arith in
      let a : 2 * count + 1 < length (set path (2 * count) from) = rw length-set (omega arith) in
      let b : 2 * count < length path = omega arith in
      rw e (take-suc-set (set path (2 * count) from) (2 * count + 1) letter a
      ∙ rw (add-one (2 * count), take-suc-set path (2 * count) from b, append_assoc))

  kept_path : drop (2 * (count + 1)) (path_with true path count from letter) ≡ drop (2 * (count + 1)) path
  kept_path =
      drop-set-lt (2 * (count + 1)) (set path (2 * count) from) (2 * count + 1) letter (omega arith)
      ∙ drop-set-lt (2 * (count + 1)) path (2 * count) from (omega arith)

-- the key's first width cells are row count of the key area and, noting, `from` and `letter` its path cells; nothing else has changed
pub record Stored (width : ℕ) (noting : Bool) (count : ℕ) (key : List ℤ) (from letter : ℕ) (keys : List ℤ) (path : List ℕ) (keys' : List ℤ) (path' : List ℕ) : Type 0 where
  pub keys_are : keys' ≡ paste keys (count * width) key width
  pub path_is : path' ≡ path_with noting path count from letter

-- there is room for them
pub record RowRoom (width : ℕ) (noting : Bool) (count : ℕ) (key keys : List ℤ) (path : List ℕ) : Type 0 where
  pub long : width ≤ length key
  pub keys_room : count * width + width ≤ length keys
  pub path_room : path_count noting (count + 1) ≤ length path

module _ {width : ℕ} {noting : Bool} {count : ℕ} {key : List ℤ} {from letter : ℕ} {keys : List ℤ} {path : List ℕ} {keys' : List ℤ} {path' : List ℕ}
    (room : RowRoom width noting count key keys path) (s : Stored width noting count key from letter keys path keys' path') where
  next_cells : (count + 1) * width ≡ count * width + width
  next_cells = rw (add-one, suc-mul)

  pub held_more : {l : Rows (List ℤ)} → Held width noting l count keys path
      → Held width noting (l ++ (record { state = take width key; from = from; letter = letter } ∷ [])) (count + 1) keys' path'
  unfolding path_rows
  held_more {l} held = record {
    count_is = simp length-append (omega (arith, held.count_is));
    keys_hold =
        rw (s.keys_are, next_cells)
        (take-paste keys (count * width) key width (omega arith) room.long ∙ ap (λ (k : List ℤ). k ++ take width key) held.keys_hold ∙ sym (row_more l _));
    path_holds = rw s.path_is (go noting room.path_room held.path_holds);
  }
    where
      go : (d : Bool) → path_count d (count + 1) ≤ length path → take (path_count d count) path ≡ path_rows d l
          → take (path_count d (count + 1)) (path_with d path count from letter) ≡ path_rows d (l ++ (record { state = take width key; from = from; letter = letter } ∷ []))
      go true p h = stored_path path count from letter p ∙ ap (λ (k : List ℕ). k ++ (from ∷ letter ∷ [])) h ∙ sym (path_more l _)
      go false p h = h

  pub kept_more : Kept width noting (count + 1) keys path keys' path'
  kept_more = record {
    keys_rest = rw (s.keys_are, next_cells) (drop-paste keys (count * width) key width (omega arith) room.long);
    path_rest = rw s.path_is (go noting room.path_room);
  }
    where
      go : (d : Bool) → path_count d (count + 1) ≤ length path
          → drop (path_count d (count + 1)) (path_with d path count from letter) ≡ drop (path_count d (count + 1)) path
      go true p = kept_path path count from letter p
      go false p = refl
