-- The word of a state, read off the path area from the state back to the start: cells 2 t and 2 t + 1 have the state and the letter
-- from which state t was numbered. Where numbered rows stand in the area, it is the word by which the row was numbered.
use Prim.Native.Nat.{ℕ, zero, suc, ◌+◌, ◌-◌, ◌*◌, ◌≤◌, ◌<◌}
use Rattle.std.specs.Prelude.{◌≡◌, List, [], length, get_or, set}
use Rattle.std.proofs.Math.Path.{refl, ap}
use Rattle.std.proofs.Common.{append_assoc, le_refl, add-one, arith, length-append, length-set, drop-cons, get_or-set_same, drop-set-lt}
use Rattle.scope.specs.Whole.{at_front}
use Rattle.scope.specs.Words.{Word, ◌▹◌}
use Rattle.scope.specs.Numbering.{Machine, Rows, row, word_within, word_of}
use Rattle.scope.specs.Sizes.{most_letters}
use Rattle.theory.specs.Machine.Table.{Rooted}

abbrev pub from_at : List ℕ → ℕ → ℕ
from_at path t = get_or path (2 * t) 0

abbrev pub letter_at : List ℕ → ℕ → ℕ
letter_at path t = get_or path (2 * t + 1) 0

-- of at most n letters
unfoldable pub path_within : List ℕ → ℕ → ℕ → Word
path_within path zero t = []
path_within path (suc n) zero = []
path_within path (suc n) (suc t) = path_within path n (from_at path (suc t)) ▹ letter_at path (suc t)

unfoldable pub path_word : List ℕ → ℕ → Word
path_word path t = path_within path t t

-- the cells up to a state's stand in the area, each state is numbered from one before it, and the letters are letters
pub record PathLinked (path : List ℕ) (state : ℕ) : Type 0 where
  pub room : 2 * state + 1 < length path
  pub back : (t : ℕ) → 0 < t → t ≤ state → from_at path t < t
  pub letter_ok : (t : ℕ) → 0 < t → t ≤ state → letter_at path t < most_letters

pub path_start : (path : List ℕ) → path_word path 0 ≡ []
unfolding path_word path_within
path_start path = refl

-- what a step back from state t finds
pub record PathStep (path : List ℕ) (t : ℕ) : Type 0 where
  pub back : from_at path t < t
  pub letter_ok : letter_at path t < most_letters
  pub word_is : path_word path t ≡ path_word path (from_at path t) ▹ letter_at path t
  pub longer : length (path_word path t) ≡ length (path_word path (from_at path t)) + 1

module _ {path : List ℕ} {state : ℕ} (k : PathLinked path state) where
  within_enough : (n n' t : ℕ) → t ≤ n → t ≤ n' → t ≤ state → path_within path n t ≡ path_within path n' t
  unfolding path_within
  within_enough zero zero t p q h = refl
  within_enough zero (suc n') zero p q h = refl
  within_enough zero (suc n') (suc t) p q h = absurd (omega arith)
  within_enough (suc n) zero zero p q h = refl
  within_enough (suc n) zero (suc t) p q h = absurd (omega arith)
  within_enough (suc n) (suc n') zero p q h = refl
  within_enough (suc n) (suc n') (suc t) p q h =
      let b = k.back (suc t) (omega arith) h in
      ap (λ (w : Word). w ▹ letter_at path (suc t)) (within_enough n n' (from_at path (suc t)) (omega arith) (omega arith) (omega arith))

  -- one letter more than the word of the state before
  path_word_lem : (t : ℕ) → 0 < t → t ≤ state → path_word path t ≡ path_word path (from_at path t) ▹ letter_at path t
  unfolding path_word path_within
  path_word_lem zero z h = absurd (omega arith)
  path_word_lem (suc t) z h =
      let b = k.back (suc t) (omega arith) h in
      ap (λ (w : Word). w ▹ letter_at path (suc t)) (within_enough t _ (from_at path (suc t)) (omega arith) (le_refl _) (omega arith))

  pub path_step : (t : ℕ) → 0 < t → t ≤ state → PathStep path t
  path_step t z h = record { back = k.back t z h; letter_ok = k.letter_ok t z h; word_is = path_word_lem t z h; longer = rw (path_word_lem t z h, length-append) }

  pub path_word_short : length (path_word path state) ≤ state
  path_word_short = go state state (le_refl state) (le_refl state)
    where
      go : (n t : ℕ) → t ≤ n → t ≤ state → length (path_word path t) ≤ t
      go zero zero p h = rw (path_start path) (le_refl 0)
      go zero (suc t) p h = absurd (omega arith)
      go (suc n) zero p h = rw (path_start path) (le_refl 0)
      go (suc n) (suc t) p h =
          let b = k.back (suc t) (omega arith) h in
          omega (arith, (path_step (suc t) (omega arith) h).longer, go n (from_at path (suc t)) (omega arith) (omega arith))

-- ---- the last letter of a word stored in a buffer that gets the letters before it at its front

pub last_stored : (w : Word) (a : ℕ) (buffer : List ℕ) → length w < length buffer → at_front w (set buffer (length w) a) ≡ at_front (w ▹ a) buffer
unfolding at_front
last_stored w a buffer h =
    let i : length w < length (set buffer (length w) a) = rw length-set h in
    rw (append_assoc, length-append, add-one, drop-cons (set buffer (length w) a) (length w) 0 i, get_or-set_same, drop-set-lt (suc (length w)) buffer (length w) a (le_refl (suc (length w))))

pub letter_stored : {path : List ℕ} {t : ℕ} → PathStep path t → (left : ℕ) (buffer : List ℕ) → left ≡ length (path_word path t) → left ≤ length buffer
    → at_front (path_word path (from_at path t)) (set buffer (left - 1) (letter_at path t)) ≡ at_front (path_word path t) buffer
letter_stored {path} {t} k left buffer e h =
    let i : left - 1 ≡ length (path_word path (from_at path t)) = omega (arith, k.longer) in
    rw (i, k.word_is) (last_stored (path_word path (from_at path t)) (letter_at path t) buffer (omega (arith, k.longer)))

pub no_letters : (buffer : List ℕ) → at_front [] buffer ≡ buffer
unfolding at_front
no_letters buffer = refl

-- ---- numbered rows

module _ {S : Type 0} (m : Machine S) {l : Rows S} (k : Rooted m l) (path : List ℕ) (state : ℕ) (inside : state < length l)
    (froms : (t : ℕ) → t ≤ state → from_at path t ≡ (row m l t).from)
    (letters : (t : ℕ) → t ≤ state → letter_at path t ≡ (row m l t).letter)
  where
    pub rows_linked : m.letters ≤ most_letters → 2 * state + 1 < length path → PathLinked path state
    rows_linked few room = record {
      room = room;
      back = λ t z h. rw (froms t h) (k.stepped t z (omega arith)).back;
      letter_ok = λ t z h. rw (letters t h) (omega (arith, (k.stepped t z (omega arith)).letter_ok));
    }

    pub rows_word : path_word path state ≡ word_of m l state
    unfolding path_word word_of path_within word_within
    rows_word = go state state (le_refl state)
      where
        go : (n t : ℕ) → t ≤ state → path_within path n t ≡ word_within m l n t
        go zero zero h = refl
        go zero (suc t) h = refl
        go (suc n) zero h = refl
        go (suc n) (suc t) h =
            let b = (k.stepped (suc t) (omega arith) (omega arith)).back in
            rw (froms (suc t) h, letters (suc t) h, go n (row m l (suc t)).from (omega arith))
