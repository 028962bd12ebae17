-- Deciding: what found, never and no room say of a question where r rows are lent, in whole-number arithmetic; and that the bound leaves room.
use Rattle.std.specs.Prelude.{◌≡◌, refl, ◌↔◌, ◌≢◌, Bool, true, false, List, ℕ, ◌≤◌, ◌<◌, length}
use Rattle.std.proofs.Common.{sym, ap, ◌∙◌, true≢false, le_refl, arith}
use mathlib.Core.Logic.Iff
use Rattle.std.proofs.Math.Bool.{not-eq-not}
use Rattle.std.proofs.lemmas.List.{length-map}
use Rattle.scope.specs.declared.Question.{Question}
use Rattle.scope.specs.Words.{letters, Word, spelled, ◌≼◌, Over}
use Rattle.scope.specs.States.{State, satisfied}
use Rattle.scope.specs.Bound.{bound}
use Rattle.scope.specs.Numbering.{Machine, Rows, machine_of, row, numbered, word_of}
use Rattle.scope.specs.Deciding.{Verdict, found, never, no_room, verdict, counted}
use Rattle.theory.specs.Words.Order.{≼_antisym, ≼_not-≻}
use Rattle.theory.specs.Machine.Lawful.{Lawful, machine_lawful}
use Rattle.theory.specs.Machine.Table.{Rooted, numbered_rooted}
use Rattle.theory.specs.Machine.Firsts.{after_word, word_over, word_length, words_increase}
use Rattle.theory.specs.Machine.Verdicts.{NoneOf, Accepted, found_iff, is_found, verdict_by_lem}
use Rattle.theory.specs.Machine.Reachable.{states_of, AtMost, rows_each, rows_few, room_iff, never_means, no_room_means}
use Rattle.theory.specs.Entries.Bounded.{rows_in_bound}
use Rattle.theory.specs.Entries.Meaning.{word_means, accepted_satisfies, AcceptedWord, satisfied_accepted}
use Rattle.theory.specs.Words.Spelling.{length_spelled}

-- ---- the number of the reachable states

-- they are n: at most n, and no fewer
pub record StatesAre {S : Type 0} (m : Machine S) (n : ℕ) : Type 0 where
  pub enough : AtMost m n
  pub least : (r : ℕ) → AtMost m r → n ≤ r

module _ {S : Type 0} {m : Machine S} where
  pub states_unique : {n k : ℕ} → StatesAre m n → StatesAre m k → n ≡ k
  states_unique {n} {k} a b = omega (arith, a.least k b.enough, b.least n a.enough)

  pub states_at_most : {n : ℕ} (r : ℕ) → StatesAre m n → (n ≤ r) ↔ AtMost m r
  states_at_most {n} r a =
      (λ h. record { states = a.enough.states; few = omega (arith, a.enough.few); each = a.enough.each }, a.least r)

module _ {S : Type 0} (m : Machine S) (ok : Lawful m) where
  -- where every row is expanded, they are as many as the rows
  pub states_are : (r : ℕ) → length (numbered m r) ≤ r → StatesAre m (length (numbered m r))
  states_are r h = record {
    enough = record { states = states_of m (numbered m r); few = rw length-map (le_refl _); each = rows_each m ok r h };
    least = λ k a. rows_few m ok r a;
  }

-- ---- the rows of a question

abbrev pub rows_of : Question → ℕ → Rows State
rows_of q r = numbered (machine_of q) r

abbrev pub row_word : Question → ℕ → ℕ → Word
row_word q r t = word_of (machine_of q) (rows_of q r) t

abbrev pub verdict_of : Question → ℕ → Verdict
verdict_of q r = verdict (machine_of q) r (rows_of q r)

-- the rows of every state counted
abbrev pub counted_rows : Question → ℕ → Rows State
counted_rows q r = counted (verdict_of q r) r (rows_of q r)

module _ (q : Question) where
  pub to_machine : {w : Word} → Over (letters q.n) w → Over (machine_of q).letters w
  unfolding machine_of
  to_machine o = o

  from_machine : {w : Word} → Over (machine_of q).letters w → Over (letters q.n) w
  unfolding machine_of
  from_machine o = o

  pub bound_suffices : (f : ℕ) → length (rows_of q f) ≤ bound q
  bound_suffices f =
      let k = numbered_rooted (machine_of q) (machine_lawful q) f in
      rows_in_bound q (rows_of q f) (after_word (machine_of q) k) k.apart

  pub bound_at_most : (r : ℕ) → bound q ≤ r → AtMost (machine_of q) r
  bound_at_most r h = (room_iff (machine_of q) (machine_lawful q) r).0 (omega (arith, bound_suffices r))

-- ---- what satisfies a question of n variables, by what it says of naturals

-- no naturals, however large
abbrev pub NoneSatisfies : ℕ → (List ℕ → Bool) → Type 0
NoneSatisfies n says = (xs : List ℕ) → length xs ≡ n → says xs ≡ false

-- the first satisfying word, in the order of words
pub record FirstSatisfying (n : ℕ) (says : List ℕ → Bool) (w : Word) : Type 0 where
  pub over : Over (letters n) w
  pub satisfies : says (spelled n w) ≡ true
  pub first : (v : Word) → Over (letters n) v → says (spelled n v) ≡ true → w ≼ v

pub first_satisfying_unique : {n : ℕ} {says : List ℕ → Bool} {v w : Word} → FirstSatisfying n says v → FirstSatisfying n says w → v ≡ w
first_satisfying_unique {v = v} {w = w} a b = ≼_antisym (a.first w b.over b.satisfies) (b.first v a.over a.satisfies)

module _ (q : Question) where
  satisfies_accepted : (w : Word) → satisfied q (spelled q.n w) ≡ true → Accepted (machine_of q) w
  satisfies_accepted w h = word_means q w ∙ h

  none_satisfies : NoneSatisfies q.n (satisfied q) ↔ ((w : Word) → Over (machine_of q).letters w → ¬ Accepted (machine_of q) w)
  none_satisfies = (none_accepted, none)
    where
      none_accepted : NoneSatisfies q.n (satisfied q) → (w : Word) → Over (machine_of q).letters w → ¬ Accepted (machine_of q) w
      none_accepted n w o a = true≢false (sym (accepted_satisfies q w a) ∙ n (spelled q.n w) (length_spelled q.n w))

      none : ((w : Word) → Over (machine_of q).letters w → ¬ Accepted (machine_of q) w) → NoneSatisfies q.n (satisfied q)
      none n xs e = not-eq-not.0 (λ h. let a : AcceptedWord q xs = satisfied_accepted q xs e h in n a.word (to_machine q a.over) a.accepted)

-- ---- what the verdict where r rows are lent says

-- row w is below r, and its word is the first satisfying word
pub record FoundAt (q : Question) (says : List ℕ → Bool) (r w : ℕ) : Type 0 where
  pub room : w < r
  pub inside : w < length (rows_of q r)
  pub first : FirstSatisfying q.n says (row_word q r w)

module _ (q : Question) (r : ℕ) where
  found_at : (w : ℕ) → verdict_of q r ≡ found w → FoundAt q (satisfied q) r w
  found_at w e =
      let k = (found_iff (machine_of q) (machine_lawful q) r w).0 e in
      record {
        room = k.room;
        inside = k.inside;
        first = record {
          over = from_machine q k.over;
          satisfies = accepted_satisfies q (row_word q r w) k.accepted;
          first = λ v o h. k.first (to_machine q o) (satisfies_accepted q v h);
        };
      }

  at_found : (w : ℕ) → FoundAt q (satisfied q) r w → verdict_of q r ≡ found w
  at_found w a = verdict_by_lem (machine_of q) (is_found w a.room a.inside accepts smallest)
    where
      k : Rooted (machine_of q) (rows_of q r)
      k = numbered_rooted (machine_of q) (machine_lawful q) r

      accepts : (machine_of q).accepts (row (machine_of q) (rows_of q r) w).state ≡ true
      accepts = rw (after_word (machine_of q) k w a.inside) at (satisfies_accepted q (row_word q r w) a.first.satisfies)

      -- an earlier row that accepts would have an earlier word
      later : (t : ℕ) → t < w → t < length (rows_of q r) → (machine_of q).accepts (row (machine_of q) (rows_of q r) t).state ≢ true
      later t h p e =
          let v : Word = row_word q r t in
          let s : satisfied q (spelled q.n v) ≡ true = accepted_satisfies q v (rw (after_word (machine_of q) k t p) e) in
          ≼_not-≻ (a.first.first v (from_machine q (word_over (machine_of q) k t p)) s) (words_increase (machine_of q) k t w h a.inside)

      smallest : NoneOf (machine_of q) (rows_of q r) w
      smallest t h = not-eq-not.0 (later t h (omega (arith, a.inside)))

  pub held_found_exactly : (w : ℕ) → (verdict_of q r ≡ found w) ↔ FoundAt q (satisfied q) r w
  held_found_exactly w = (found_at w, at_found w)

  -- its letters are at most w
  pub row_short : (w : ℕ) → w < length (rows_of q r) → length (row_word q r w) ≤ w
  row_short w h = word_length (machine_of q) (numbered_rooted (machine_of q) (machine_lawful q) r) w h

  pub held_never_exactly : (verdict_of q r ≡ never) ↔ (AtMost (machine_of q) r × NoneSatisfies q.n (satisfied q))
  held_never_exactly = Iff.trans (never_means (machine_of q) (machine_lawful q) r) (Iff.and Iff.rfl (Iff.symm (none_satisfies q)))

  pub held_no_room_exactly : (verdict_of q r ≡ no_room) ↔ ((¬ AtMost (machine_of q) r) × NoneOf (machine_of q) (rows_of q r) r)
  held_no_room_exactly = no_room_means (machine_of q) (machine_lawful q) r

  -- in words: the word of none of the first r rows satisfies
  pub no_word_satisfies : r < length (rows_of q r) → NoneOf (machine_of q) (rows_of q r) r ↔ ((t : ℕ) → t < r → satisfied q (spelled q.n (row_word q r t)) ≡ false)
  no_word_satisfies more = (λ n t h. sym (means t h) ∙ n t h, λ n t h. means t h ∙ n t h)
    where
      means : (t : ℕ) → t < r → (machine_of q).accepts (row (machine_of q) (rows_of q r) t).state ≡ satisfied q (spelled q.n (row_word q r t))
      means t h =
          ap (machine_of q).accepts (sym (after_word (machine_of q) (numbered_rooted (machine_of q) (machine_lawful q) r) t (omega arith)))
          ∙ word_means q (row_word q r t)

  -- where r rows hold every reachable state and some naturals satisfy the question, a word is found
  pub satisfied_found : AtMost (machine_of q) r → (xs : List ℕ) → length xs ≡ q.n → satisfied q xs ≡ true → (w : ℕ) × (verdict_of q r ≡ found w)
  satisfied_found a xs n h = go (verdict_of q r) refl
    where
      go : (v : Verdict) → verdict_of q r ≡ v → (w : ℕ) × (verdict_of q r ≡ found w)
      go (found w) e = (w, e)
      go never e = absurd (true≢false (sym h ∙ (held_never_exactly.0 e).1 xs n))
      go no_room e = absurd ((held_no_room_exactly.0 e).0 a)
