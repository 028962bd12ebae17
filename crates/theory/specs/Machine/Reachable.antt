-- The reachable states apart from any numbering. They are at most r just where the rows numbered by r expansions are; and so never
-- and no room say what they say of the reachable states.
use Rattle.std.specs.Prelude.{ℕ, ◌≤◌, ◌<◌, ◌≡◌, refl, ◌↔◌, ◌≢◌, Bool, true, false, List, map, length, get_or}
use Rattle.std.proofs.Common.{sym, ◌∙◌, arith}
use Rattle.std.proofs.Math.Logic.{by_cases}
use Rattle.std.proofs.Math.Decide.{dec_lt}
use Rattle.std.proofs.lemmas.List.{length-map}
use Rattle.std.proofs.Math.ListN.{get_or-map}
use Rattle.scope.specs.Words.{Word, Over}
use Rattle.scope.specs.Numbering.{Machine, Row, Rows, row, after, start_row, numbered, word_of}
use Rattle.scope.specs.Deciding.{never, no_room, verdict}
use Rattle.theory.specs.Numbers.Pigeonhole.{pigeonhole}
use Rattle.theory.specs.Machine.Lawful.{Lawful}
use Rattle.theory.specs.Machine.Table.{numbered_table, numbered_rooted}
use Rattle.theory.specs.Machine.Firsts.{after_word, word_over, closed}
use Rattle.theory.specs.Machine.Verdicts.{NoneOf, Accepted, is_never, is_no_room_lem, verdict_by_lem, never_iff, no_room_iff}

not-true : (b : Bool) → b ≢ true → b ≡ false
not-true true n = absurd (n refl)
not-true false n = refl

module _ {S : Type 0} (m : Machine S) where
  abbrev pub states_of : Rows S → List S
  states_of l = map (λ (r : Row S). r.state) l

  pub states_row : (l : Rows S) (t : ℕ) → get_or (states_of l) t m.start ≡ (row m l t).state
  unfolding start_row
  states_row l t = get_or-map (λ (r : Row S). r.state) l t (start_row m)

  -- the state that a word leads to is one of the first n
  pub record Among (states : List S) (n : ℕ) (w : Word) : Type 0 where
    pub at : ℕ
    pub inside : at < n
    pub is : get_or states at m.start ≡ after m m.start w

  -- the reachable states are at most r
  pub record AtMost (r : ℕ) : Type 0 where
    pub states : List S
    pub few : length states ≤ r
    pub each : (w : Word) → Over m.letters w → Among states (length states) w

  -- so words that lead to distinct states are at most r
  module _ {r k : ℕ} (a : AtMost r) (word : ℕ → Word)
      (over : (t : ℕ) → t < k → Over m.letters (word t))
      (apart : (t u : ℕ) → t < u → u < k → after m m.start (word t) ≢ after m m.start (word u))
    where
      place : (t : ℕ) → Dec (t < k) → ℕ
      place t (yes h) = (a.each (word t) (over t h)).at
      place t (no n) = 0

      record Placed (t i : ℕ) : Type 0 where
        inside : i < length a.states
        is : get_or a.states i m.start ≡ after m m.start (word t)

      placed : (t : ℕ) → t < k → (d : Dec (t < k)) → Placed t (place t d)
      unfolding place
      placed t h (yes p) = let b = a.each (word t) (over t p) in record { inside = b.inside; is = b.is }
      placed t h (no n) = absurd (n h)

      pub distinct_few : k ≤ r
      distinct_few =
          let p : k ≤ length a.states = pigeonhole (λ t. place t (dec_lt t k)) k (length a.states) (λ t h. (placed t h (dec_lt t k)).inside) differ in
          omega (arith, a.few)
        where
          differ : (t u : ℕ) → t < u → u < k → place t (dec_lt t k) ≢ place u (dec_lt u k)
          differ t u p h e = apart t u p h (sym (placed t (omega arith) (dec_lt t k)).is ∙ rw e (placed u h (dec_lt u k)).is)

module _ {S : Type 0} (m : Machine S) (ok : Lawful m) where
  -- where every row is expanded, the rows have every state that a word leads to
  pub rows_each : (r : ℕ) → length (numbered m r) ≤ r → (w : Word) → Over m.letters w
      → Among m (states_of m (numbered m r)) (length (states_of m (numbered m r))) w
  rows_each r h w o =
      let c = closed m (numbered_table m ok r) h o in
      record { at = c.at; inside = rw length-map c.inside; is = rw (states_row m) c.is }

  room_at_most : (r : ℕ) → length (numbered m r) ≤ r → AtMost m r
  room_at_most r h = record { states = states_of m (numbered m r); few = rw length-map h; each = rows_each r h }

  -- however many rows are expanded, they are no more
  pub rows_few : (f : ℕ) {r : ℕ} → AtMost m r → length (numbered m f) ≤ r
  rows_few f a =
      let k = numbered_rooted m ok f in
      distinct_few m a (word_of m (numbered m f)) (word_over m k)
      (λ t u p h. rw (after_word m k t (omega arith), after_word m k u h) (k.apart t u p h))

  pub room_iff : (r : ℕ) → (length (numbered m r) ≤ r) ↔ AtMost m r
  room_iff r = (room_at_most r, rows_few r)

  -- so never says that the reachable states are at most r and that no word is accepted
  pub never_means : (r : ℕ) → (verdict m r (numbered m r) ≡ never) ↔ (AtMost m r × ((w : Word) → Over m.letters w → ¬ Accepted m w))
  never_means r = (λ e. let n = (never_iff m ok r).0 e in (room_at_most r n.room, λ w o. n.none_accepted o), back)
    where
      back : AtMost m r × ((w : Word) → Over m.letters w → ¬ Accepted m w) → verdict m r (numbered m r) ≡ never
      back (a, n) = verdict_by_lem m (is_never (rows_few r a) none_accepts)
        where
          none_accepts : NoneOf m (numbered m r) (length (numbered m r))
          none_accepts t h = let k = numbered_rooted m ok r in not-true (m.accepts (row m (numbered m r) t).state) (λ e. n _ (word_over m k t h) (rw (after_word m k t h) e))

  -- and no room, that they are more than r and that none of the first r rows accepts
  pub no_room_means : (r : ℕ) → (verdict m r (numbered m r) ≡ no_room) ↔ ((¬ AtMost m r) × NoneOf m (numbered m r) r)
  no_room_means r = (λ e. let n = (no_room_iff m ok r).0 e in (λ a. omega (arith, n.more, rows_few r a), n.none_accepts), back)
    where
      back : (¬ AtMost m r) × NoneOf m (numbered m r) r → verdict m r (numbered m r) ≡ no_room
      back (a, n) = verdict_by_lem m (is_no_room_lem more n)
        where
          more : r < length (numbered m r)
          more = by_cases (dec_lt r (length (numbered m r))) (λ p. p) (λ p. absurd (a (room_at_most r (omega arith))))
