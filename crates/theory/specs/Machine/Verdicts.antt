-- What the verdict over r rows says: found, never and no room, each by what it was given by and by what it means for words; and
-- that more rows keep found and never, the words and the rows counted.
use Rattle.std.specs.Prelude.{ℕ, zero, suc, ◌≤◌, ◌<◌, ◌≡◌, ◌↔◌, ◌≢◌, Bool, take}
use Rattle.std.proofs.Math.Path.{refl}
use Rattle.std.proofs.Common.{sym, ◌∙◌, true≢false, le_refl, arith, get_or-take, take_all, length-take-le}
use Rattle.std.proofs.Math.Logic.{by_cases}
use Rattle.std.proofs.Math.Bool.{true, false}
use Rattle.std.proofs.Math.Option.{Option, none, some}
use mathlib.Core.List.{[], ◌∷◌}
use Rattle.std.proofs.Math.Decide.{dec_lt}
use Rattle.std.proofs.Math.ListN.{length, length-take}
use Rattle.std.proofs.lemmas.List.{take-append-le}
use Rattle.std.proofs.Math.Dec.{leb, leb→le, nleb→lt}
use Rattle.scope.specs.Words.{Word, ◌≼◌, Over}
use Rattle.scope.specs.Numbering.{Machine, Row, Rows, row, after, start_row, first_if, first_accepting, numbered, word_of}
use Rattle.scope.specs.Deciding.{Verdict, found, never, no_room, verdict_by, verdict, counted}
use Rattle.theory.specs.Words.Order.{≼_trans}
use Rattle.theory.specs.Machine.Lawful.{Lawful}
use Rattle.theory.specs.Machine.Prefix.{Prefix, prefix_length, prefix_row, numbered_prefix_le, numbered_stays_le}
use Rattle.theory.specs.Machine.Table.{HasRow, numbered_table, numbered_rooted}
use Rattle.theory.specs.Machine.Firsts.{after_word, word_over, words_not_decrease, prefix_word, closed, reached}

false_not_true : {b : Bool} → b ≡ false → b ≡ true → ⊥
false_not_true e d = true≢false (sym d ∙ e)

module _ {S : Type 0} (m : Machine S) where
  -- none of the first n rows accepts
  abbrev pub NoneOf : Rows S → ℕ → Type 0
  NoneOf l n = (t : ℕ) → t < n → m.accepts (row m l t).state ≡ false

  abbrev pub Accepted : Word → Type 0
  Accepted w = m.accepts (after m m.start w) ≡ true

  -- ---- the smallest row that accepts

  pub data Scan (l : Rows S) : Option ℕ → Type 0 where
    hit : (w : ℕ) → w < length l → m.accepts (row m l w).state ≡ true → NoneOf l w → Scan l (some w)
    miss : NoneOf l (length l) → Scan l none

  none_before : (r : Row S) (l : Rows S) (n : ℕ) → m.accepts r.state ≡ false → NoneOf l n → NoneOf (r ∷ l) (suc n)
  none_before r l n e h zero p = e
  none_before r l n e h (suc t) p = h t (omega arith)

  pub scan : (l : Rows S) → Scan l (first_accepting m l)
  unfolding first_accepting first_if
  scan [] = miss (λ t p. absurd (omega arith))
  scan (r ∷ l) = go (m.accepts r.state) refl (scan l)
    where
      go : (b : Bool) → m.accepts r.state ≡ b → {o : Option ℕ} → Scan l o → Scan (r ∷ l) (first_if b o)
      go true e s = hit 0 (omega arith) e (λ t p. absurd (omega arith))
      go false e (hit w p a n) = hit (suc w) (omega arith) a (none_before r l w e n)
      go false e (miss n) = miss (none_before r l (length l) e n)

  -- ---- what a verdict over r rows is given by, where l are numbered

  pub data Judged (r : ℕ) (l : Rows S) : Verdict → Type 0 where
    is_found : (w : ℕ) → w < r → w < length l → m.accepts (row m l w).state ≡ true → NoneOf l w → Judged r l (found w)
    is_never : length l ≤ r → NoneOf l (length l) → Judged r l never
    is_no_room_lem : r < length l → NoneOf l r → Judged r l no_room

  row_take : (r : ℕ) (l : Rows S) (t : ℕ) → t < r → row m (take r l) t ≡ row m l t
  row_take r l t h = get_or-take r l t (start_row m) h

  none_take : (r : ℕ) (l : Rows S) (n : ℕ) → n ≤ r → NoneOf (take r l) n → NoneOf l n
  none_take r l n h k t p = rw (row_take r l t (omega arith)) at (k t p)

  verdict_judged : (r : ℕ) (l : Rows S) → Judged r l (verdict m r l)
  unfolding verdict
  verdict_judged r l = go (scan (take r l)) (leb (length l) r) refl
    where
      go : {o : Option ℕ} → Scan (take r l) o → (b : Bool) → leb (length l) r ≡ b → Judged r l (verdict_by o b)
      go (hit w h a n) b e =
          let p : w < r = omega (arith, length-take r l) in
          is_found w p (omega (arith, length-take r l)) (rw (row_take r l w p) at a) (none_take r l w (omega arith) n)
      go (miss n) true e =
          let p : length l ≤ r = leb→le (length l) r (rw e tt) in
          is_never p (rw (take_all r l p) at n)
      go (miss n) false e =
          let p : r < length l = nleb→lt (length l) r (rw e tt) in
          is_no_room_lem p (none_take r l r (le_refl r) (rw (length-take-le r l (omega arith)) at n))

  judged_unique : {r : ℕ} {l : Rows S} {v v' : Verdict} → Judged r l v → Judged r l v' → v ≡ v'
  judged_unique (is_found w p h a n) (is_found w' p' h' a' n') =
      by_cases (dec_lt w w') (λ y. absurd (false_not_true (n' w y) a))
      (λ y. by_cases (dec_lt w' w) (λ z. absurd (false_not_true (n w' z) a')) (λ z. let e : w ≡ w' = omega arith in rw e))
  judged_unique (is_found w p h a n) (is_never p' n') = absurd (false_not_true (n' w h) a)
  judged_unique (is_found w p h a n) (is_no_room_lem p' n') = absurd (false_not_true (n' w p) a)
  judged_unique (is_never p n) (is_found w p' h a n') = absurd (false_not_true (n w h) a)
  judged_unique (is_never p n) (is_never p' n') = refl
  judged_unique (is_never p n) (is_no_room_lem p' n') = absurd (omega arith)
  judged_unique (is_no_room_lem p n) (is_found w p' h a n') = absurd (false_not_true (n w p') a)
  judged_unique (is_no_room_lem p n) (is_never p' n') = absurd (omega arith)
  judged_unique (is_no_room_lem p n) (is_no_room_lem p' n') = refl

  -- so the verdict is the one that is given by what holds
  pub verdict_by_lem : {r : ℕ} {l : Rows S} {v : Verdict} → Judged r l v → verdict m r l ≡ v
  verdict_by_lem {r} {l} j = judged_unique (verdict_judged r l) j

  -- ---- what each verdict means

  module _ (r : ℕ) where
    -- row w is the smallest that accepts, and its word is the first that is accepted
    pub record Found (w : ℕ) : Type 0 where
      pub room : w < r
      pub inside : w < length (numbered m r)
      pub accepts : m.accepts (row m (numbered m r) w).state ≡ true
      pub smallest : NoneOf (numbered m r) w
      pub over : Over m.letters (word_of m (numbered m r) w)
      pub accepted : Accepted (word_of m (numbered m r) w)
      pub first : {v : Word} → Over m.letters v → Accepted v → word_of m (numbered m r) w ≼ v

    -- every word leads to one of at most r rows, and none is accepted
    pub record Never : Type 0 where
      pub room : length (numbered m r) ≤ r
      pub none_accepts : NoneOf (numbered m r) (length (numbered m r))
      pub every : {v : Word} → Over m.letters v → HasRow m (numbered m r) (after m m.start v)
      pub none_accepted : {v : Word} → Over m.letters v → ¬ Accepted v

    -- the words of the rows 0 to r lead to r + 1 states, and none of the first r accepts
    pub record NoRoom : Type 0 where
      pub more : r < length (numbered m r)
      pub none_accepts : NoneOf (numbered m r) r
      pub over : (t : ℕ) → t ≤ r → Over m.letters (word_of m (numbered m r) t)
      pub distinct : (t u : ℕ) → t < u → u ≤ r → after m m.start (word_of m (numbered m r) t) ≢ after m m.start (word_of m (numbered m r) u)
      pub none_accepted : (t : ℕ) → t < r → ¬ Accepted (word_of m (numbered m r) t)

module _ {S : Type 0} (m : Machine S) (ok : Lawful m) where
  -- where no row before row w accepts, no word before its word is accepted
  first_accepted : (r w : ℕ) → w < length (numbered m r) → NoneOf m (numbered m r) w → {v : Word} → Over m.letters v → Accepted m v
      → word_of m (numbered m r) w ≼ v
  first_accepted r w h n o b =
      let q = reached m ok r o in
      let p = numbered_prefix_le m q.later in
      let k = numbered_rooted m ok q.stage in
      by_cases (dec_lt q.at w)
      (λ x. absurd (false_not_true (n q.at x) (rw (← (prefix_row m q.at p (omega arith)), q.is) b)))
      (λ x. ≼_trans (rw (prefix_word m p (numbered_rooted m ok r) k w h) at (words_not_decrease m k w q.at (omega arith) q.inside)) q.first)

  judged_found : {r w : ℕ} → Judged m r (numbered m r) (found w) → Found m r w
  judged_found {r} (is_found w p h a n) =
      let k = numbered_rooted m ok r in
      record {
        room = p;
        inside = h;
        accepts = a;
        smallest = n;
        over = word_over m k w h;
        accepted = rw (after_word m k w h) a;
        first = first_accepted r w h n;
      }

  judged_never : {r : ℕ} → Judged m r (numbered m r) never → Never m r
  judged_never {r} (is_never p n) = record { room = p; none_accepts = n; every = every; none_accepted = λ o b. let h = every o in false_not_true (n h.at h.inside) (rw h.is b) }
    where
      every : {v : Word} → Over m.letters v → HasRow m (numbered m r) (after m m.start v)
      every o = closed m (numbered_table m ok r) p o

  judged_no_room : {r : ℕ} → Judged m r (numbered m r) no_room → NoRoom m r
  judged_no_room {r} (is_no_room_lem p n) =
      let k = numbered_rooted m ok r in
      record {
        more = p;
        none_accepts = n;
        over = λ t h. word_over m k t (omega arith);
        distinct = λ t u h g. rw (after_word m k t (omega arith), after_word m k u (omega arith)) (k.apart t u h (omega arith));
        none_accepted = λ t h b. false_not_true (n t h) (rw (after_word m k t (omega arith)) at b);
      }

  pub found_iff : (r w : ℕ) → (verdict m r (numbered m r) ≡ found w) ↔ Found m r w
  found_iff r w =
      (λ e. judged_found (rw e at (verdict_judged m r (numbered m r))), λ k. verdict_by_lem m (is_found w k.room k.inside k.accepts k.smallest))

  pub never_iff : (r : ℕ) → (verdict m r (numbered m r) ≡ never) ↔ Never m r
  never_iff r = (λ e. judged_never (rw e at (verdict_judged m r (numbered m r))), λ k. verdict_by_lem m (is_never k.room k.none_accepts))

  pub no_room_iff : (r : ℕ) → (verdict m r (numbered m r) ≡ no_room) ↔ NoRoom m r
  no_room_iff r = (λ e. judged_no_room (rw e at (verdict_judged m r (numbered m r))), λ k. verdict_by_lem m (is_no_room_lem k.more k.none_accepts))

-- ---- more rows keep found and never

module _ {S : Type 0} (m : Machine S) {r r' : ℕ} (more : r ≤ r') where
  kept : Prefix (numbered m r) (numbered m r')
  kept = numbered_prefix_le m more

  found_stays : {w : ℕ} → Judged m r (numbered m r) (found w) → Judged m r' (numbered m r') (found w)
  found_stays (is_found w p h a n) =
      is_found w (omega arith) (omega (arith, prefix_length kept)) (rw (prefix_row m w kept h) a) (λ t q. rw (prefix_row m t kept (omega arith)) (n t q))

  never_stays : Judged m r (numbered m r) never → Judged m r' (numbered m r') never
  never_stays (is_never p n) = rw (numbered_stays_le m more p) (is_never (omega arith) n)

  pub verdict_found_stays : {w : ℕ} → verdict m r (numbered m r) ≡ found w → verdict m r' (numbered m r') ≡ found w
  verdict_found_stays e = verdict_by_lem m (found_stays (rw e at (verdict_judged m r (numbered m r))))

  pub verdict_never_stays : verdict m r (numbered m r) ≡ never → verdict m r' (numbered m r') ≡ never
  verdict_never_stays e = verdict_by_lem m (never_stays (rw e at (verdict_judged m r (numbered m r))))

  -- with the same rows counted
  pub found_rows_stay : {w : ℕ} → verdict m r (numbered m r) ≡ found w → counted (found w) r' (numbered m r') ≡ counted (found w) r (numbered m r)
  found_rows_stay {w} e = go (rw e at (verdict_judged m r (numbered m r)))
    where
      go : {w : ℕ} → Judged m r (numbered m r) (found w) → take (suc w) (numbered m r') ≡ take (suc w) (numbered m r)
      go (is_found w p h a n) = rw kept.is (take-append-le (suc w) (numbered m r) kept.rest h)

  pub never_rows_stay : verdict m r (numbered m r) ≡ never → counted never r' (numbered m r') ≡ counted never r (numbered m r)
  never_rows_stay e = go (rw e at (verdict_judged m r (numbered m r)))
    where
      go : Judged m r (numbered m r) never → numbered m r' ≡ numbered m r
      go (is_never p n) = numbered_stays_le m more p

  -- and the same word
  pub found_word_stays : Lawful m → {w : ℕ} → verdict m r (numbered m r) ≡ found w → word_of m (numbered m r') w ≡ word_of m (numbered m r) w
  found_word_stays ok {w} e =
      prefix_word m kept (numbered_rooted m ok r) (numbered_rooted m ok r') w ((found_iff m ok r w).0 e).inside
