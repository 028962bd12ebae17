-- What it is to list states by the first words that lead to them, with none left out: the rows do, and there is one such list.
use Rattle.std.specs.Prelude.{ℕ, zero, suc, ◌≤◌, ◌<◌, ◌≡◌, ◌≢◌, List, length, get_or}
use Rattle.std.proofs.Common.{sym, ◌∙◌, ⊎_elim, le_refl, arith, ext_get_or}
use Rattle.std.proofs.Math.Logic.{by_cases}
use Rattle.std.proofs.Math.Decide.{dec_lt}
use Rattle.std.proofs.lemmas.List.{length-map}
use Rattle.scope.specs.Words.{Word, ◌≺◌, ◌≼◌, equal, less, Over}
use Rattle.scope.specs.Numbering.{Machine, after, numbered, word_of}
use Rattle.theory.specs.Words.Order.{≼_trans, ≼_total, ≼_antisym, ≼_not-≻}
use Rattle.theory.specs.Machine.Lawful.{Lawful}
use Rattle.theory.specs.Machine.Prefix.{prefix_row, numbered_prefix_le}
use Rattle.theory.specs.Machine.Table.{Rooted, numbered_rooted}
use Rattle.theory.specs.Machine.Firsts.{after_word, word_over, words_increase, prefix_word, reached, first_word}
use Rattle.theory.specs.Machine.Reachable.{states_of, states_row, Among, distinct_few, rows_each}

module _ {S : Type 0} (m : Machine S) where
  -- word t leads to state t, and every word before it to a state before state t
  pub record FirstWords (states : List S) : Type 0 where
    pub word : ℕ → Word
    pub over : (t : ℕ) → t < length states → Over m.letters (word t)
    pub leads : (t : ℕ) → t < length states → after m m.start (word t) ≡ get_or states t m.start
    pub before : (t : ℕ) → t < length states → (v : Word) → Over m.letters v → v ≺ word t → Among m states t v
    pub apart : (t u : ℕ) → t < u → u < length states → get_or states t m.start ≢ get_or states u m.start

  -- word t is the first that leads to state t, and the words increase
  pub word_first : {states : List S} (k : FirstWords states) (t : ℕ) → t < length states
      → (v : Word) → Over m.letters v → after m m.start v ≡ get_or states t m.start → k.word t ≼ v
  word_first k t h v o e = ⊎_elim (λ p. p) (λ p. let b = k.before t h v o p in absurd (k.apart b.at t b.inside h (b.is ∙ e))) (≼_total (k.word t) v)

  pub words_rise : {states : List S} (k : FirstWords states) (t u : ℕ) → t < u → u < length states → k.word t ≺ k.word u
  words_rise {states} k t u p h = ⊎_elim no_less (λ q. q) (≼_total (k.word u) (k.word t))
    where
      no_less : k.word u ≼ k.word t → k.word t ≺ k.word u
      no_less (equal e) = absurd (k.apart t u p h (sym (k.leads t (omega arith)) ∙ rw (← e) (k.leads u h)))
      no_less (less q) =
          let b = k.before t (omega arith) (k.word u) (k.over u h) q in
          absurd (k.apart b.at u (omega arith) h (b.is ∙ k.leads u h))

  -- ---- there is one such list, as far as two of them go

  module _ {A B : List S} (j : FirstWords A) (k : FirstWords B) where
    -- where the states before t are the same, B's word t is no later
    not_after : (t : ℕ) → t < length A → t < length B → ((i : ℕ) → i < t → get_or A i m.start ≡ get_or B i m.start) → k.word t ≼ j.word t
    not_after t p q same = ⊎_elim (λ x. x) earlier (≼_total (k.word t) (j.word t))
      where
        earlier : j.word t ≺ k.word t → k.word t ≼ j.word t
        earlier x =
            let b = k.before t q (j.word t) (j.over t p) x in
            absurd (j.apart b.at t b.inside p (same b.at b.inside ∙ b.is ∙ j.leads t p))

  module _ {A B : List S} (j : FirstWords A) (k : FirstWords B) where
    words_agree : (t : ℕ) → t < length A → t < length B → ((i : ℕ) → i < t → get_or A i m.start ≡ get_or B i m.start) → j.word t ≡ k.word t
    words_agree t p q same = ≼_antisym (not_after k j t q p (λ i h. sym (same i h))) (not_after j k t p q same)

    states_agree : (n t : ℕ) → t < n → t < length A → t < length B → get_or A t m.start ≡ get_or B t m.start
    states_agree zero t h p q = absurd (omega arith)
    states_agree (suc n) t h p q = sym (j.leads t p) ∙ rw (words_agree t p q (λ i x. states_agree n i (omega arith) (omega arith) (omega arith))) (k.leads t q)

    pub first_words_unique : (t : ℕ) → t < length A → t < length B → (get_or A t m.start ≡ get_or B t m.start) × (j.word t ≡ k.word t)
    first_words_unique t p q =
        (states_agree (suc t) t (omega arith) p q, words_agree t p q (λ i x. states_agree t i x (omega arith) (omega arith)))

  -- and where both have every state that a word leads to, they are one
  pub record EveryState (states : List S) : Type 0 where
    pub firsts : FirstWords states
    pub each : (w : Word) → Over m.letters w → Among m states (length states) w

  every_longest : {A B : List S} → EveryState A → FirstWords B → length B ≤ length A
  every_longest {A} j k =
      distinct_few m (record { states = A; few = le_refl _; each = j.each }) k.word k.over
      (λ t u p h. rw (k.leads t (omega arith), k.leads u h) (k.apart t u p h))

  pub every_state_unique : {A B : List S} → EveryState A → EveryState B → A ≡ B
  every_state_unique {A} {B} j k =
      let e : length A ≡ length B = omega (arith, every_longest j k.firsts, every_longest k j.firsts) in
      ext_get_or m.start A B e (λ t h. (first_words_unique j.firsts k.firsts t h (omega arith)).0)

-- ---- the rows are listed by their first words

module _ {S : Type 0} (m : Machine S) (ok : Lawful m) (f : ℕ) where
  -- a word up to row t's leads to the state of a row up to t
  pub none_left_out : (t : ℕ) → t < length (numbered m f) → (v : Word) → Over m.letters v → v ≼ word_of m (numbered m f) t
      → Among m (states_of m (numbered m f)) (suc t) v
  none_left_out t h v o q =
      let r = reached m ok f o in
      let p = numbered_prefix_le m r.later in
      let k = numbered_rooted m ok r.stage in
      let w : word_of m (numbered m r.stage) r.at ≼ word_of m (numbered m r.stage) t = rw (prefix_word m p (numbered_rooted m ok f) k t h) (≼_trans r.first q) in
      let u : r.at ≤ t = by_cases (dec_lt t r.at) (λ x. absurd (≼_not-≻ w (words_increase m k t r.at x r.inside))) (λ x. omega arith) in
      record { at = r.at; inside = omega arith; is = rw (states_row m, ← (prefix_row m r.at p (omega arith))) r.is }

  pub numbered_first_words : FirstWords m (states_of m (numbered m f))
  numbered_first_words = record {
    word = word_of m (numbered m f);
    over = λ t h. word_over m k t (rw length-map at h);
    leads = λ t h. rw (states_row m) (after_word m k t (rw length-map at h));
    before = λ t h v o q. before t (rw length-map at h) v o q;
    apart = λ t u p h. rw (states_row m (numbered m f) t, states_row m (numbered m f) u) (k.apart t u p (rw length-map at h));
  }
    where
      k : Rooted m (numbered m f)
      k = numbered_rooted m ok f

      -- row t's own word is the first that leads to it
      before : (t : ℕ) → t < length (numbered m f) → (v : Word) → Over m.letters v → v ≺ word_of m (numbered m f) t → Among m (states_of m (numbered m f)) t v
      before t h v o q = let b = none_left_out t h v o (less q) in record { at = b.at; inside = strict b; is = b.is }
        where
          strict : (b : Among m (states_of m (numbered m f)) (suc t) v) → b.at < t
          strict b =
              by_cases (dec_lt b.at t) (λ p. p)
              (λ p. let e : b.at ≡ t = omega arith in absurd (≼_not-≻ (first_word m ok f t h o (rw (e, states_row m) at (sym b.is))) q))

  pub numbered_every_state : length (numbered m f) ≤ f → EveryState m (states_of m (numbered m f))
  numbered_every_state h = record { firsts = numbered_first_words; each = rows_each m ok f h }
