-- Chains of numbered rows, newest first, whatever a row is: `bucket` is any number for each row. `links` has two parts of `buckets links` each:
-- first each bucket's newest row, then for each row the newest before it of its own bucket. A link is a row's number, or 65,535 for none.
use Rattle.std.specs.Prelude.{◌≡◌, List, ℕ, ◌+◌, ◌/◌, ◌%◌, ◌≤◌, ◌<◌, length, get_or, set}
use Rattle.std.proofs.Common.{sym, ◌∙◌, subst, arith, length-set, get_or-set_same, get_or-set_other}
use Rattle.std.proofs.Math.Logic.{by_cases}
use Rattle.std.proofs.Math.Decide.{ℕ_discrete, dec_lt}

abbrev pub buckets : List ℕ → ℕ
buckets links = length links / 2

-- of a link: the number after its row, and 0 for none
abbrev pub link_after : ℕ → ℕ
link_after v = (v + 1) % 65536

-- the link v is to a row below n of which P holds, or is none; and Q holds of no row below n that comes after it
pub record Latest (P Q : ℕ → Type 0) (n v : ℕ) : Type 0 where
  pub link : v ≤ 65535
  pub low : link_after v ≤ n
  pub has : (v ≡ 65535 → ⊥) → P v
  pub none : (s : ℕ) → link_after v ≤ s → s < n → Q s → ⊥

-- the link v is to the newest row below count of bucket b
abbrev pub Newest : (ℕ → ℕ) → ℕ → ℕ → ℕ → Type 0
Newest bucket b count v = Latest (λ s. bucket s ≡ b) (λ s. bucket s ≡ b) count v

-- each bucket's link is to its newest row below count, and such a row's to the newest before it of its bucket
pub record Chained (bucket : ℕ → ℕ) (links : List ℕ) (count : ℕ) : Type 0 where
  pub at_head : (b : ℕ) → b < buckets links → Newest bucket b count (get_or links b 0)
  pub at_next : (r : ℕ) → r < count → Newest bucket (bucket r) r (get_or links (buckets links + r) 0)

-- row r before the rows of bucket b
abbrev pub linked : List ℕ → ℕ → ℕ → List ℕ
linked links b r = set (set links (buckets links + r) (get_or links b 0)) b r

-- ---- one link

-- a link for one pair of properties is one for another
pub latest_map : {P Q P' Q' : ℕ → Type 0} {n v : ℕ}
    → ((s : ℕ) → s < n → P s → P' s) → ((s : ℕ) → s < n → Q' s → Q s) → Latest P Q n v → Latest P' Q' n v
latest_map {v = v} f g l = record {
  link = l.link;
  low = l.low;
  has = λ ne. f v (omega arith) (l.has ne);
  none = λ s a b q. l.none s a b (g s b q);
}

module _ {P Q : ℕ → Type 0} where
  -- no link where there is no row
  pub latest_none : Latest P Q 0 65535
  latest_none = record { link = omega arith; low = omega arith; has = λ ne. absurd (omega arith); none = λ s a b q. omega arith }

  -- on from the row v to the one that its own link is to
  pub latest_step : {n v w : ℕ} → Latest P Q n v → (v ≡ 65535 → ⊥) → (Q v → ⊥) → Latest P Q v w → Latest P Q n w
  latest_step {n} {v} {w} l real out k = record {
    link = k.link;
    low = omega arith;
    has = k.has;
    none = λ s a b q.
        by_cases (dec_lt s v) (λ h. k.none s a h q)
        (λ h. by_cases (ℕ_discrete s v) (λ e. out (subst Q e q)) (λ ne. l.none s (omega arith) b q));
  }

  -- one row more, of which Q does not hold
  pub latest_more : {n v : ℕ} → (Q n → ⊥) → Latest P Q n v → Latest P Q (n + 1) v
  latest_more {n} {v} out l = record {
    link = l.link;
    low = omega arith;
    has = l.has;
    none = λ s a b q. by_cases (ℕ_discrete s n) (λ e. out (subst Q e q)) (λ ne. l.none s a (omega arith) q);
  }

  -- one row more, to which the link is
  pub latest_new : {n : ℕ} → n < 65535 → P n → Latest P Q (n + 1) n
  latest_new {n} few p = record {
    link = omega arith;
    low = omega arith;
    has = λ _. p;
    none = λ s a b q. omega arith;
  }

-- ---- all links

-- no row is chained where no bucket has a link
pub none_chained : (bucket : ℕ → ℕ) (links : List ℕ) → ((b : ℕ) → b < buckets links → get_or links b 0 ≡ 65535) → Chained bucket links 0
none_chained bucket links e = record { at_head = λ b h. rw (e b h) latest_none; at_next = λ r h. absurd (omega arith) }

-- buckets from count on do not count
pub same_chained : {new old : ℕ → ℕ} {links : List ℕ} {count : ℕ} → ((s : ℕ) → s < count → new s ≡ old s) → Chained old links count → Chained new links count
same_chained same c = record {
  at_head = λ b h. latest_map (λ s l q. same s l ∙ q) (λ s l q. sym (same s l) ∙ q) (c.at_head b h);
  at_next = λ r h.
      rw (same r h)
      (latest_map (λ s l q. same s (omega arith) ∙ q) (λ s l q. sym (same s (omega arith)) ∙ q) (c.at_next r h));
}

pub linked_long : (links : List ℕ) (b r : ℕ) → buckets (linked links b r) ≡ buckets links
linked_long links b r = rw (length-set, length-set)

-- row count, whose bucket is b, is linked
module _ {bucket : ℕ → ℕ} {links : List ℕ} {count : ℕ} (b : ℕ) (c : Chained bucket links count) (few : count < 65535) (room : count < buckets links)
    (in_heads : b < buckets links) (its : bucket count ≡ b) where
  abbrev once : List ℕ
  once = set links (buckets links + count) (get_or links b 0)

  heads : (a : ℕ) → a < buckets links → Newest bucket a (count + 1) (get_or (linked links b count) a 0)
  heads a h =
      by_cases (ℕ_discrete a b)
      (λ e. rw (e, get_or-set_same once b count 0 (rw length-set (omega arith))) (latest_new few its))
      (λ ne.
      rw (get_or-set_other once b a count 0 ne, get_or-set_other links (buckets links + count) a (get_or links b 0) 0 (λ e. omega arith))
      (latest_more (λ q. ne (sym q ∙ its)) (c.at_head a h)))

  nexts : (r : ℕ) → r < count + 1 → Newest bucket (bucket r) r (get_or (linked links b count) (buckets links + r) 0)
  nexts r h =
      rw (get_or-set_other once b (buckets links + r) count 0 (λ e. omega arith))
      (by_cases (ℕ_discrete r count)
      (λ e. rw (e, get_or-set_same links (buckets links + count) (get_or links b 0) 0 (omega arith), its) (c.at_head b in_heads))
      (λ ne. rw (get_or-set_other links (buckets links + count) (buckets links + r) (get_or links b 0) 0 (λ e. ne (omega arith))) (c.at_next r (omega arith))))

  pub more_chained : Chained bucket (linked links b count) (count + 1)
  more_chained = record { at_head = λ a h. heads a (rw (linked_long links b count) at h); at_next = λ r h. rw (linked_long links b count) (nexts r h) }

-- ---- a walk along bucket b in search of a row of which Q holds, if Q holds only there

module _ {bucket : ℕ → ℕ} {links : List ℕ} {count : ℕ} (Q : ℕ → Type 0) (b : ℕ) (c : Chained bucket links count)
    (there : (s : ℕ) → s < count → Q s → bucket s ≡ b) where
  pub walk_start : b < buckets links → Latest (λ s. bucket s ≡ b) Q count (get_or links b 0)
  walk_start h = latest_map (λ s l p. p) there (c.at_head b h)

  pub walk_step : {v : ℕ} → Latest (λ s. bucket s ≡ b) Q count v → (v ≡ 65535 → ⊥) → (Q v → ⊥)
      → Latest (λ s. bucket s ≡ b) Q count (get_or links (buckets links + v) 0)
  walk_step {v} l real out =
      latest_step l real out
      (latest_map (λ s h p. p ∙ l.has real) (λ s h q. there s (omega arith) q ∙ sym (l.has real)) (c.at_next v (omega arith)))

  -- its measure
  pub walk_less : {v : ℕ} → Latest (λ s. bucket s ≡ b) Q count v → (v ≡ 65535 → ⊥) → link_after (get_or links (buckets links + v) 0) < link_after v
  walk_less {v} l real = omega (arith, l.low, l.link, (c.at_next v (omega arith)).low)
