-- Two machines that do the same under a map of states are numbered alike: where h takes the good states of m to states of m' and
-- the two agree there, the rows of m' are the rows of m with h at each state, and words, verdicts, numbers and tables are the same.
use Prim.Native.Nat.{ℕ, zero, suc, ◌+◌, ◌≤◌, ◌<◌}
use Rattle.std.specs.Prelude.{◌≡◌, Bool, length, take}
use Rattle.std.proofs.Math.Path.{refl, sym, ap, ap₂}
use Rattle.std.proofs.Common.{◌∙◌}
use Rattle.std.proofs.Math.Bool.{true, false, cond, ◌||◌}
use mathlib.Core.List.{List, [], ◌∷◌, ◌++◌, map, map-map, map-append}
use native.Mathlib.Omega.{arith}
use Rattle.std.proofs.Math.ListN.{length-map, get_or-map}
use Rattle.scope.specs.Whole.{joined}
use Rattle.scope.specs.Numbering.{Machine, Row, Rows, start_row, row, has, added_if, tried, tried_all, expanded_if, numbered, first_if, first_accepting, number_if, number_of, word_within, word_of}
use Rattle.scope.specs.Deciding.{Verdict, found, never, no_room, verdict, counted}
use Rattle.scope.specs.Building.{next_states, table_row, table_cells}
use Rattle.theory.specs.Machine.Exploring.{partial}

-- m' does at h s what m does at s, for every s that is good; the start is, and steps keep it
pub record Simulates {S S' : Type 0} (m : Machine S) (m' : Machine S') (h : S → S') (Good : S → Type 0) : Type 0 where
  pub letters : m'.letters ≡ m.letters
  pub start : m'.start ≡ h m.start
  pub good_start : Good m.start
  pub good_step : (s : S) → Good s → (a : ℕ) → a < m.letters → Good (m.step s a)
  pub step : (s : S) → Good s → (a : ℕ) → a < m.letters → m'.step (h s) a ≡ h (m.step s a)
  pub accepts : (s : S) → Good s → m'.accepts (h s) ≡ m.accepts s
  pub same : (s t : S) → Good s → Good t → m'.same (h s) (h t) ≡ m.same s t

abbrev pub row_map : {S S' : Type 0} → (S → S') → Row S → Row S'
row_map h r = record { state = h r.state; from = r.from; letter = r.letter }

abbrev pub rows_map : {S S' : Type 0} → (S → S') → Rows S → Rows S'
rows_map h l = map (row_map h) l

pub data AllGood {S : Type 0} (Good : S → Type 0) : Rows S → Type 0 where
  good-[] : AllGood Good []
  good-∷ : {r : Row S} {l : Rows S} → Good r.state → AllGood Good l → AllGood Good (r ∷ l)

module _ {S : Type 0} {Good : S → Type 0} where
  good_snoc : {l : Rows S} → AllGood Good l → (r : Row S) → Good r.state → AllGood Good (l ++ (r ∷ []))
  good_snoc good-[] r g = good-∷ g good-[]
  good_snoc (good-∷ f k) r g = good-∷ f (good_snoc k r g)

  good_take : (n : ℕ) {l : Rows S} → AllGood Good l → AllGood Good (take n l)
  good_take zero good-[] = good-[]
  good_take zero (good-∷ f k) = good-[]
  good_take (suc n) good-[] = good-[]
  good_take (suc n) (good-∷ f k) = good-∷ f (good_take n k)

-- a good row, by its number
pub good_at : {S : Type 0} {Good : S → Type 0} (m : Machine S) {l : Rows S} → AllGood Good l → (t : ℕ) → t < length l → Good (row m l t).state
good_at m good-[] t h = absurd (omega arith)
good_at m (good-∷ k ks) zero h = k
good_at m (good-∷ k ks) (suc t) h = good_at m ks t (omega arith)

take_map : {A B : Type 0} (f : A → B) (n : ℕ) (l : List A) → take n (map f l) ≡ map f (take n l)
take_map f zero [] = refl
take_map f zero (x ∷ l) = refl
take_map f (suc n) [] = refl
take_map f (suc n) (x ∷ l) = ap (λ k. f x ∷ k) (take_map f n l)

-- ---- what holds of any rows and any map of states

module _ {S S' : Type 0} (h : S → S') where
  counted_maps : (v : Verdict) (r : ℕ) (l : Rows S) → counted v r (rows_map h l) ≡ rows_map h (counted v r l)
  counted_maps (found w) r l = take_map (row_map h) (suc w) l
  counted_maps never r l = refl
  counted_maps no_room r l = take_map (row_map h) r l

  -- what a row's state, or where it came from, is written as
  pub states_map : {X : Type 0} (g : S' → X) (l : Rows S) → map (λ (r : Row S'). g r.state) (rows_map h l) ≡ map (λ (r : Row S). g (h r.state)) l
  states_map g l = map-map (λ (r : Row S'). g r.state) (row_map h) l

  pub paths_map : {X : Type 0} (g : ℕ → ℕ → X) (l : Rows S) → map (λ (r : Row S'). g r.from r.letter) (rows_map h l) ≡ map (λ (r : Row S). g r.from r.letter) l
  paths_map g l = map-map (λ (r : Row S'). g r.from r.letter) (row_map h) l

-- ---- the rows of two machines

module _ {S S' : Type 0} {m : Machine S} {m' : Machine S'} {h : S → S'} {Good : S → Type 0} (k : Simulates m m' h Good) where
  good_row : {l : Rows S} → AllGood Good l → (t : ℕ) → Good (row m l t).state
  unfolding start_row
  good_row good-[] zero = k.good_start
  good_row good-[] (suc t) = k.good_start
  good_row (good-∷ f g) zero = f
  good_row (good-∷ f g) (suc t) = good_row g t

  start_maps : start_row m' ≡ row_map h (start_row m)
  unfolding start_row
  start_maps = rw k.start

  pub row_maps : (l : Rows S) (t : ℕ) → row m' (rows_map h l) t ≡ row_map h (row m l t)
  row_maps l t = rw start_maps (get_or-map (row_map h) l t (start_row m))

  has_maps : {l : Rows S} → AllGood Good l → (s : S) → Good s → has m' (rows_map h l) (h s) ≡ has m l s
  unfolding has
  has_maps good-[] s e = refl
  has_maps (good-∷ f g) s e = ap₂ ◌||◌ (k.same _ s f e) (has_maps g s e)

  added_if_maps : (b : Bool) (l : Rows S) (r : Row S) → added_if m' b (rows_map h l) (row_map h r) ≡ rows_map h (added_if m b l r)
  unfolding added_if
  added_if_maps true l r = refl
  added_if_maps false l r = sym (map-append (row_map h) l (r ∷ []))

  added_if_good : (b : Bool) {l : Rows S} → AllGood Good l → (r : Row S) → Good r.state → AllGood Good (added_if m b l r)
  unfolding added_if
  added_if_good true g r f = g
  added_if_good false g r f = good_snoc g r f

  module _ (i a : ℕ) (p : a < m.letters) {l : Rows S} (g : AllGood Good l) where
    good_target : Good (m.step (row m l i).state a)
    good_target = k.good_step _ (good_row g i) a p

    target_maps : m'.step (row m' (rows_map h l) i).state a ≡ h (m.step (row m l i).state a)
    target_maps = rw (row_maps l i) (k.step _ (good_row g i) a p)

    tried_good : AllGood Good (tried m l i a)
    unfolding tried
    tried_good = added_if_good _ g _ good_target

    tried_maps : tried m' (rows_map h l) i a ≡ rows_map h (tried m l i a)
    unfolding tried
    tried_maps = rw (target_maps, has_maps g _ good_target) (added_if_maps _ l _)

  tried_all_good : (i a n : ℕ) → a + n ≤ m.letters → {l : Rows S} → AllGood Good l → AllGood Good (tried_all m l i a n)
  unfolding tried_all
  tried_all_good i a zero p g = g
  tried_all_good i a (suc n) p g = tried_all_good i (suc a) n (omega arith) (tried_good i a (omega arith) g)

  tried_all_maps : (i a n : ℕ) → a + n ≤ m.letters → {l : Rows S} → AllGood Good l → tried_all m' (rows_map h l) i a n ≡ rows_map h (tried_all m l i a n)
  unfolding tried_all
  tried_all_maps i a zero p g = refl
  tried_all_maps i a (suc n) p g =
      let q : a < m.letters = omega arith in
      rw (tried_maps i a q g) (tried_all_maps i (suc a) n (omega arith) (tried_good i a q g))

  all_letters : 0 + m.letters ≤ m.letters
  all_letters = omega arith

  expanded_if_good : (b : Bool) (i : ℕ) {l : Rows S} → AllGood Good l → AllGood Good (expanded_if m b l i)
  unfolding expanded_if
  expanded_if_good true i g = g
  expanded_if_good false i g = tried_all_good i 0 m.letters all_letters g

  expanded_if_maps : (b : Bool) (i : ℕ) {l : Rows S} → AllGood Good l → expanded_if m' b (rows_map h l) i ≡ rows_map h (expanded_if m b l i)
  unfolding expanded_if
  expanded_if_maps true i g = refl
  expanded_if_maps false i {l} g = ap (tried_all m' (rows_map h l) i 0) k.letters ∙ tried_all_maps i 0 m.letters all_letters g

  numbered_good : (f : ℕ) → AllGood Good (numbered m f)
  unfolding numbered
  numbered_good zero = good-∷ (good_row good-[] 0) good-[]
  numbered_good (suc f) = expanded_if_good _ f (numbered_good f)

  pub numbered_maps : (f : ℕ) → numbered m' f ≡ rows_map h (numbered m f)
  unfolding numbered
  numbered_maps zero = rw start_maps
  numbered_maps (suc f) = rw (numbered_maps f, length-map (numbered m f) (row_map h)) (expanded_if_maps _ f (numbered_good f))

  -- in the middle of a row too
  pub partial_good : (i a : ℕ) → a ≤ m.letters → AllGood Good (partial m i a)
  partial_good i a p = tried_all_good i 0 a (omega arith) (numbered_good i)

  -- ---- what is read off any good rows: the verdict, words, numbers, and the table

  first_maps : {l : Rows S} → AllGood Good l → first_accepting m' (rows_map h l) ≡ first_accepting m l
  unfolding first_accepting
  first_maps good-[] = refl
  first_maps (good-∷ f g) = ap₂ first_if (k.accepts _ f) (first_maps g)

  verdict_maps : (r : ℕ) {l : Rows S} → AllGood Good l → verdict m' r (rows_map h l) ≡ verdict m r l
  unfolding verdict
  verdict_maps r {l} g = rw (take_map (row_map h) r l, length-map l (row_map h), first_maps (good_take r g))

  word_within_maps : (l : Rows S) (n t : ℕ) → word_within m' (rows_map h l) n t ≡ word_within m l n t
  unfolding word_within
  word_within_maps l zero zero = refl
  word_within_maps l zero (suc t) = refl
  word_within_maps l (suc n) zero = refl
  word_within_maps l (suc n) (suc t) = rw (row_maps l (suc t), word_within_maps l n (row m l (suc t)).from)

  word_maps : (l : Rows S) (t : ℕ) → word_of m' (rows_map h l) t ≡ word_of m l t
  unfolding word_of
  word_maps l t = word_within_maps l t t

  number_maps : {l : Rows S} → AllGood Good l → (s : S) → Good s → number_of m' (rows_map h l) (h s) ≡ number_of m l s
  unfolding number_of
  number_maps good-[] s e = refl
  number_maps (good-∷ f g) s e = ap₂ number_if (k.same _ s f e) (number_maps g s e)

  module _ {l : Rows S} (g : AllGood Good l) where
    next_maps : (s : S) → Good s → (a count : ℕ) → a + count ≤ m.letters → next_states m' (rows_map h l) (h s) a count ≡ next_states m l s a count
    unfolding next_states
    next_maps s e a zero p = refl
    next_maps s e a (suc count) p =
        let q : a < m.letters = omega arith in
        ap₂ ◌∷◌ (ap (number_of m' (rows_map h l)) (k.step s e a q) ∙ number_maps g _ (k.good_step s e a q)) (next_maps s e (suc a) count (omega arith))

    table_row_maps : (r : Row S) → Good r.state → table_row m' (rows_map h l) (row_map h r) ≡ table_row m l r
    unfolding table_row
    table_row_maps r e =
        ap₂ ◌∷◌ (ap (λ b. cond b 1 0) (k.accepts _ e))
        (ap (next_states m' (rows_map h l) (h r.state) 0) k.letters ∙ next_maps r.state e 0 m.letters all_letters)

    table_rows_map : {l' : Rows S} → AllGood Good l' → map (table_row m' (rows_map h l)) (rows_map h l') ≡ map (table_row m l) l'
    table_rows_map good-[] = refl
    table_rows_map (good-∷ f e) = ap₂ ◌∷◌ (table_row_maps _ f) (table_rows_map e)

    table_maps : table_cells m' (rows_map h l) ≡ table_cells m l
    unfolding table_cells
    table_maps = ap joined (table_rows_map g)

  -- ---- and so of the numbered rows

  module _ (f : ℕ) where
    pub same_length : length (numbered m' f) ≡ length (numbered m f)
    same_length = ap length (numbered_maps f) ∙ length-map (numbered m f) (row_map h)

    pub same_verdict : (r : ℕ) → verdict m' r (numbered m' f) ≡ verdict m r (numbered m f)
    same_verdict r = rw (numbered_maps f) (verdict_maps r (numbered_good f))

    pub same_word : (t : ℕ) → word_of m' (numbered m' f) t ≡ word_of m (numbered m f) t
    same_word t = rw (numbered_maps f) (word_maps (numbered m f) t)

    pub same_counted : (v : Verdict) (r : ℕ) → counted v r (numbered m' f) ≡ rows_map h (counted v r (numbered m f))
    same_counted v r = rw (numbered_maps f) (counted_maps h v r (numbered m f))

    pub same_number : (s : S) → Good s → number_of m' (numbered m' f) (h s) ≡ number_of m (numbered m f) s
    same_number s g = rw (numbered_maps f) (number_maps (numbered_good f) s g)

    pub same_table : table_cells m' (numbered m' f) ≡ table_cells m (numbered m f)
    same_table = rw (numbered_maps f) (table_maps (numbered_good f))
