-- Declarations as they are kept: their names, one more behind them, one of them signed.
use Prim.Native.Nat.{ℕ, zero, suc, ◌+◌, ◌≤◌, ◌<◌}
use Rattle.std.proofs.Common.{add-zero, arith, sym, ap, ◌∙◌, true≢false}
use Rattle.std.specs.Prelude.{◌≡◌, Bool, true, false, cond, ◌||◌, length}
use Rattle.std.proofs.Math.Path.{refl}
use Rattle.std.proofs.Math.Option.{some, some-injective, none-ne-some}
use mathlib.Core.List.{List, [], ◌∷◌, ◌++◌, append_assoc, append-nil}
use Rattle.smtlib.specs.Spelling.{same, is_in}
use Rattle.smtlib.specs.Terms.{index_from}
use Rattle.smtlib.specs.Script.{unless, Declaration, Script, names_of, signed_as, unsigned}
use Rattle.smtlib.specs.Names.{same→eq, Distinct}
use Rattle.terms.specs.Names.{name_at, names_from, names_in}
use Rattle.script.specs.declared.Kept.{Kept}
use Rattle.script.specs.Kept.{declaration_at, declarations_from, declarations_in, Keeps}

-- ---- their names

names_from_lem : (text : List ℕ) (k : Kept) (i n : ℕ) → names_of (declarations_from (λ j. declaration_at text k j) i n) ≡ names_from text k.bounds i n
unfolding declarations_from names_from
names_from_lem text k i zero = refl
names_from_lem text k i (suc n) = ap (λ (l : List (List ℕ)). name_at text k.bounds i ∷ l) (names_from_lem text k (suc i) n)

pub declared_names_lem : (text : List ℕ) (k : Kept) → names_of (declarations_in text k) ≡ names_in text k.bounds k.count
declared_names_lem text k = names_from_lem text k 0 k.count

-- ---- one by one

pub declared_count : (d : ℕ → Declaration) (i n : ℕ) → length (declarations_from d i n) ≡ n
unfolding declarations_from
declared_count d i zero = refl
declared_count d i (suc n) = ap suc (declared_count d (suc i) n)

pub declared_alike : (d e : ℕ → Declaration) (i n : ℕ) → ((j : ℕ) → i ≤ j → j < i + n → d j ≡ e j) → declarations_from d i n ≡ declarations_from e i n
unfolding declarations_from
declared_alike d e i zero h = refl
declared_alike d e i (suc n) h = λ t. h i (omega arith) (omega arith) t ∷ declared_alike d e (suc i) n (λ j l m. h j (omega arith) (omega arith)) t

pub declared_more : (d : ℕ → Declaration) (i n : ℕ) → declarations_from d i (suc n) ≡ declarations_from d i n ++ (d (i + n) ∷ [])
unfolding declarations_from
declared_more d i zero = rw add-zero
declared_more d i (suc n) =
    let e : suc i + n ≡ i + suc n = omega arith in
    ap (λ (l : List Declaration). d i ∷ l) (declared_more d (suc i) n ∙ ap (λ (m : ℕ). declarations_from d (suc i) n ++ (d m ∷ [])) e)

-- ---- those without a sign assertion

unsigned_append : (k l : List Declaration) → unsigned (k ++ l) ≡ unsigned k ++ unsigned l
unfolding unsigned
unsigned_append [] l = refl
unsigned_append (d ∷ k) l = ap (λ (m : List ℕ). unless d.signed d.place ++ m) (unsigned_append k l) ∙ sym (append_assoc (unless d.signed d.place) (unsigned k) (unsigned l))

pub unsigned_more : (d : ℕ → Declaration) (n : ℕ) → unsigned (declarations_from d 0 (suc n)) ≡ unsigned (declarations_from d 0 n) ++ unless (d n).signed (d n).place
unfolding unsigned
unsigned_more d n =
    let e : 0 + n ≡ n = omega arith in
    ap unsigned (declared_more d 0 n ∙ ap (λ (m : ℕ). declarations_from d 0 n ++ (d m ∷ [])) e) ∙ unsigned_append (declarations_from d 0 n) (d n ∷ [])
    ∙ ap (λ (l : List ℕ). unsigned (declarations_from d 0 n) ++ l) (append-nil (unless (d n).signed (d n).place))

-- ---- one signed, by its number

-- a declaration with its sign assertion
abbrev pub with_sign : Declaration → Declaration
with_sign d = record { name = d.name; place = d.place; name_place = d.name_place; signed = true }

neither : (a b : Bool) → a || b ≡ false → (a ≡ false) × (b ≡ false)
neither true b e = absurd (true≢false e)
neither false b e = (refl, e)

-- a name that is not there changes nothing
sign_nowhere : (w : List ℕ) (ds : List Declaration) → is_in w (names_of ds) ≡ false → signed_as w ds ≡ ds
unfolding signed_as is_in
sign_nowhere w [] e = refl
sign_nowhere w (d ∷ ds) e =
    let f = neither (same w d.name) (is_in w (names_of ds)) e in
    rw (f.0, sign_nowhere w ds f.1)

index_least : (i : ℕ) (w : List ℕ) (names : List (List ℕ)) (j : ℕ) → index_from i w names ≡ some j → i ≤ j
unfolding index_from
index_least i w [] j e = absurd (none-ne-some j e)
index_least i w (u ∷ names) j e = go (same w u) e (index_least (suc i) w names j)
  where
    go : (t : Bool) → cond t (some i) (index_from (suc i) w names) ≡ some j → (index_from (suc i) w names ≡ some j → suc i ≤ j) → i ≤ j
    go true e later = let k : i ≡ j = some-injective i j e in omega arith
    go false e later = let k : suc i ≤ j = later e in omega arith

module _ (w : List ℕ) (d e : ℕ → Declaration) (at : ℕ) (signed_one : e at ≡ with_sign (d at)) (others : (j : ℕ) → (j ≡ at → ⊥) → e j ≡ d j) where
  pub declared_signed : (i n : ℕ) → Distinct (names_of (declarations_from d i n)) → index_from i w (names_of (declarations_from d i n)) ≡ some at
      → signed_as w (declarations_from d i n) ≡ declarations_from e i n
  unfolding declarations_from index_from signed_as
  declared_signed i zero distinct found = refl
  declared_signed i (suc n) distinct found = go (same w (d i).name) refl found (declared_signed (suc i) n distinct.1)
    where
      rest : List Declaration
      rest = declarations_from d (suc i) n

      go : (t : Bool) → same w (d i).name ≡ t → cond t (some i) (index_from (suc i) w (names_of rest)) ≡ some at
          → (index_from (suc i) w (names_of rest) ≡ some at → signed_as w rest ≡ declarations_from e (suc i) n)
          → record { name = (d i).name; place = (d i).place; name_place = (d i).name_place; signed = cond t true (d i).signed } ∷ signed_as w rest ≡ e i ∷ declarations_from e (suc i) n
      go true s f later =
          let here : i ≡ at = some-injective i at f in
          let alone : is_in w (names_of rest) ≡ false = ap (λ (u : List ℕ). is_in u (names_of rest)) (same→eq w (d i).name s) ∙ distinct.0 in
          let alike : rest ≡ declarations_from e (suc i) n = declared_alike d e (suc i) n (λ j l m. sym (others j (λ g. let z : ⊥ = omega arith in z))) in
          let first : with_sign (d i) ≡ e i = ap (λ (j : ℕ). with_sign (d j)) here ∙ sym signed_one ∙ ap e (sym here) in
          λ t. first t ∷ (sign_nowhere w rest alone ∙ alike) t
      go false s f later =
          let least : suc i ≤ at = index_least (suc i) w (names_of rest) at f in
          λ t. sym (others i (λ g. let z : ⊥ = omega arith in z)) t ∷ later f t

-- ---- those of a script that is kept

module _ {text : List ℕ} {s : Script} {k : Kept} (keeps : Keeps text s k) where
  pub kept_count : length s.declarations ≡ k.count
  kept_count = ap length keeps.declarations_are ∙ declared_count (λ i. declaration_at text k i) 0 k.count

  pub kept_names : names_of s.declarations ≡ names_in text k.bounds k.count
  kept_names = ap names_of keeps.declarations_are ∙ declared_names_lem text k
