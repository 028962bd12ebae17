-- The atoms' kinds among the node codes, one code after another. Assumes nothing.
use mathlib.Core.Path.{◌≡◌, refl, sym, ap, ◌∙◌}
use mathlib.Core.Bool.{true, false, cond, not}
use mathlib.Core.List.{List, [], ◌∷◌, ◌++◌, map, map-append, append-nil}
use Prim.Native.Nat.{ℕ, ◌+◌, ◌≤◌, ◌<◌}
use native.Mathlib.Omega.{arith}
use native.Mathlib.Numerals.{add-one}
use lib.Dec.{T}
use lib.ListN.{length, get_or, take, drop, set, take-append-drop, length-append}
use lib.Seq.{take-suc}
use Rattle.scope.specs.Question.{Node, unused, atom, node_of, code_of, is_unused, is_atom, kinds_of}
use Rattle.theory.specs.Wire.Records.{code_of_node}
use Rattle.theory.specs.Wire.Noting.{kinds_append}
use Rattle.step.specs.Eight.{padded, padded_next}
use Rattle.step.specs.Cells.{kind_code, kind_codes}

codes_append : (xs ys : List ℕ) → kind_codes (xs ++ ys) ≡ kind_codes xs ++ kind_codes ys
unfolding kind_codes
codes_append xs ys = rw (map-append node_of xs ys, kinds_append (map node_of xs) (map node_of ys), map-append kind_code (kinds_of (map node_of xs)) (kinds_of (map node_of ys)))

-- one node
node_kinds : (x : Node) → (map kind_code (kinds_of (x ∷ [])) ≡ cond (is_atom x) (code_of x ∷ []) []) × (T (is_atom x) → T (not (is_unused x)))
unfolding kinds_of
node_kinds unused = (refl, λ t. t)
node_kinds (atom κ) = (refl, λ t. t)
node_kinds Node.not = (refl, λ t. tt)
node_kinds Node.and = (refl, λ t. tt)
node_kinds Node.or = (refl, λ t. tt)

-- one code
code_yes : (c : ℕ) → is_atom (node_of c) ≡ true → kind_codes (c ∷ []) ≡ c ∷ []
unfolding kind_codes
code_yes c e = rw ((node_kinds (node_of c)).0, e) (ap (λ (k : ℕ). k ∷ []) (code_of_node c ((node_kinds (node_of c)).1 (rw e tt))))

code_no : (c : ℕ) → is_atom (node_of c) ≡ false → kind_codes (c ∷ []) ≡ []
unfolding kind_codes
code_no c e = rw ((node_kinds (node_of c)).0, e) refl

module _ (codes : List ℕ) (i : ℕ) (h : i < length codes) where
  codes_next : kind_codes (take (i + 1) codes) ≡ kind_codes (take i codes) ++ kind_codes (get_or codes i 0 ∷ [])
  codes_next = rw (add-one i, take-suc codes i 0) (codes_append (take i codes) (get_or codes i 0 ∷ []))

  next_no : is_atom (node_of (get_or codes i 0)) ≡ false → kind_codes (take (i + 1) codes) ≡ kind_codes (take i codes)
  next_no e = codes_next ∙ rw (code_no (get_or codes i 0) e) (append-nil (kind_codes (take i codes)))

  module _ (y : is_atom (node_of (get_or codes i 0)) ≡ true) where
    next_yes : kind_codes (take (i + 1) codes) ≡ kind_codes (take i codes) ++ (get_or codes i 0 ∷ [])
    next_yes = codes_next ∙ rw (code_yes (get_or codes i 0) y)

    length_next : length (kind_codes (take (i + 1) codes)) ≡ length (kind_codes (take i codes)) + 1
    length_next = rw next_yes (length-append (kind_codes (take i codes)) (get_or codes i 0 ∷ []))

    -- there is room for another kind where there is room for all
    room : length (kind_codes codes) ≤ 8 → length (kind_codes (take i codes)) < 8
    room few = omega (arith, length_next, all)
      where
        all : length (kind_codes codes) ≡ length (kind_codes (take (i + 1) codes)) + length (kind_codes (drop (i + 1) codes))
        all = ap (λ (k : List ℕ). length (kind_codes k)) (sym (take-append-drop (i + 1) codes))
            ∙ ap length (codes_append (take (i + 1) codes) (drop (i + 1) codes))
            ∙ length-append (kind_codes (take (i + 1) codes)) (kind_codes (drop (i + 1) codes))

-- the kinds of the first i codes, in the array
pub record KindsNoted (codes : List ℕ) (i : ℕ) (kinds : List ℕ) (m : ℕ) : Type 0 where
  pub kinds_are : kinds ≡ padded 0 (kind_codes (take i codes))
  pub count : m ≡ length (kind_codes (take i codes))

pub noted_none : (codes : List ℕ) → KindsNoted codes 0 (padded 0 []) 0
unfolding kind_codes kinds_of
noted_none [] = record { kinds_are = refl; count = refl }
noted_none (c ∷ codes) = record { kinds_are = refl; count = refl }

module _ {codes : List ℕ} {i : ℕ} {kinds : List ℕ} {m : ℕ} (s : KindsNoted codes i kinds m) (h : i < length codes) where
  pub kind_passed : is_atom (node_of (get_or codes i 0)) ≡ false → KindsNoted codes (i + 1) kinds m
  kind_passed n =
      let e = next_no codes i h n in
      record { kinds_are = rw e s.kinds_are; count = rw e s.count }

  module _ (y : is_atom (node_of (get_or codes i 0)) ≡ true) (few : length (kind_codes codes) ≤ 8) where
    pub below_eight : m < 8
    below_eight = rw s.count (room codes i h y few)

    pub kind_noted : KindsNoted codes (i + 1) (set kinds m (get_or codes i 0)) (m + 1)
    kind_noted =
        let c = get_or codes i 0 in
        let ks = kind_codes (take i codes) in
        record {
          kinds_are = rw (s.kinds_are, s.count, next_yes codes i h y) (padded_next 0 c ks (room codes i h y few));
          count = rw s.count (sym (length_next codes i h y));
        }
