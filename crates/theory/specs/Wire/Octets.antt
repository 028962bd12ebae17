-- Bytes: two bytes and a number, four bytes and a signed number, each the other way round; a run of numbers; bytes from a place on.
use Rattle.std.specs.Prelude.{◌≡◌, refl, List, [], ◌∷◌, ◌++◌, map, ℕ, zero, suc, ◌+◌, ◌*◌, ◌/◌, ◌%◌, ◌≤◌, ◌<◌, length, get_or, take, drop, ℤ}
use Rattle.std.proofs.Common.{sym, ap, ◌∙◌, add_assoc, arith, get_or-drop, to_z, of_z, SFits}
use Rattle.std.proofs.Math.Nat.{div-div-eq-div-mul}
use Rattle.std.specs.Int.{w32}
use mir.ValLaws.{to_z-of_z, of_z-to_z}
use Rattle.std.proofs.Math.Facts.{Fits-of_z}
use Rattle.scope.specs.Whole.{joined}
use Rattle.scope.specs.Wire.{two_at, number_at, numbers_at}
use Rattle.scope.specs.Writing.{two_bytes, number_bytes}

-- every element is a byte
abbrev pub Octets : List ℕ → Type 0
Octets [] = Unit {0}
Octets (x ∷ l) = (x < 256) × Octets l

pub octets_append : (l k : List ℕ) → Octets l → Octets k → Octets (l ++ k)
octets_append [] k h g = g
octets_append (x ∷ l) k h g = (h.0, octets_append l k h.1 g)

pub octets_drop : (n : ℕ) (l : List ℕ) → Octets l → Octets (drop n l)
octets_drop zero l h = h
octets_drop (suc n) [] h = h
octets_drop (suc n) (x ∷ l) h = octets_drop n l h.1

-- ---- two bytes

pub two_read : (v : ℕ) → v < 65536 → v % 256 + 256 * (v / 256 % 256) ≡ v
two_read v h = omega arith

two_low : (x y : ℕ) → x < 256 → (x + 256 * y) % 256 ≡ x
two_low x y h = omega arith

two_high : (x y : ℕ) → x < 256 → y < 256 → (x + 256 * y) / 256 % 256 ≡ y
two_high x y h g = omega arith

pub two_written : (x y : ℕ) → x < 256 → y < 256 → two_bytes (x + 256 * y) ≡ x ∷ y ∷ []
two_written x y h g = ap₂_list (two_low x y h) (two_high x y h g)
  where
    ap₂_list : {a b c d : ℕ} → a ≡ c → b ≡ d → ◌≡◌ {A = List ℕ} (a ∷ b ∷ []) (c ∷ d ∷ [])
    ap₂_list p r i = p i ∷ r i ∷ []

pub two_octets : (v : ℕ) → Octets (two_bytes v)
two_octets v = (omega arith, (omega arith, tt))

-- ---- four bytes

-- four bytes as one number
abbrev pub four_bytes : ℕ → ℕ → ℕ → ℕ → ℕ
four_bytes x y u v = x + 256 * y + 65536 * (u + 256 * v)

div_twice : (v : ℕ) → v / 65536 ≡ v / 256 / 256
div_twice v = sym (div-div-eq-div-mul v 256 256)

div_thrice : (v : ℕ) → v / 16777216 ≡ v / 256 / 256 / 256
div_thrice v = sym (ap (λ (k : ℕ). k / 256) (div-div-eq-div-mul v 256 256) ∙ div-div-eq-div-mul v 65536 256)

four_read : (v : ℕ) → v < 4294967296 → four_bytes (v % 256) (v / 256 % 256) (v / 65536 % 256) (v / 16777216 % 256) ≡ v
four_read v h = rw (div_twice v, div_thrice v) (omega arith)

module _ (x y u v : ℕ) (hx : x < 256) (hy : y < 256) (hu : u < 256) (hv : v < 256) where
  four_fits : four_bytes x y u v < 4294967296
  four_fits = omega arith

  shift_one : four_bytes x y u v / 256 ≡ y + 256 * (u + 256 * v)
  shift_one = omega arith

  shift_two : four_bytes x y u v / 65536 ≡ u + 256 * v
  shift_two = omega arith

  shift_three : four_bytes x y u v / 16777216 ≡ v
  shift_three = omega arith

  four_written : ◌≡◌ {A = List ℕ}
      (four_bytes x y u v % 256 ∷ four_bytes x y u v / 256 % 256 ∷ four_bytes x y u v / 65536 % 256 ∷ four_bytes x y u v / 16777216 % 256 ∷ [])
      (x ∷ y ∷ u ∷ v ∷ [])
  four_written = list_path (omega arith) (rw shift_one (omega arith)) (rw shift_two (omega arith)) (rw shift_three (omega arith))
    where
      list_path : {a b c d : ℕ} → a ≡ x → b ≡ y → c ≡ u → d ≡ v → ◌≡◌ {A = List ℕ} (a ∷ b ∷ c ∷ d ∷ []) (x ∷ y ∷ u ∷ v ∷ [])
      list_path p q r s i = p i ∷ q i ∷ r i ∷ s i ∷ []

  -- the bytes of the number that four bytes are
  pub bytes_of_number : number_bytes (to_z w32 (four_bytes x y u v)) ≡ x ∷ y ∷ u ∷ v ∷ []
  bytes_of_number = ap bytes (of_z-to_z w32 (four_bytes x y u v) (record { fits = four_fits })) ∙ four_written
    where
      bytes : ℕ → List ℕ
      bytes n = n % 256 ∷ n / 256 % 256 ∷ n / 65536 % 256 ∷ n / 16777216 % 256 ∷ []

-- the number that the bytes of a number are
pub number_of_bytes : (z : ℤ) → SFits w32 z → (rest : List ℕ) → number_at (number_bytes z ++ rest) 0 ≡ z
number_of_bytes z f rest = ap (to_z w32) (four_read (of_z w32 z) (Fits-of_z f).fits) ∙ to_z-of_z w32 z f

pub number_octets : (z : ℤ) → Octets (number_bytes z)
number_octets z = (omega arith, (omega arith, (omega arith, (omega arith, tt))))

-- ---- bytes from a place on

pub two_drop : (b : List ℕ) (at i : ℕ) → two_at (drop at b) i ≡ two_at b (at + i)
two_drop b at i = simp (get_or-drop, add_assoc)

pub number_drop : (b : List ℕ) (at i : ℕ) → number_at (drop at b) i ≡ number_at b (at + i)
number_drop b at i =
    let e : two_at (drop at b) i + 65536 * two_at (drop at b) (i + 2) ≡ two_at b (at + i) + 65536 * two_at b (at + i + 2) = simp (get_or-drop, add_assoc) in
    ap (to_z w32) e

pub numbers_drop : (count : ℕ) (b : List ℕ) (at i : ℕ) → numbers_at count (drop at b) i ≡ numbers_at count b (at + i)
unfolding numbers_at
numbers_drop zero b at i = refl
numbers_drop (suc count) b at i = list_path (number_drop b at i) (numbers_drop count b at (i + 4) ∙ ap (numbers_at count b) (omega arith))
  where
    list_path : {x y : ℤ} {l k : List ℤ} → x ≡ y → l ≡ k → x ∷ l ≡ y ∷ k
    list_path p q i = p i ∷ q i

-- ---- a run of numbers

pub number_in : (count : ℕ) (b : List ℕ) (at j : ℕ) (d : ℤ) → j < count → get_or (numbers_at count b at) j d ≡ number_at b (at + 4 * j)
unfolding numbers_at
number_in zero b at j d h = absurd (omega arith)
number_in (suc count) b at zero d h = let z : at + 4 * 0 ≡ at = omega arith in rw z
number_in (suc count) b at (suc j) d h = let z : at + 4 * suc j ≡ at + 4 + 4 * j = omega arith in rw z (number_in count b (at + 4) j d (omega arith))

pub numbers_length : (count : ℕ) (b : List ℕ) (at : ℕ) → length (numbers_at count b at) ≡ count
unfolding numbers_at
numbers_length zero b at = refl
numbers_length (suc count) b at = ap suc (numbers_length count b (at + 4))

-- each fits in four bytes
abbrev pub Fit : List ℤ → Type 0
Fit [] = Unit {0}
Fit (z ∷ zs) = SFits w32 z × Fit zs

pub run_length : (zs : List ℤ) → length (joined (map number_bytes zs)) ≡ 4 * length zs
unfolding joined
run_length [] = refl
run_length (z ∷ zs) = omega (arith, run_length zs)

pub run_octets : (zs : List ℤ) → Octets (joined (map number_bytes zs))
unfolding joined
run_octets [] = tt
run_octets (z ∷ zs) = octets_append (number_bytes z) (joined (map number_bytes zs)) (number_octets z) (run_octets zs)

pub numbers_of_bytes : (zs : List ℤ) → Fit zs → (rest : List ℕ) → numbers_at (length zs) (joined (map number_bytes zs) ++ rest) 0 ≡ zs
unfolding numbers_at joined
numbers_of_bytes [] f rest = refl
numbers_of_bytes (z ∷ zs) f rest =
    let later : List ℕ = joined (map number_bytes zs) ++ rest in
    list_path (number_of_bytes z f.0 later)
    (sym (numbers_drop (length zs) (number_bytes z ++ later) 4 0) ∙ numbers_of_bytes zs f.1 rest)
  where
    list_path : {x y : ℤ} {l k : List ℤ} → x ≡ y → l ≡ k → x ∷ l ≡ y ∷ k
    list_path p q i = p i ∷ q i

pub bytes_of_numbers : (count : ℕ) (l : List ℕ) → Octets l → 4 * count ≤ length l → joined (map number_bytes (numbers_at count l 0)) ≡ take (4 * count) l
unfolding numbers_at joined
bytes_of_numbers zero l o h = refl
bytes_of_numbers (suc count) [] o h = absurd (omega arith)
bytes_of_numbers (suc count) (x ∷ []) o h = absurd (omega arith)
bytes_of_numbers (suc count) (x ∷ y ∷ []) o h = absurd (omega arith)
bytes_of_numbers (suc count) (x ∷ y ∷ u ∷ []) o h = absurd (omega arith)
bytes_of_numbers (suc count) (x ∷ y ∷ u ∷ v ∷ l) o h =
    let four_more : 4 * suc count ≡ suc (suc (suc (suc (4 * count)))) = omega arith in
    rw four_more
    (join_path (bytes_of_number x y u v o.0 o.1.0 o.1.1.0 o.1.1.1.0)
    (ap (λ (zs : List ℤ). joined (map number_bytes zs)) (sym (numbers_drop count (x ∷ y ∷ u ∷ v ∷ l) 4 0))
    ∙ bytes_of_numbers count l o.1.1.1.1 (omega arith)))
  where
    join_path : {a c d e : List ℕ} → a ≡ c → d ≡ e → a ++ d ≡ c ++ e
    join_path p q i = p i ++ q i
