-- The bucket of a row's cells, of n buckets. Nothing depends on its quality but speed.
use Rattle.std.specs.Prelude.{List, ℕ, ◌+◌, ◌*◌, ◌/◌, ◌%◌, ◌<◌, get_or, ℤ, pos, ◌+ℤ◌, nat_abs}
use Rattle.std.proofs.Common.{mul-lt-mul_of_pos_right, arith}

-- a cell as a number below 2 ^ 32
unfoldable pub cell_code : ℤ → ℕ
cell_code z = nat_abs (z +ℤ pos 2147483648)

-- the code of cell i, and of 0 past the cells
abbrev pub code_at : List ℤ → ℕ → ℕ
code_at cells i = cell_code (get_or cells i (pos 0))

-- the sum of eight cells' codes, each by an odd number below 2 ^ 29 of its own
abbrev pub codes_summed : List ℤ → ℕ
codes_summed cells =
    (code_at cells 0 * 89724889 + code_at cells 1 * 172061623 + code_at cells 2 * 224255185 + code_at cells 3 * 272266025)
    + (code_at cells 4 * 503303631 + code_at cells 5 * 35946965 + code_at cells 6 * 248913303 + code_at cells 7 * 379851821)

-- the halves of a number, added
abbrev pub folded : ℕ → ℕ
folded p = p % 4294967296 + p / 4294967296

unfoldable pub hash_of : List ℤ → ℕ
hash_of cells = folded (codes_summed cells) % 4294967296

-- the hash is below 2 ^ 32, and its highest bits count
unfoldable pub bucket_of : ℕ → List ℤ → ℕ
bucket_of n cells = hash_of cells * n / 4294967296

pub hash_low : (cells : List ℤ) → hash_of cells < 4294967296
unfolding hash_of
hash_low cells = omega arith

pub bucket_low : (n : ℕ) (cells : List ℤ) → 0 < n → bucket_of n cells < n
unfolding bucket_of
bucket_low n cells some =
    let scaled : hash_of cells * n < 4294967296 * n = mul-lt-mul_of_pos_right (hash_low cells) some in
    omega (arith, scaled)
