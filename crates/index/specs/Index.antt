-- What it is for `links` to index the first `count` rows of a key area, of `width` cells each, and what the calls on an index ask and ensure.
use Rattle.std.specs.Prelude.{◌≡◌, Bool, true, false, List, Option, MatchOption, ℕ, ◌+◌, ◌*◌, ◌≤◌, ◌<◌, length, get_or, take, ℤ, pos}
use Rattle.std.proofs.Math.Seq.{paste}
use Rattle.index.specs.Rows.{row_at}
use Rattle.index.specs.Hash.{bucket_of}
use Rattle.index.specs.Chains.{Chained}
use Rattle.scope.specs.Sizes.{most_atoms, most_states}
pub use Rattle.index.specs.Chains.{buckets}

-- a key: eight cells, of which those from `width` on are 0
pub record Key (width : ℕ) (key : List ℤ) : Type 0 where
  pub eight : length key ≡ most_atoms
  pub blank : (i : ℕ) → width ≤ i → get_or key i (pos 0) ≡ pos 0

-- the answer to whether P holds
abbrev pub Says : Bool → Type 0 → Type 0
Says true P = P
Says false P = P → ⊥

-- the first n cells from `base` on are the key's
abbrev pub CellsAgree : List ℤ → ℕ → List ℤ → ℕ → Type 0
CellsAgree keys base key n = (i : ℕ) → i < n → get_or keys (base + i) (pos 0) ≡ get_or key i (pos 0)

-- the bucket of row s, where there are n
abbrev pub bucket_at : List ℤ → ℕ → ℕ → ℕ → ℕ
bucket_at keys width n s = bucket_of n (row_at keys width s)

-- there are buckets, the first count rows, and a link for each of them
pub record IndexSized (keys : List ℤ) (width : ℕ) (links : List ℕ) (count : ℕ) : Type 0 where
  pub narrow : width ≤ most_atoms
  pub some_buckets : 0 < buckets links
  pub few_buckets : buckets links ≤ 65536
  pub few_rows : count ≤ most_states
  pub cells : count * width ≤ length keys
  pub link : count ≤ buckets links

-- the links chain the rows of each bucket
pub record Indexed (keys : List ℤ) (width : ℕ) (links : List ℕ) (count : ℕ) : Type 0 where
  pub sized : IndexSized keys width links count
  pub chained : Chained (bucket_at keys width (buckets links)) links count

-- the row below count that has the key's cells, or that there is none
pub record Finds (keys : List ℤ) (width : ℕ) (key : List ℤ) (count : ℕ) (found : Option ℕ) : Type 0 where
  pub says : MatchOption found ((s : ℕ) → s < count → row_at keys width s ≡ take width key → ⊥) (λ r. (r < count) × (row_at keys width r ≡ take width key))

-- there is room for row count
pub record Room (keys : List ℤ) (width : ℕ) (links : List ℕ) (count : ℕ) : Type 0 where
  pub number : count < most_states
  pub link : count < buckets links
  pub cells : count * width + width ≤ length keys

-- row count is the key, and is indexed with the rows before it
pub record KeyAdded (old : List ℤ) (width : ℕ) (key keys : List ℤ) (links : List ℕ) (count : ℕ) : Type 0 where
  pub stored : keys ≡ paste old (count * width) key width
  pub indexed : Indexed keys width links (count + 1)
