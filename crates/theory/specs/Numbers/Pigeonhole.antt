-- The pigeonhole law: as many distinct values as there are below a number, and no more.
use Rattle.std.specs.Prelude.{◌≡◌, ◌≢◌, ℕ, zero, suc, ◌≤◌, ◌<◌}
use Rattle.std.proofs.Common.{arith}
use Rattle.std.proofs.Math.Decide.{ℕ_discrete}

-- v with the value N moved to `last`
data Moved (N last v : ℕ) : ℕ → Type 0 where
  moves : v ≡ N → Moved N last v last
  stays : v ≢ N → Moved N last v v

moved_below : {N last v w : ℕ} → Moved N last v w → last < suc N → v < suc N → v ≢ last → w < N
moved_below (moves e) l b d = omega arith
moved_below (stays n) l b d = omega arith

moved_apart : {N last u v x y : ℕ} → Moved N last u x → Moved N last v y → u ≢ last → v ≢ last → u ≢ v → x ≢ y
moved_apart (moves e) (moves h) du dv d = omega arith
moved_apart (moves e) (stays m) du dv d = omega arith
moved_apart (stays n) (moves h) du dv d = omega arith
moved_apart (stays n) (stays m) du dv d = omega arith

moved : (N last v : ℕ) → (w : ℕ) × Moved N last v w
moved N last v = go (ℕ_discrete v N)
  where
    go : Dec (v ≡ N) → (w : ℕ) × Moved N last v w
    go (yes e) = (last, moves e)
    go (no n) = (v, stays n)

pub pigeonhole : (f : ℕ → ℕ) (k N : ℕ) → ((i : ℕ) → i < k → f i < N) → ((i j : ℕ) → i < j → j < k → f i ≢ f j) → k ≤ N
pigeonhole f zero N below apart = omega arith
pigeonhole f (suc k) zero below apart = absurd (omega (arith, below k (omega arith)))
pigeonhole f (suc k) (suc N) below apart = omega (arith, pigeonhole g k N below_g apart_g)
  where
    g : ℕ → ℕ
    g i = (moved N (f k) (f i)).0

    below_g : (i : ℕ) → i < k → g i < N
    below_g i h = moved_below (moved N (f k) (f i)).1 (below k (omega arith)) (below i (omega arith)) (apart i k h (omega arith))

    apart_g : (i j : ℕ) → i < j → j < k → g i ≢ g j
    apart_g i j h b =
        moved_apart (moved N (f k) (f i)).1 (moved N (f k) (f j)).1 (apart i k (omega arith) (omega arith)) (apart j k b (omega arith)) (apart i j h (omega arith))
