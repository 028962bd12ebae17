-- What a writer of text leaves: it puts text at a place of a buffer and answers the place after it.
use Rattle.std.specs.Prelude.{ℕ, ◌+◌, ◌<◌, ◌≡◌, refl, List, [], ◌∷◌, ◌++◌, length, take, set}
use Rattle.std.proofs.Common.{add-zero, add-one, arith, sym, ap, ◌∙◌, append_assoc, append-nil, length-append, take-suc-set}

-- nothing is said of the buffer beyond the text
pub record Put (text : List ℕ) (at : ℕ) (before : List ℕ) (next : ℕ) (after : List ℕ) : Type 0 where
  pub ends : next ≡ at + length text
  pub front : take next after ≡ take at before ++ text

-- nothing put
pub put_none : (at : ℕ) (before : List ℕ) → Put [] at before at before
put_none at before = record { ends = sym (add-zero at); front = sym (append-nil (take at before)) }

-- a text, and another behind it
pub put_both : {x y b m a : List ℕ} {at i j : ℕ} → Put x at b i m → Put y i m j a → Put (x ++ y) at b j a
put_both {x} {y} {b} {m} {a} {at} {i} {j} p q =
    record {
      ends = omega (arith, p.ends, q.ends, length-append x y);
      front = q.front ∙ ap (λ (l : List ℕ). l ++ y) p.front ∙ append_assoc (take at b) x y;
    }

-- a byte stored
pub put_one : (b : ℕ) (at : ℕ) (before : List ℕ) → at < length before → Put (b ∷ []) at before (at + 1) (set before at b)
put_one b at before h = record { ends = refl; front = rw (add-one at) (take-suc-set before at b h) }

-- the same text, in other words
pub put_as : {x y b a : List ℕ} {at i : ℕ} → x ≡ y → Put x at b i a → Put y at b i a
put_as {x} {y} {b} {a} {at} {i} e p = rw e at p
