-- Laws of words' order: it is strict and total, a letter more keeps it; and induction on a word from its end.
use Rattle.std.specs.Prelude.{ℕ, suc, ◌≤◌, ◌<◌, ◌≡◌, refl, ◌⊎◌, [], ◌∷◌, ◌++◌, length}
use Rattle.std.proofs.Common.{sym, ap, ◌∙◌, inl, inr, ⊎_elim, append-nil, append_assoc, lt_trans, arith, length-append}
use Rattle.std.proofs.Math.Logic.{by_cases}
use Rattle.std.proofs.Math.Decide.{dec_lt}
use Rattle.scope.specs.Words.{Word, ◌▹◌, Lex, here, there, ◌≺◌, shorter, lexed, ◌≼◌, equal, less, Over, over-[], over-∷}

pub length-▹ : (w : Word) (a : ℕ) → length (w ▹ a) ≡ suc (length w)
length-▹ w a = simp length-append (omega arith)

lex_length : {u v : Word} → Lex u v → length u ≡ length v
lex_length (here p l) = ap suc l
lex_length (there e r) = ap suc (lex_length r)

lex_trans : {u v w : Word} → Lex u v → Lex v w → Lex u w
lex_trans (here p l) (here q k) = here (lt_trans p q) (l ∙ k)
lex_trans (here p l) (there e r) = here (rw e at p) (l ∙ lex_length r)
lex_trans (there e r) (here q k) = here (rw (← e) at q) (lex_length r ∙ k)
lex_trans (there e r) (there d s) = there (e ∙ d) (lex_trans r s)

≺_trans : {u v w : Word} → u ≺ v → v ≺ w → u ≺ w
≺_trans (shorter p) (shorter q) = shorter (omega arith)
≺_trans (shorter p) (lexed r) = shorter (omega (arith, lex_length r))
≺_trans (lexed r) (shorter q) = shorter (omega (arith, lex_length r))
≺_trans (lexed r) (lexed s) = lexed (lex_trans r s)

pub ≼_trans : {u v w : Word} → u ≼ v → v ≼ w → u ≼ w
≼_trans (equal e) (equal d) = equal (e ∙ d)
≼_trans (equal e) (less q) = less (rw e q)
≼_trans (less p) (equal d) = less (rw d at p)
≼_trans (less p) (less q) = less (≺_trans p q)

-- the order is strict, and of two words that differ one comes before the other
lex_irrefl : {u : Word} → ¬ Lex u u
lex_irrefl (here p l) = omega arith
lex_irrefl (there e r) = lex_irrefl r

≺_irrefl : {u : Word} → ¬ (u ≺ u)
≺_irrefl (shorter p) = omega arith
≺_irrefl (lexed r) = lex_irrefl r

pub ≼_not-≻ : {u v : Word} → u ≼ v → ¬ (v ≺ u)
≼_not-≻ (equal e) q = ≺_irrefl (rw e at q)
≼_not-≻ (less p) q = ≺_irrefl (≺_trans p q)

pub ≼_antisym : {u v : Word} → u ≼ v → v ≼ u → u ≡ v
≼_antisym (equal e) q = e
≼_antisym (less p) (equal e) = sym e
≼_antisym (less p) (less q) = absurd (≺_irrefl (≺_trans p q))

lex_total : (u v : Word) → length u ≡ length v → (u ≼ v) ⊎ Lex v u
lex_total [] [] e = inl (equal refl)
lex_total [] (b ∷ v) e = absurd (omega arith)
lex_total (a ∷ u) [] e = absurd (omega arith)
lex_total (a ∷ u) (b ∷ v) e =
    by_cases (dec_lt a b) (λ p. inl (less (lexed (here p l))))
    (λ p. by_cases (dec_lt b a) (λ q. inr (here q (sym l))) (λ q. go (omega arith) (lex_total u v l)))
  where
    l : length u ≡ length v
    l = omega arith

    go : a ≡ b → (u ≼ v) ⊎ Lex v u → (a ∷ u ≼ b ∷ v) ⊎ Lex (b ∷ v) (a ∷ u)
    go d (inl (equal x)) = inl (equal (cc))
    go d (inl (less (shorter x))) = absurd (omega arith)
    go d (inl (less (lexed x))) = inl (less (lexed (there d x)))
    go d (inr x) = inr (there (sym d) x)

pub ≼_total : (u v : Word) → (u ≼ v) ⊎ (v ≺ u)
≼_total u v =
    by_cases (dec_lt (length u) (length v)) (λ p. inl (less (shorter p)))
    (λ p. by_cases (dec_lt (length v) (length u)) (λ q. inr (shorter q)) (λ q. ⊎_elim inl (λ x. inr (lexed x)) (lex_total u v (omega arith))))

pub []-least : (w : Word) → [] ≼ w
[]-least [] = equal refl
[]-least (a ∷ w) = less (shorter (omega arith))

-- a letter more keeps the order of two words that differ, whatever the letters
lex-▹ : {u v : Word} (a b : ℕ) → Lex u v → Lex (u ▹ a) (v ▹ b)
lex-▹ a b (here {u} {v} p l) = here p (length-▹ u a ∙ ap suc l ∙ sym (length-▹ v b))
lex-▹ a b (there e r) = there e (lex-▹ a b r)

pub ≺-▹ : {u v : Word} (a b : ℕ) → u ≺ v → u ▹ a ≺ v ▹ b
≺-▹ {u} {v} a b (shorter p) = shorter (simp length-append (omega arith))
≺-▹ a b (lexed r) = lexed (lex-▹ a b r)

-- and the letter decides between two words that differ in it alone
lex_last : (u : Word) {a b : ℕ} → a < b → Lex (u ▹ a) (u ▹ b)
lex_last [] p = here p refl
lex_last (c ∷ u) p = there refl (lex_last u p)

pub ≺_last : (u : Word) {a b : ℕ} → a < b → u ▹ a ≺ u ▹ b
≺_last u p = lexed (lex_last u p)

pub ≼-▹ : {u v : Word} (a : ℕ) → u ≼ v → u ▹ a ≼ v ▹ a
≼-▹ a (equal e) = equal (ap (λ (w : Word). w ▹ a) e)
≼-▹ a (less p) = less (≺-▹ a a p)

pub ≼_last : (u : Word) {a b : ℕ} → a ≤ b → u ▹ a ≼ u ▹ b
≼_last u {a} {b} h = by_cases (dec_lt a b) (λ p. less (≺_last u p)) (λ p. let e : a ≡ b = omega arith in equal (rw e))

pub over-▹ : {k : ℕ} {w : Word} {a : ℕ} → Over k w → a < k → Over k (w ▹ a)
over-▹ over-[] h = over-∷ h over-[]
over-▹ (over-∷ p o) h = over-∷ p (over-▹ o h)

-- induction on a word from its end
pub words_by : {k : ℕ} (P : Word → Type 0) → P [] → ((w : Word) (a : ℕ) → a < k → P w → P (w ▹ a)) → {w : Word} → Over k w → P w
words_by {k} P base next o = go [] base o
  where
    go : (u : Word) → P u → {v : Word} → Over k v → P (u ++ v)
    go u p over-[] = rw append-nil p
    go u p (over-∷ {a} {w} h r) = rw append_assoc at (go (u ▹ a) (next u a h p) r)
