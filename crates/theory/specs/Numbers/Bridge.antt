-- Integers as differences of two naturals, so that `omega` settles what is linear.
use Rattle.std.specs.Prelude.{◌≡◌, ◌↔◌, Bool, true, false, not, cond, ℕ, zero, suc, ◌+◌, ◌-◌, ◌*◌, ◌≤◌, ◌<◌, T, ltb, ℤ, pos, negsuc, neg_ℤ, ◌+ℤ◌, ◌*ℤ◌, ◌≤ℤ◌, ◌<ℤ◌}
use Rattle.std.proofs.Common.{sym, ap, ◌∙◌, arith, leb→le, le→leb, ltb→lt, lt→ltb, nltb→le}
use Rattle.std.proofs.Math.IntN.{sub_ℕ, pos-ne-negsuc}

-- p - n
unfoldable pub D : ℕ → ℕ → ℤ
D p n = sub_ℕ p n

abbrev pub up : ℤ → ℕ
up (pos n) = n
up (negsuc n) = 0

abbrev pub down : ℤ → ℕ
down (pos n) = 0
down (negsuc n) = suc n

-- D by its two cases: the motive sees the constructor
cond_ind : (c : Bool) (x y : ℤ) (P : ℤ → Type 0) → (T c → P x) → (T (not c) → P y) → P (cond c x y)
cond_ind true x y P f g = f tt
cond_ind false x y P f g = g tt

pub D-ind : (P : ℤ → Type 0) (p n : ℕ) → ((k : ℕ) → p ≡ n + k → P (pos k)) → ((k : ℕ) → n ≡ p + suc k → P (negsuc k)) → P (D p n)
unfolding D
D-ind P p n f g = cond_ind (ltb p n) (negsuc (n - suc p)) (pos (p - n)) P
    (λ t. let h : p < n = ltb→lt p n t in g (n - suc p) (omega arith))
    (λ t. let h : n ≤ p = nltb→le p n t in f (p - n) (omega arith))

-- what D is, from where it lies
pub D-pos : (p n k : ℕ) → p ≡ n + k → D p n ≡ pos k
D-pos p n k e = D-ind (λ z. z ≡ pos k) p n
    (λ j h. ap pos (omega arith))
    (λ j h. absurd (omega arith))

pub D-neg : (p n k : ℕ) → n ≡ p + suc k → D p n ≡ negsuc k
D-neg p n k e = D-ind (λ z. z ≡ negsuc k) p n
    (λ j h. absurd (omega arith))
    (λ j h. ap negsuc (omega arith))

pub as_D : (z : ℤ) → z ≡ D (up z) (down z)
as_D (pos n) = sym (D-pos n 0 n (omega arith))
as_D (negsuc n) = sym (D-neg 0 (suc n) n (omega arith))

pub pos_D : (k : ℕ) → pos k ≡ D k 0
pos_D k = sym (D-pos k 0 k (omega arith))

pub negsuc_D : (k : ℕ) → negsuc k ≡ D 0 (suc k)
negsuc_D k = sym (D-neg 0 (suc k) k (omega arith))

pub neg_D : (p n : ℕ) → neg_ℤ (D p n) ≡ D n p
neg_D p n = D-ind (λ z. neg_ℤ z ≡ D n p) p n f g
  where
    f : (k : ℕ) → p ≡ n + k → neg_ℤ (pos k) ≡ D n p
    f zero e = sym (D-pos n p 0 (omega arith))
    f (suc k) e = sym (D-neg n p k (omega arith))

    g : (k : ℕ) → n ≡ p + suc k → neg_ℤ (negsuc k) ≡ D n p
    g k e = sym (D-pos n p (suc k) (omega arith))

pub D-same : (p n q m : ℕ) → p + m ≡ q + n → D p n ≡ D q m
D-same p n q m e = D-ind (λ z. z ≡ D q m) p n
    (λ k h. sym (D-pos q m k (omega arith)))
    (λ k h. sym (D-neg q m k (omega arith)))

pub D-one : (p n q m : ℕ) → D p n ≡ D q m → p + m ≡ q + n
D-one p n q m e = D-ind (λ z. z ≡ D q m → p + m ≡ q + n) p n
    (λ k h. D-ind (λ z. pos k ≡ z → p + m ≡ q + n) q m
    (λ j i x. let y : k ≡ j = cc in omega arith)
    (λ j i x. absurd (pos-ne-negsuc k j x)))
    (λ k h. D-ind (λ z. negsuc k ≡ z → p + m ≡ q + n) q m
    (λ j i x. absurd (pos-ne-negsuc j k (sym x)))
    (λ j i x. let y : k ≡ j = cc in omega arith))
    e

pub eq_D : (p n q m : ℕ) → (D p n ≡ D q m) ↔ (p + m ≡ q + n)
eq_D p n q m = (D-one p n q m, D-same p n q m)

pub neg_pos_D : (k : ℕ) → neg_ℤ (pos k) ≡ D 0 k
neg_pos_D k = ap neg_ℤ (pos_D k) ∙ neg_D k 0

pub add_D : (p n q m : ℕ) → D p n +ℤ D q m ≡ D (p + q) (n + m)
unfolding D
add_D p n q m = D-ind (λ z. z +ℤ D q m ≡ D (p + q) (n + m)) p n
    (λ k e. D-ind (λ z. pos k +ℤ z ≡ D (p + q) (n + m)) q m
    (λ j h. sym (D-pos (p + q) (n + m) (k + j) (omega arith)))
    (λ j h. D-same k (suc j) (p + q) (n + m) (omega arith)))
    (λ k e. D-ind (λ z. negsuc k +ℤ z ≡ D (p + q) (n + m)) q m
    (λ j h. D-same j (suc k) (p + q) (n + m) (omega arith))
    (λ j h. sym (D-neg (p + q) (n + m) (suc (k + j)) (omega arith))))

pub mul_D : (p n q m : ℕ) → D p n *ℤ D q m ≡ D (p * q + n * m) (p * m + n * q)
mul_D p n q m = D-ind (λ z. z *ℤ D q m ≡ R) p n
    (λ k e. D-ind (λ z. pos k *ℤ z ≡ R) q m
    (λ j h. sym (D-pos (p * q + n * m) (p * m + n * q) (k * j) (rw (e, h) (omega arith))))
    (λ j h. rw neg_pos_D (D-same 0 (k * suc j) (p * q + n * m) (p * m + n * q) (rw (e, h) (omega arith)))))
    (λ k e. D-ind (λ z. negsuc k *ℤ z ≡ R) q m
    (λ j h. rw neg_pos_D (D-same 0 (suc k * j) (p * q + n * m) (p * m + n * q) (rw (e, h) (omega arith))))
    (λ j h. sym (D-pos (p * q + n * m) (p * m + n * q) (suc k * suc j) (rw (e, h) (omega arith)))))
  where
    R : ℤ
    R = D (p * q + n * m) (p * m + n * q)

pub le_D : (p n q m : ℕ) → (D p n ≤ℤ D q m) ↔ (p + m ≤ q + n)
le_D p n q m = D-ind (λ z. (z ≤ℤ D q m) ↔ (p + m ≤ q + n)) p n
    (λ k e. D-ind (λ z. (pos k ≤ℤ z) ↔ (p + m ≤ q + n)) q m
    (λ j h. (λ x. let y : k ≤ j = leb→le k j x.le in omega arith, λ x. record { le = le→leb k j (omega arith) }))
    (λ j h. (λ x. absurd x.le, λ x. absurd (omega arith))))
    (λ k e. D-ind (λ z. (negsuc k ≤ℤ z) ↔ (p + m ≤ q + n)) q m
    (λ j h. (λ x. omega arith, λ x. record { le = tt }))
    (λ j h. (λ x. let y : j ≤ k = leb→le j k x.le in omega arith, λ x. record { le = le→leb j k (omega arith) })))

pub lt_D : (p n q m : ℕ) → (D p n <ℤ D q m) ↔ (p + m < q + n)
lt_D p n q m = D-ind (λ z. (z <ℤ D q m) ↔ (p + m < q + n)) p n
    (λ k e. D-ind (λ z. (pos k <ℤ z) ↔ (p + m < q + n)) q m
    (λ j h. (λ x. let y : k < j = ltb→lt k j x.lt in omega arith, λ x. record { lt = lt→ltb k j (omega arith) }))
    (λ j h. (λ x. absurd x.lt, λ x. absurd (omega arith))))
    (λ k e. D-ind (λ z. (negsuc k <ℤ z) ↔ (p + m < q + n)) q m
    (λ j h. (λ x. omega arith, λ x. record { lt = tt }))
    (λ j h. (λ x. let y : j < k = ltb→lt j k x.lt in omega arith, λ x. record { lt = lt→ltb j k (omega arith) })))

-- a linear fact over integers, as one over naturals: write each integer variable as a difference (`rw (as_D a, as_D b)`), then `simp linear (omega arith)`
pub ruleset linear = (pos_D, negsuc_D, neg_pos_D, neg_D, add_D, mul_D, eq_D, le_D, lt_D)
