-- The lines of the names, one after the other.
use Prim.Native.Nat.{ℕ, suc, ◌+◌, ◌*◌, ◌-◌, ◌≤◌, ◌<◌}
use mathlib.Core.Path.{◌≡◌, sym, ap, ◌∙◌}
use mathlib.Core.List.{List, [], ◌∷◌, ◌++◌, append_assoc, append-nil}
use native.Mathlib.Omega.{arith}
use native.Mathlib.Nat.{add-zero, mul-le-mul_right, suc-mul}
use native.Mathlib.Numerals.{add-one}
use lib.ListN.{length, get_or}
use Rattle.scope.specs.Words.{Word, value, values_from, spelled}
use Rattle.theory.specs.Words.Spelling.{length_spelled}
use Rattle.told.specs.Values.{values_more}
use Rattle.said.specs.Said.{name_said, define_line, define_lines}

-- ---- one line after the other

abbrev line_at : List ℕ → List ℕ → ℕ → ℕ → List ℕ
line_at text bounds i v = define_line (name_said text (get_or bounds (2 * i) 0) (get_or bounds (2 * i + 1) 0)) v

lines_append : (text bounds : List ℕ) (i : ℕ) (l : List ℕ) (v : ℕ) → define_lines text bounds i (l ++ (v ∷ [])) ≡ define_lines text bounds i l ++ line_at text bounds (i + length l) v
unfolding define_lines
lines_append text bounds i [] v = rw (add-zero i) (append-nil _)
lines_append text bounds i (u ∷ l) v =
    let e : i + length (u ∷ l) ≡ suc i + length l = omega arith in
    ap (λ (t : List ℕ). line_at text bounds i u ++ t) (lines_append text bounds (suc i) l v ∙ ap (λ (k : ℕ). define_lines text bounds (suc i) l ++ line_at text bounds k v) (sym e))
    ∙ sym (append_assoc (line_at text bounds i u) (define_lines text bounds (suc i) l) (line_at text bounds (i + length (u ∷ l)) v))

pub lines_more : (text bounds : List ℕ) (i : ℕ) (w : Word) (v : ℕ) → v ≡ value w (i + 1 - 1) → define_lines text bounds 0 (spelled i w) ++ line_at text bounds i v ≡ define_lines text bounds 0 (spelled (i + 1) w)
unfolding spelled
lines_more text bounds i w v e =
    let n : i + 1 - 1 ≡ i = omega arith in
    let m : 0 + i ≡ i = omega arith in
    let g : values_from (i + 1) 0 w ≡ spelled i w ++ (v ∷ []) = rw (add-one i) (values_more i 0 w ∙ ap (λ (k : ℕ). spelled i w ++ (k ∷ [])) (ap (value w) m ∙ sym (e ∙ ap (value w) n))) in
    let k : 0 + length (spelled i w) ≡ i = omega (arith, length_spelled i w) in
    sym (ap (define_lines text bounds 0) g ∙ lines_append text bounds 0 (spelled i w) v ∙ ap (λ (j : ℕ). define_lines text bounds 0 (spelled i w) ++ line_at text bounds j v) k)

pub one_row_more : (i n m : ℕ) → i < n → i * m + m ≤ n * m
one_row_more i n m h = omega (arith, suc-mul i m, mul-le-mul_right m h)
