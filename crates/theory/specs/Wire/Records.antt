-- Records on the wire: what is seen at a place where a record's bytes stand, and the bytes of a record that is there; nodes, their kinds and their codes.
use Rattle.std.specs.Prelude.{◌≡◌, refl, Bool, true, false, not, cond, ℕ, suc, ◌+◌, ◌*◌, ◌≤◌, ◌<◌, T, eqb, length, take, drop, ℤ}
use Rattle.std.proofs.Common.{sym, ap, ◌∙◌, add-zero, arith, le→leb, leb→le, eqb→eq, lit<, length-append, length-take, length-drop, drop-drop, drop_at, take-add, SFits}
use mathlib.Core.List.{List, [], ◌∷◌, ◌++◌, map, append_assoc}
use Rattle.scope.specs.Whole.{joined}
use Rattle.scope.specs.Question.{equation, at_most, Node, unused, atom, node_of, code_of, is_unused, Kind}
use Rattle.scope.specs.Wire.{two_at, number_at, numbers_at, length_at, kind_at, header_there, body_there, kind_of, node_of_kind}
use Rattle.scope.specs.Writing.{two_bytes, number_bytes, record_bytes, atom_body}
use Rattle.theory.specs.Wire.Octets.{Octets, octets_drop, two_read, two_written, two_drop, number_drop, numbers_drop, Fit, run_length, numbers_of_bytes, number_of_bytes, bytes_of_numbers, bytes_of_number}
use Rattle.std.specs.Int.{w32}

-- ---- the bytes of a record stand at a place

module _ (b : List ℕ) (at kind : ℕ) (body rest : List ℕ) (e : drop at b ≡ record_bytes kind body ++ rest) where
  pub record_length : length body < 65536 → length_at b at ≡ length body
  record_length h = ap (two_at b) (sym (add-zero at)) ∙ sym (two_drop b at 0) ∙ ap (λ (l : List ℕ). two_at l 0) e ∙ two_read (length body) h

  pub record_kind : kind < 65536 → kind_at b at ≡ kind
  record_kind h = sym (two_drop b at 2) ∙ ap (λ (l : List ℕ). two_at l 2) e ∙ two_read kind h

  record_room : at + (4 + length body) ≤ length b
  record_room = omega (arith, sym (length-drop at b) ∙ ap length e, length-append body rest)

  pub record_body : drop (at + 4) b ≡ body ++ rest
  record_body = sym (drop-drop 4 at b) ∙ ap (drop 4) e

  pub header_there_lem : T (header_there b at)
  header_there_lem = le→leb (at + 4) (length b) (omega (arith, record_room))

  pub body_there_lem : length body < 65536 → T (body_there b at)
  body_there_lem h = le→leb (at + 4 + length_at b at) (length b) (omega (arith, record_room, record_length h))

-- ---- a record is there

cut_off : (l : List ℕ) (len : ℕ) → Octets l → 4 + len ≤ length l → take (4 + len) l ≡ two_bytes (two_at l 0) ++ (two_bytes (two_at l 2) ++ take len (drop 4 l))
cut_off [] len o h = absurd (omega arith)
cut_off (x ∷ []) len o h = absurd (omega arith)
cut_off (x ∷ y ∷ []) len o h = absurd (omega arith)
cut_off (x ∷ y ∷ u ∷ []) len o h = absurd (omega arith)
cut_off (x ∷ y ∷ u ∷ v ∷ l) len o h =
    let four_more : 4 + len ≡ suc (suc (suc (suc len))) = omega arith in
    rw four_more (join_path (sym (two_written x y o.0 o.1.0)) (sym (two_written u v o.1.1.0 o.1.1.1.0)) (take len l))
  where
    join_path : {a c d e : List ℕ} → a ≡ c → d ≡ e → (f : List ℕ) → a ++ (d ++ f) ≡ c ++ (e ++ f)
    join_path p q f i = p i ++ (q i ++ f)

pub there_header : (b : List ℕ) (at : ℕ) → T (header_there b at) → at + 4 ≤ length b
there_header b at t = leb→le (at + 4) (length b) t

pub there_body : (b : List ℕ) (at : ℕ) → T (body_there b at) → at + 4 + length_at b at ≤ length b
there_body b at t = leb→le (at + 4 + length_at b at) (length b) t

pub bytes_of_record : (b : List ℕ) (at : ℕ) → Octets b → T (body_there b at)
    → take (4 + length_at b at) (drop at b) ≡ record_bytes (kind_at b at) (take (length_at b at) (drop (at + 4) b))
bytes_of_record b at o t =
    let room : 4 + length_at b at ≤ length (drop at b) = rw (length-drop at b) (omega (arith, there_body b at t)) in
    let rest : length (take (length_at b at) (drop (at + 4) b)) ≡ length_at b at = rw (length-take, length-drop) (omega (arith, there_body b at t)) in
    cut_off (drop at b) (length_at b at) (octets_drop at b o) room
    ∙ parts_path (two_drop b at 0 ∙ ap (two_at b) (add-zero at) ∙ sym rest) (two_drop b at 2) (ap (take (length_at b at)) (drop-drop 4 at b))
  where
    parts_path : {len len' kind kind' : ℕ} {body body' : List ℕ} → len ≡ len' → kind ≡ kind' → body ≡ body'
        → two_bytes len ++ (two_bytes kind ++ body) ≡ two_bytes len' ++ (two_bytes kind' ++ body')
    parts_path p q r i = two_bytes (p i) ++ (two_bytes (q i) ++ r i)

-- ---- the body of an atom

pub body_length_lem : (cs : List ℤ) (k : ℤ) → length (atom_body cs k) ≡ 4 * (length cs + 1)
unfolding atom_body
body_length_lem cs k = length-append (joined (map number_bytes cs)) (number_bytes k) ∙ omega (arith, run_length cs)

module _ (b : List ℕ) (at : ℕ) (cs : List ℤ) (k : ℤ) (rest : List ℕ) (e : drop at b ≡ atom_body cs k ++ rest) where
  body_split : drop at b ≡ joined (map number_bytes cs) ++ (number_bytes k ++ rest)
  unfolding atom_body
  body_split = e ∙ append_assoc (joined (map number_bytes cs)) (number_bytes k) rest

  pub body_coefficients : Fit cs → numbers_at (length cs) b at ≡ cs
  body_coefficients f = ap (numbers_at (length cs) b) (sym (add-zero at)) ∙ sym (numbers_drop (length cs) b at 0)
      ∙ ap (λ (l : List ℕ). numbers_at (length cs) l 0) body_split ∙ numbers_of_bytes cs f (number_bytes k ++ rest)

  pub body_constant : SFits w32 k → number_at b (at + 4 * length cs) ≡ k
  body_constant f = ap (number_at b) (sym (add-zero (at + 4 * length cs))) ∙ sym (number_drop b (at + 4 * length cs) 0)
      ∙ ap (λ (l : List ℕ). number_at l 0) after ∙ number_of_bytes k f rest
    where
      after : drop (at + 4 * length cs) b ≡ number_bytes k ++ rest
      after = sym (drop-drop (4 * length cs) at b) ∙ ap (drop (4 * length cs)) body_split
          ∙ drop_at (joined (map number_bytes cs)) (number_bytes k ++ rest) (4 * length cs) (run_length cs)

four_off : (l : List ℕ) → Octets l → 4 ≤ length l → take 4 l ≡ number_bytes (number_at l 0)
four_off [] o h = absurd (omega arith)
four_off (x ∷ []) o h = absurd (omega arith)
four_off (x ∷ y ∷ []) o h = absurd (omega arith)
four_off (x ∷ y ∷ u ∷ []) o h = absurd (omega arith)
four_off (x ∷ y ∷ u ∷ v ∷ l) o h = sym (bytes_of_number x y u v o.0 o.1.0 o.1.1.0 o.1.1.1.0)

pub bytes_of_body : (n : ℕ) (b : List ℕ) (at : ℕ) → Octets b → at + 4 * (n + 1) ≤ length b
    → take (4 * (n + 1)) (drop at b) ≡ atom_body (numbers_at n b at) (number_at b (at + 4 * n))
unfolding atom_body
bytes_of_body n b at o h =
    let l : List ℕ = drop at b in
    let lo : Octets l = octets_drop at b o in
    let first : 4 * n ≤ length l = rw (length-drop at b) (omega arith) in
    let last : 4 ≤ length (drop (4 * n) l) = rw (length-drop (4 * n) l, length-drop at b) (omega arith) in
    let split : 4 * (n + 1) ≡ 4 * n + 4 = omega arith in
    rw split
    (take-add (4 * n) 4 l
    ∙ join_path
    (sym (bytes_of_numbers n l lo first) ∙ ap (λ (zs : List ℤ). joined (map number_bytes zs)) (numbers_drop n b at 0 ∙ ap (numbers_at n b) (add-zero at)))
    (four_off (drop (4 * n) l) (octets_drop (4 * n) l lo) last
    ∙ ap number_bytes (number_drop l (4 * n) 0 ∙ ap (number_at l) (add-zero (4 * n)) ∙ number_drop b at (4 * n))))
  where
    join_path : {a c d e : List ℕ} → a ≡ c → d ≡ e → a ++ d ≡ c ++ e
    join_path p q i = p i ++ q i

-- ---- nodes, kinds and codes

pub node_of_kind_lem : (x : Node) → node_of_kind (kind_of x) ≡ x
node_of_kind_lem unused = refl
node_of_kind_lem (atom equation) = refl
node_of_kind_lem (atom at_most) = refl
node_of_kind_lem Node.not = refl
node_of_kind_lem Node.and = refl
node_of_kind_lem Node.or = refl

pub node_of_code : (x : Node) → node_of (code_of x) ≡ x
node_of_code unused = refl
node_of_code (atom equation) = refl
node_of_code (atom at_most) = refl
node_of_code Node.not = refl
node_of_code Node.and = refl
node_of_code Node.or = refl

-- one test of a chain of tests
by_test : (P : Node → Type 0) (t : Bool) (x y : Node) → (T t → P x) → P y → P (cond t x y)
by_test P true x y f g = f tt
by_test P false x y f g = g

pub kind_of_node : (k : ℕ) → T (not (is_unused (node_of_kind k))) → kind_of (node_of_kind k) ≡ k
kind_of_node k =
    by_test P (eqb k 0x0010) (atom equation) _ (λ t u. sym (eqb→eq k 0x0010 t))
    (by_test P (eqb k 0x0011) (atom at_most) _ (λ t u. sym (eqb→eq k 0x0011 t))
    (by_test P (eqb k 0x0020) Node.not _ (λ t u. sym (eqb→eq k 0x0020 t))
    (by_test P (eqb k 0x0021) Node.and _ (λ t u. sym (eqb→eq k 0x0021 t))
    (by_test P (eqb k 0x0022) Node.or unused (λ t u. sym (eqb→eq k 0x0022 t)) (λ u. absurd u)))))
  where
    P : Node → Type 0
    P x = T (not (is_unused x)) → kind_of x ≡ k

-- the kind of an atom's code
abbrev pub kind_of_code : ℕ → Kind
kind_of_code code = cond (eqb code 1) equation at_most

pub code_of_node : (c : ℕ) → T (not (is_unused (node_of c))) → code_of (node_of c) ≡ c
code_of_node c =
    by_test P (eqb c 1) (atom equation) _ (λ t u. sym (eqb→eq c 1 t))
    (by_test P (eqb c 2) (atom at_most) _ (λ t u. sym (eqb→eq c 2 t))
    (by_test P (eqb c 3) Node.not _ (λ t u. sym (eqb→eq c 3 t))
    (by_test P (eqb c 4) Node.and _ (λ t u. sym (eqb→eq c 4 t))
    (by_test P (eqb c 5) Node.or unused (λ t u. sym (eqb→eq c 5 t)) (λ u. absurd u)))))
  where
    P : Node → Type 0
    P x = T (not (is_unused x)) → code_of x ≡ c

pub kind_small : (x : Node) → kind_of x < 65536
kind_small unused = lit< tt
kind_small (atom equation) = lit< tt
kind_small (atom at_most) = lit< tt
kind_small Node.not = lit< tt
kind_small Node.and = lit< tt
kind_small Node.or = lit< tt
