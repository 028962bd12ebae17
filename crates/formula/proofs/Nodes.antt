-- What a part is, by the node that it starts at: a law for each way that `settle` returns.
use Prim.Native.Nat.{ℕ, suc, ◌+◌, ◌-◌, ◌≤◌, ◌<◌}
use native.Mathlib.Omega.{arith}
use native.Mathlib.Decide.{dec_lt}
use mathlib.Core.Path.{◌≡◌, refl, sym, ap, ◌∙◌}
use mathlib.Core.Logic.{by_cases}
use mathlib.Core.Bool.{Bool, false, not, ◌&&◌, ◌||◌}
use mathlib.Core.List.{List, [], ◌∷◌, map}
use lib.ListN.{length, get_or, drop, length-map, drop_of_length-le, get_or-eq_default}
use lib.Seq.{get_or-drop, drop-drop}
use borrow.Author.Tests.{ne_eqb}
use Rattle.scope.specs.Question.{Kind, equation, at_most, Node, unused, atom, node_of}
use Rattle.scope.specs.States.{Settled, settled}
use Rattle.formula.specs.declared.Part.{Part}
use Rattle.formula.specs.Truths.{truth_at, WordsOf}
use Rattle.formula.specs.Parts.{Placed, Settles, meant, node_first}

-- ---- codes

pub atom_code : (c : ℕ) → 1 ≤ c → c < 3 → (κ : Kind) × (node_of c ≡ atom κ)
atom_code c low high =
    by_cases (dec_lt c 2)
    (λ p. let e : c ≡ 1 = omega arith in (equation, ap node_of e))
    (λ p. let e : c ≡ 2 = omega arith in (at_most, ap node_of e))

pub low_code : (c : ℕ) → c < 1 → node_of c ≡ unused
low_code c h = let e : c ≡ 0 = omega arith in ap node_of e

pub high_code : (c : ℕ) → 5 < c → node_of c ≡ unused
high_code c h =
    rw (ne_eqb c 1 (λ e. omega arith), ne_eqb c 2 (λ e. omega arith), ne_eqb c 3 (λ e. omega arith), ne_eqb c 4 (λ e. omega arith), ne_eqb c 5 (λ e. omega arith))

-- ---- a part that starts with a node

module _ (d : ℕ) (xs : List Node) (ws : List Bool) where
  not_part : (p : Settled) → settled d xs ws ≡ p → settled (suc d) (Node.not ∷ xs) ws ≡ record { truth = not p.truth; nodes = p.nodes; worths = p.worths }
  unfolding settled
  not_part p e = rw e

  and_part : (p r : Settled) → settled d xs ws ≡ p → settled d p.nodes p.worths ≡ r → settled (suc d) (Node.and ∷ xs) ws ≡ record { truth = p.truth && r.truth; nodes = r.nodes; worths = r.worths }
  unfolding settled
  and_part p r e f = rw (e, f)

  or_part : (p r : Settled) → settled d xs ws ≡ p → settled d p.nodes p.worths ≡ r → settled (suc d) (Node.or ∷ xs) ws ≡ record { truth = p.truth || r.truth; nodes = r.nodes; worths = r.worths }
  unfolding settled
  or_part p r e f = rw (e, f)

  atom_part : (κ : Kind) → settled (suc d) (atom κ ∷ xs) ws ≡ record { truth = get_or ws 0 false; nodes = xs; worths = drop 1 ws }
  unfolding settled
  atom_part κ = refl

  unused_part : settled (suc d) (unused ∷ xs) ws ≡ record { truth = false; nodes = xs; worths = ws }
  unfolding settled
  unused_part = refl

  cut_part : settled (suc d) [] ws ≡ record { truth = false; nodes = []; worths = ws }
  unfolding settled
  cut_part = refl

  deep_part : settled 0 xs ws ≡ record { truth = false; nodes = xs; worths = ws }
  unfolding settled
  deep_part = refl

-- ---- by places: a part of the depth left and the node's place

module _ {codes : List ℕ} {node atom depth : ℕ} (g : Placed codes node atom) where
  opened : (x : Node) (ws : List Bool) → (depth ≡ 0 → ⊥) → (node ≡ 64 → ⊥) → node_of (get_or codes node 0) ≡ x → settled depth (drop node (map node_of codes)) ws ≡ settled (suc (depth - 1)) (x ∷ drop (node + 1) (map node_of codes)) ws
  opened x ws d n e =
      let h : depth ≡ suc (depth - 1) = omega arith in
      let f : drop node (map node_of codes) ≡ x ∷ drop (node + 1) (map node_of codes) = node_first codes node (omega (arith, g.codes_whole, g.node_within)) ∙ ap (λ (y : Node). y ∷ drop (node + 1) (map node_of codes)) e in
      λ i. settled (h i) (f i) ws

  -- a part that is false for all the worths, and takes no atom
  ends : {none : List ℕ} {after : ℕ} → WordsOf (λ ws. false) none → after ≤ 64 → ((ws : List Bool) → settled depth (drop node (map node_of codes)) ws ≡ record { truth = false; nodes = drop after (map node_of codes); worths = ws }) → Settles codes node atom depth (record { truths = none; node = after; atom = atom })
  ends {none} {after} z l h = record {
    four = z.four;
    part = λ ws e. h (drop atom ws) ∙ (λ i. record { truth = sym (z.says ws e) i; nodes = drop after (map node_of codes); worths = drop atom ws });
    node_after = l;
    atom_after = g.atom_within;
  }

  pub too_deep : {none : List ℕ} → WordsOf (λ ws. false) none → depth ≡ 0 → Settles codes node atom depth (record { truths = none; node = node; atom = atom })
  too_deep z d = ends z g.node_within (λ ws. (λ i. settled (d i) (drop node (map node_of codes)) ws) ∙ deep_part 0 (drop node (map node_of codes)) ws)

  pub past_the_end : {none : List ℕ} → WordsOf (λ ws. false) none → (depth ≡ 0 → ⊥) → node ≡ 64 → Settles codes node atom depth (record { truths = none; node = node; atom = atom })
  past_the_end z d n =
      let h : depth ≡ suc (depth - 1) = omega arith in
      let e : drop node (map node_of codes) ≡ [] = drop_of_length-le (map node_of codes) {i = node} (omega (arith, length-map codes node_of, g.codes_whole)) in
      ends z g.node_within (λ ws. (λ i. settled (h i) (e i) ws) ∙ cut_part (depth - 1) [] ws ∙ (λ i. record { truth = false; nodes = sym e i; worths = ws }))

  pub settles_unused : {none : List ℕ} → WordsOf (λ ws. false) none → (depth ≡ 0 → ⊥) → (node ≡ 64 → ⊥) → node_of (get_or codes node 0) ≡ unused → Settles codes node atom depth (record { truths = none; node = node + 1; atom = atom })
  settles_unused z d n e = ends z (omega (arith, g.node_within)) (λ ws. opened unused ws d n e ∙ unused_part (depth - 1) (drop (node + 1) (map node_of codes)) ws)

  -- an atom's node
  reads : (ws : List Bool) → (depth ≡ 0 → ⊥) → (node ≡ 64 → ⊥) → 1 ≤ get_or codes node 0 → get_or codes node 0 < 3 → settled depth (drop node (map node_of codes)) (drop atom ws) ≡ record { truth = get_or ws atom false; nodes = drop (node + 1) (map node_of codes); worths = drop (atom + 1) ws }
  reads ws d n low high =
      let κ = atom_code (get_or codes node 0) low high in
      let t : get_or (drop atom ws) 0 false ≡ get_or ws atom false = get_or-drop atom ws 0 false ∙ ap (λ (k : ℕ). get_or ws k false) (omega arith) in
      opened (Node.atom κ.0) (drop atom ws) d n κ.1 ∙
      atom_part (depth - 1) (drop (node + 1) (map node_of codes)) (drop atom ws) κ.0 ∙
      (λ i. record { truth = t i; nodes = drop (node + 1) (map node_of codes); worths = drop-drop 1 atom ws i })

  -- the atoms have run out
  pub settles_none : {none : List ℕ} → WordsOf (λ ws. false) none → (depth ≡ 0 → ⊥) → (node ≡ 64 → ⊥) → 1 ≤ get_or codes node 0 → get_or codes node 0 < 3 → atom ≡ 8 → Settles codes node atom depth (record { truths = none; node = node + 1; atom = atom })
  settles_none {none} z d n low high a = record {
    four = z.four;
    part = λ ws e.
        let past : length ws ≤ atom = omega (arith, e) in
        let f : get_or ws atom false ≡ truth_at none ws = get_or-eq_default ws false past ∙ sym (z.says ws e) in
        let r : drop (atom + 1) ws ≡ drop atom ws = drop_of_length-le ws {i = atom + 1} (omega (arith, past)) ∙ sym (drop_of_length-le ws {i = atom} past) in
        reads ws d n low high ∙ (λ i. record { truth = f i; nodes = drop (node + 1) (map node_of codes); worths = r i });
    node_after = omega (arith, g.node_within);
    atom_after = g.atom_within;
  }

  pub settles_atom : {words : List ℕ} → WordsOf (λ ws. get_or ws atom false) words → (depth ≡ 0 → ⊥) → (node ≡ 64 → ⊥) → 1 ≤ get_or codes node 0 → get_or codes node 0 < 3 → (atom ≡ 8 → ⊥) → Settles codes node atom depth (record { truths = words; node = node + 1; atom = atom + 1 })
  settles_atom w d n low high a = record {
    four = w.four;
    part = λ ws e. reads ws d n low high ∙ (λ i. record { truth = sym (w.says ws e) i; nodes = drop (node + 1) (map node_of codes); worths = drop (atom + 1) ws });
    node_after = omega (arith, g.node_within);
    atom_after = omega (arith, g.atom_within);
  }

  pub settles_not : {p : Part} {words : List ℕ} → WordsOf (λ ws. not (truth_at p.truths ws)) words → (depth ≡ 0 → ⊥) → (node ≡ 64 → ⊥) → get_or codes node 0 ≡ 3 → Settles codes (node + 1) atom (depth - 1) p → Settles codes node atom depth (record { truths = words; node = p.node; atom = p.atom })
  settles_not {p} w d n c s = record {
    four = w.four;
    part = λ ws e.
        opened Node.not (drop atom ws) d n (ap node_of c) ∙
        not_part (depth - 1) (drop (node + 1) (map node_of codes)) (drop atom ws) (meant codes ws p) (s.part ws e) ∙
        (λ i. record { truth = sym (w.says ws e) i; nodes = drop p.node (map node_of codes); worths = drop p.atom ws });
    node_after = s.node_after;
    atom_after = s.atom_after;
  }

  pub settles_and : {p r : Part} {words : List ℕ} → WordsOf (λ ws. truth_at p.truths ws && truth_at r.truths ws) words → (depth ≡ 0 → ⊥) → (node ≡ 64 → ⊥) → get_or codes node 0 ≡ 4 → Settles codes (node + 1) atom (depth - 1) p → Settles codes p.node p.atom (depth - 1) r → Settles codes node atom depth (record { truths = words; node = r.node; atom = r.atom })
  settles_and {p} {r} w d n c s t = record {
    four = w.four;
    part = λ ws e.
        opened Node.and (drop atom ws) d n (ap node_of c) ∙
        and_part (depth - 1) (drop (node + 1) (map node_of codes)) (drop atom ws) (meant codes ws p) (meant codes ws r) (s.part ws e) (t.part ws e) ∙
        (λ i. record { truth = sym (w.says ws e) i; nodes = drop r.node (map node_of codes); worths = drop r.atom ws });
    node_after = t.node_after;
    atom_after = t.atom_after;
  }

  pub settles_or : {p r : Part} {words : List ℕ} → WordsOf (λ ws. truth_at p.truths ws || truth_at r.truths ws) words → (depth ≡ 0 → ⊥) → (node ≡ 64 → ⊥) → get_or codes node 0 ≡ 5 → Settles codes (node + 1) atom (depth - 1) p → Settles codes p.node p.atom (depth - 1) r → Settles codes node atom depth (record { truths = words; node = r.node; atom = r.atom })
  settles_or {p} {r} w d n c s t = record {
    four = w.four;
    part = λ ws e.
        opened Node.or (drop atom ws) d n (ap node_of c) ∙
        or_part (depth - 1) (drop (node + 1) (map node_of codes)) (drop atom ws) (meant codes ws p) (meant codes ws r) (s.part ws e) (t.part ws e) ∙
        (λ i. record { truth = sym (w.says ws e) i; nodes = drop r.node (map node_of codes); worths = drop r.atom ws });
    node_after = t.node_after;
    atom_after = t.atom_after;
  }
