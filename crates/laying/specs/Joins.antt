-- Parts joined by a connective, laid one after the other: a join before each but the last, one level deeper from join to join.
use Rattle.std.specs.Prelude.{ℕ, suc, ◌≤◌, ◌≡◌, refl, Bool, true, false, not, cond, List, [], ◌∷◌, ◌++◌, eqb}
use Rattle.std.proofs.Math.Decide.{ℕ_discrete}
use Rattle.std.proofs.Common.{arith, ap, ◌∙◌, subst}
use Rattle.std.proofs.Math.Logic.{by_cases}
use Rattle.std.proofs.Math.Option.{Option, none, some}
use Rattle.scope.specs.declared.Refusal.{Refusal}
use Rattle.scope.specs.Question.{node_of}
use Rattle.smtlib.specs.Formulas.{Formula, Clause, joined_at, joining}
use Rattle.smtlib.specs.Imported.{conjoined, PlacedNode, connective, placed_from}
use Rattle.laying.specs.declared.Laying.{Laying}
use Rattle.laying.specs.Laid.{Layable, LaysMore, Refuses}
use Rattle.laying.specs.Noted.{at_depth}
use Rattle.laying.specs.Deeper.{Deepened, DeepenedIf}
use Rattle.laying.specs.More.{more_onward, more_depth_back, refused_behind, refused_before}

-- by the code of the connective
abbrev pub join_of : ℕ → ℕ → Formula → Formula → Formula
join_of code at f g = cond (eqb code 4) (Formula.and at f g) (Formula.or at f g)

placed_join : (code depth at : ℕ) (f g : Formula) → 4 ≤ code → code ≤ 5 → placed_from depth (join_of code at f g) ≡ connective at depth (node_of code) ∷ (placed_from (suc depth) f ++ placed_from (suc depth) g)
unfolding placed_from
placed_join code depth at f g l m = by_cases (ℕ_discrete code 4) (λ e. rw e refl) (λ n. let e : code ≡ 5 = omega arith in rw e refl)

-- where the first of them stands, if there is one
abbrev pub clause_start : List Clause → Option ℕ
clause_start [] = none
clause_start (c ∷ cs) = some c.place

last_joined_is : (join : ℕ → Formula → Formula → Formula) (at : ℕ) (c : Clause) (cs : List Clause) → clause_start cs ≡ none → (joining join at (c ∷ cs)).formula ≡ c.formula
unfolding joining joined_at
last_joined_is join at c [] e = refl
last_joined_is join at c (d ∷ cs) e = absurd (let z : ◌≡◌ {A = ℕ} 0 1 = cc in omega arith)

more_joined_is : (join : ℕ → Formula → Formula → Formula) (at place : ℕ) (c : Clause) (cs : List Clause) → clause_start cs ≡ some place → (joining join at (c ∷ cs)).formula ≡ join at c.formula (joining join place cs).formula
unfolding joining joined_at
more_joined_is join at place c [] e = absurd (let z : ◌≡◌ {A = ℕ} 0 1 = cc in omega arith)
more_joined_is join at place c (d ∷ cs) e = let same : d.place ≡ place = cc in ap (λ (k : ℕ). join at c.formula (joined_at join k d cs)) same

-- the assertions of a script are joined so
pub conjoined_is : (c : Clause) (cs : List Clause) → conjoined (c ∷ cs) ≡ (joining (join_of 4) c.place (c ∷ cs)).formula
unfolding joining
conjoined_is c cs = refl

-- ---- what is still to be laid gives the whole

abbrev pub joined_nodes : ℕ → ℕ → ℕ → List Clause → List PlacedNode
joined_nodes depth code place cs = placed_from depth (joining (join_of code) place cs).formula

pub record JoinsOnward (code place₀ : ℕ) (cs₀ : List Clause) (l₀ : Laying) (place : ℕ) (cs : List Clause) (l : Laying) : Type 0 where
  pub ready : Layable l
  pub onward : (after : Laying) → LaysMore (joined_nodes l.depth code place cs) l after → LaysMore (joined_nodes l₀.depth code place₀ cs₀) l₀ (at_depth after l₀.depth)
  pub refused : (r : Refusal) → Refuses (joined_nodes l.depth code place cs) l r → Refuses (joined_nodes l₀.depth code place₀ cs₀) l₀ r

pub joins_begun : (code place : ℕ) (cs : List Clause) (l : Laying) → Layable l → JoinsOnward code place cs l place cs l
joins_begun code place cs l r = record { ready = r; onward = λ after m. more_depth_back l after _ m; refused = λ r k. k }

-- the next part c, which may be the last; else another one follows, at its place; the join is laid where it is not
module _ (code place₀ : ℕ) (cs₀ : List Clause) (l₀ : Laying) (place : ℕ) (c : Clause) (cs : List Clause) (l : Laying) (low : 4 ≤ code) (high : code ≤ 5)
    (j : JoinsOnward code place₀ cs₀ l₀ place (c ∷ cs) l) (last : Bool) (following : ℕ) (start : clause_start cs ≡ cond last none (some following)) where
  abbrev here : List PlacedNode
  here = placed_from (suc l.depth) c.formula

  abbrev behind : List PlacedNode
  behind = joined_nodes (suc l.depth) code following cs

  module _ (e : last ≡ false) where
    more_nodes : joined_nodes l.depth code place (c ∷ cs) ≡ connective place l.depth (node_of code) ∷ (here ++ behind)
    more_nodes = ap (placed_from l.depth) (more_joined_is (join_of code) place following c cs (rw e at start)) ∙ placed_join code l.depth place c.formula (joining (join_of code) following cs).formula low high

    pub join_refused : (r : Refusal) → Refuses (connective place l.depth (node_of code) ∷ []) l r → Refuses (joined_nodes l₀.depth code place₀ cs₀) l₀ r
    join_refused r k = j.refused r (rw more_nodes (refused_before l (connective place l.depth (node_of code) ∷ []) r k (here ++ behind)))

  module _ (begun : Laying) (d : DeepenedIf (not last) (connective place l.depth (node_of code)) l begun) where
    module _ (e : last ≡ true) where
      last_nodes : joined_nodes l.depth code place (c ∷ cs) ≡ placed_from l.depth c.formula
      last_nodes = ap (placed_from l.depth) (last_joined_is (join_of code) place c cs (rw e at start))

      same_laying : begun ≡ l
      same_laying = d.as_before (rw e refl)

    joined : last ≡ false → Deepened (connective place l.depth (node_of code)) l begun
    joined e = d.asked_for (rw e refl)

    pub joins_ready : Layable begun
    joins_ready = go last refl
      where
        go : (t : Bool) → last ≡ t → Layable begun
        go true e = rw (same_laying e) j.ready
        go false e = (joined e).ready

    pub part_refused : (r : Refusal) → Refuses (placed_from begun.depth c.formula) begun r → Refuses (joined_nodes l₀.depth code place₀ cs₀) l₀ r
    part_refused r k = go last refl
      where
        go : (t : Bool) → last ≡ t → Refuses (joined_nodes l₀.depth code place₀ cs₀) l₀ r
        go true e = j.refused r (rw (last_nodes e) (rw (same_laying e) at k))
        go false e = j.refused r (rw (more_nodes e) ((joined e).refused (here ++ behind) r (refused_before begun here r (subst (λ (n : ℕ). Refuses (placed_from n c.formula) begun r) (joined e).deeper k) behind)))

    module _ (r : Laying) (laid : LaysMore (placed_from begun.depth c.formula) begun r) where
      pub last_joined : last ≡ true → LaysMore (joined_nodes l₀.depth code place₀ cs₀) l₀ (at_depth r l₀.depth)
      last_joined e = j.onward r (rw (last_nodes e) (rw (same_laying e) at laid))

      module _ (e : last ≡ false) where
        deeper_laid : LaysMore here begun r
        deeper_laid = subst (λ (k : ℕ). LaysMore (placed_from k c.formula) begun r) (joined e).deeper laid

        deep : r.depth ≡ suc l.depth
        deep = laid.depth_kept ∙ (joined e).deeper

        pub joins_onward : JoinsOnward code place₀ cs₀ l₀ following cs r
        joins_onward = record {
          ready = record { few = omega (arith, laid.n_kept, joins_ready.few) };
          onward = λ after m. j.onward (at_depth after l.depth) (rw (more_nodes e) ((joined e).onward (here ++ behind) after (more_onward begun r here deeper_laid after behind (subst (λ (k : ℕ). LaysMore (joined_nodes k code following cs) r after) deep m))));
          refused = λ r' k. j.refused r' (rw (more_nodes e) ((joined e).refused (here ++ behind) r' (refused_behind begun r here deeper_laid behind r' (subst (λ (n : ℕ). Refuses (joined_nodes n code following cs) r r') deep k))));
        }
