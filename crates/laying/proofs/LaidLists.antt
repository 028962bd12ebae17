-- A formula laid: a comparison, a connective, and the parts of a list one after the other. Assumes nothing.
use Prim.Native.Nat.{ℕ, suc, ◌-◌, ◌≤◌, ◌<◌}
use native.Mathlib.Decide.{ℕ_discrete}
use native.Mathlib.Omega.{arith}
use mathlib.Core.Path.{◌≡◌, refl, sym, ap, ◌∙◌, subst}
use mathlib.Core.Logic.{by_cases}
use mathlib.Core.Bool.{Bool, true, false, not, cond}
use mathlib.Core.Option.{Option, none, some}
use mathlib.Core.List.{List, [], ◌∷◌}
use lib.ListN.{length}
use lib.Dec.{T, eqb}
use borrow.Author.Tests.{eq-eqb, ne_eqb, eqb-true}
use Rattle.std.proofs.Common.{Result, Ok, Err}
use Rattle.std.specs.Result.{IfOk}
use Rattle.std.specs.Prelude.{Some, None, is_some}
use Rattle.lexicon.specs.Spots.{Position, spot_of, spot_some}
use Rattle.scope.specs.declared.Refusal.{Refusal}
use Rattle.scope.specs.Question.{node_of}
use Rattle.smtlib.specs.Lexicon.{most_nesting}
use Rattle.smtlib.specs.Forms.{nothing, outermost}
use Rattle.smtlib.specs.Terms.{compare, collected_fit, Term, terms_of}
use Rattle.smtlib.specs.Formulas.{Clause, list_clause, clauses_of}
use Rattle.smtlib.specs.Imported.{connective, placed_from}
use Rattle.forms.specs.Places.{forms_at, outer, around, Unbroken}
use Rattle.forms.specs.Read.{rest_of}
use Rattle.terms.specs.declared.ListTerm.{ListTerm}
use Rattle.terms.specs.declared.heads.ListKind.{ListKind}
use Rattle.terms.specs.Heads.{word_code, KindSays}
use Rattle.terms.specs.Read.{ListReads, Inside}
use Rattle.laying.specs.declared.Laying.{Laying}
use Rattle.laying.specs.declared.Laid.{Laid}
use Rattle.laying.specs.declared.lists.ListStart.{ListStart}
use Rattle.laying.specs.declared.lists.PartEnd.{PartEnd}
use Rattle.laying.specs.Laid.{Layable, LaysMore, Refuses}
use Rattle.laying.specs.Noted.{at_depth, relation_of, comparison_laid}
use Rattle.laying.specs.Deeper.{DeepenedIf}
use Rattle.laying.specs.Texts.{FirstFaultless, AllFaultless, HeadedList, ListStarts, ListLaid, ListLays, PartEnded, PartEnds, join_code, PartsLaid, PartsLaidOr, ClauseLaid, ClauseLays}
use Rattle.laying.specs.More.{more_depth_back, refused_before}
use Rattle.laying.specs.Joins.{clause_start, joined_nodes, JoinsOnward, joins_begun, joins_ready, join_refused, last_joined, part_refused, joins_onward}
use Rattle.laying.proofs.Clauses.{relation_code, sides_told, ConnectiveTold, connective_told, head_known, clause_start_lem, FirstPart, first_part, later_parts}

first_same : {c d : Clause} {cs ds : List Clause} → ◌≡◌ {A = List Clause} (c ∷ cs) (d ∷ ds) → c ≡ d
first_same e = cc

later_same : {c d : Clause} {cs ds : List Clause} → ◌≡◌ {A = List Clause} (c ∷ cs) (d ∷ ds) → cs ≡ ds
later_same e = cc

-- where what was laid ends
pub sides_further : (at next most : ℕ) (r : Result ℕ Refusal) → at < next → IfOk r (λ q. (next < q) × (q ≤ most)) → IfOk r (λ q. (at < q) × (q ≤ most))
sides_further at next most (Ok q) l h = (omega (arith, l, h.0), h.1)
sides_further at next most (Err e) l h = tt

-- what is behind a part, as the joins have it
abbrev is_last : Position → Bool
is_last None = true
is_last (Some at) = false

abbrev place_of : Position → ℕ
place_of None = 0
place_of (Some at) = at

asked : (o : Position) → is_some o ≡ not (is_last o)
asked None = refl
asked (Some at) = refl

another_not_last : (o : Position) → is_some o ≡ true → is_last o ≡ false
another_not_last None e = sym e
another_not_last (Some at) e = refl

starts_as : (x : Option ℕ) (o : Position) → o ≡ spot_of x → x ≡ cond (is_last o) none (some (place_of o))
starts_as none o e = rw e refl
starts_as (some at) o e = rw e refl

-- ---- comparisons

pub sides_small : (text : List ℕ) (at depth : ℕ) (names : List (List ℕ)) (head place : ℕ) (sides : ListTerm) → 3 ≤ head → head ≤ 7 → ListReads text at depth names head place sides → T (collected_fit sides.term.numbers)
unfolding ListReads
sides_small text at depth names head place sides l m reads = (reads (compare (relation_of head)) (relation_code head l m)).says.within_limit

module _ (text : List ℕ) (at depth : ℕ) (names : List (List ℕ)) (head place : ℕ) (before : Laying) (sides : ListTerm) (l : 3 ≤ head) (m : head ≤ 7) (reads : ListReads text at depth names head place sides) where
  pub sides_laid : (after : Laying) → LaysMore (comparison_laid before.depth head place sides.term.numbers ∷ []) before after → ListLays text at depth names head place before (Ok (record { laying = after; next = sides.next }))
  unfolding ListReads ListLays
  sides_laid after laid h e f =
      let read = reads h e in
      let told = sides_told before.depth head place h (terms_of names (forms_at text at)) (clauses_of names (forms_at text at)) l m e f in
      record { laid = rw (told.placed, ← read.says.numbers_are told.gathered_faultless) laid; closed = read.closed }

  pub sides_refused : (r : Refusal) → Refuses (comparison_laid before.depth head place sides.term.numbers ∷ []) before r → ListLays text at depth names head place before (Err r)
  unfolding ListReads ListLays
  sides_refused r k h e f =
      let read = reads h e in
      let told = sides_told before.depth head place h (terms_of names (forms_at text at)) (clauses_of names (forms_at text at)) l m e f in
      rw (told.placed, ← read.says.numbers_are told.gathered_faultless) k

pub no_comparison : {code : ℕ} (k : ListKind) → KindSays code k → (k ≡ ListKind.Comparison → ⊥) → 3 ≤ code → 8 ≤ code
no_comparison ListKind.Term t n l = omega (arith, t, l)
no_comparison ListKind.Comparison t n l = absurd (n refl)
no_comparison ListKind.Connective t n l = t.0
no_comparison ListKind.Other t n l = omega (arith, t)

-- ---- the list that stands next

pub join_code_bounds : (head : ℕ) → (4 ≤ join_code head) × (join_code head ≤ 5)
join_code_bounds head = go (eqb head 10)
  where
    go : (t : Bool) → (4 ≤ cond t 5 4) × (cond t 5 4 ≤ 5)
    go true = (omega arith, omega arith)
    go false = (omega arith, omega arith)

pub headed_here : {text : List ℕ} {at nesting : ℕ} (names : List (List ℕ)) {s : ListStart} → Inside text at nesting → ListStarts text at s → FirstFaultless (clauses_of names (forms_at text at)) → HeadedList text at (most_nesting - nesting) names s
unfolding ListStarts
headed_here {nesting = nesting} names i starts faultless = starts (most_nesting - nesting) names i.unbroken faultless

module _ {text : List ℕ} {at nesting : ℕ} {names : List (List ℕ)} {s : ListStart} (i : Inside text at nesting) (g : HeadedList text at (most_nesting - nesting) names s) where
  pub nesting_left : 0 < nesting
  nesting_left = omega (arith, g.nested)

  deeper : most_nesting - (nesting - 1) ≡ suc (most_nesting - nesting)
  deeper = omega (arith, nesting_left, i.left)

  pub parts_inside : s.next ≤ length text → Inside text s.next (nesting - 1)
  parts_inside l = record { here = l; left = omega (arith, i.left); unbroken = rw deeper g.unbroken }

  pub head_least : 3 ≤ (word_code s.head)
  head_least = omega (arith, g.code_is, head_known g.head s.place _ _ g.faultless)

  abbrev terms : List Term
  terms = terms_of names (forms_at text s.next)

  abbrev parts : List Clause
  parts = clauses_of names (forms_at text s.next)

  clause_laid : (before : Laying) (r : Laid) → ListLaid text s.next (most_nesting - (nesting - 1)) names g.head s.place before r → ClauseLays text at (most_nesting - nesting) names before (Ok r)
  unfolding ClauseLays
  clause_laid before r l c rest e =
      let same : list_clause g.head s.place terms parts ≡ c = first_same (sym g.clauses ∙ e) in
      let behind : most_nesting - (nesting - 1) - 1 ≡ most_nesting - nesting = omega (arith, deeper) in
      record {
        laid = subst (λ (d : Clause). LaysMore (placed_from before.depth d.formula) before r.laying) same l.laid;
        clauses = g.clauses ∙ (λ j. same j ∷ clauses_of names (outermost (sym l.closed.levels j)));
        levels = ap outer l.closed.levels ∙ g.levels;
        unbroken = rw behind at l.closed.unbroken;
      }

  clause_refused : (before : Laying) (r : Refusal) → Refuses (placed_from before.depth (list_clause g.head s.place terms parts).formula) before r → ClauseLays text at (most_nesting - nesting) names before (Err r)
  unfolding ClauseLays
  clause_refused before r k c rest e = subst (λ (d : Clause). Refuses (placed_from before.depth d.formula) before r) (first_same (sym g.clauses ∙ e)) k

  -- a comparison
  pub sides_clause : (before : Laying) (r : Result Laid Refusal) → ListLays text s.next (most_nesting - (nesting - 1)) names (word_code s.head) s.place before r → ClauseLays text at (most_nesting - nesting) names before r
  unfolding ListLays
  sides_clause before (Ok r) lays = clause_laid before r (lays g.head g.code_is g.faultless)
  sides_clause before (Err r) lays = clause_refused before r (lays g.head g.code_is g.faultless)

  -- a connective: a negation first, and then its parts
  module _ (l : 8 ≤ (word_code s.head)) (before : Laying) where
    told : ConnectiveTold before.depth (word_code s.head) s.place g.head terms parts
    told = connective_told before.depth (word_code s.head) s.place g.head terms parts l g.code_is g.faultless

    pub parts_sound : AllFaultless parts
    parts_sound = told.parts_faultless

    pub negation_refused : (r : Refusal) → eqb (word_code s.head) 8 ≡ true → Refuses (connective s.place before.depth (node_of 3) ∷ []) before r → ClauseLays text at (most_nesting - nesting) names before (Err r)
    negation_refused r e k = clause_refused before r (rw (told.negates (eqb-true (word_code s.head) 8 e)) (refused_before before (connective s.place before.depth (node_of 3) ∷ []) r k _))

    module _ (begun : Laying) (ready : Layable before) (d : DeepenedIf (eqb (word_code s.head) 8) (connective s.place before.depth (node_of 3)) before begun) where
      pub parts_ready : Layable begun
      parts_ready = by_cases (ℕ_discrete (word_code s.head) 8)
          (λ e. (d.asked_for (eq-eqb (word_code s.head) 8 e)).ready)
          (λ n. rw (d.as_before (ne_eqb (word_code s.head) 8 n)) ready)

      pub parts_refused : (r : Refusal) → Refuses (joined_nodes begun.depth (join_code (word_code s.head)) s.place parts) begun r → ClauseLays text at (most_nesting - nesting) names before (Err r)
      parts_refused r k = clause_refused before r (by_cases (ℕ_discrete (word_code s.head) 8)
          (λ e. let n = d.asked_for (eq-eqb (word_code s.head) 8 e) in rw (told.negates e) (n.refused _ r (rw (← n.deeper) k)))
          (λ n. rw (told.joins n) (rw (d.as_before (ne_eqb (word_code s.head) 8 n)) at k)))

      pub parts_clause : (r : Laid) → PartsLaid text s.next (most_nesting - (nesting - 1)) names (join_code (word_code s.head)) s.place begun r
          → ClauseLays text at (most_nesting - nesting) names before (Ok (record { laying = at_depth r.laying before.depth; next = r.next }))
      parts_clause r p = clause_laid before _ (by_cases (ℕ_discrete (word_code s.head) 8)
          (λ e. let n = d.asked_for (eq-eqb (word_code s.head) 8 e) in record { laid = rw (told.negates e) (n.onward _ r.laying (rw (← n.deeper) p.laid)); closed = p.closed })
          (λ n. record { laid = rw (told.joins n) (more_depth_back before r.laying _ (rw (d.as_before (ne_eqb (word_code s.head) 8 n)) at p.laid)); closed = p.closed }))

-- ---- the parts of a list

-- those from a place on are still to be laid
pub record PartsOnward (text : List ℕ) (at depth : ℕ) (names : List (List ℕ)) (code place₀ : ℕ) (l₀ : Laying) (next place : ℕ) (l : Laying) : Type 0 where
  pub faultless : AllFaultless (clauses_of names (forms_at text next))
  pub levels : around text next ≡ around text at
  pub unbroken : Unbroken text next depth
  pub joins : JoinsOnward code place₀ (clauses_of names (forms_at text at)) l₀ place (clauses_of names (forms_at text next)) l

pub parts_begun : (text : List ℕ) (at depth : ℕ) (names : List (List ℕ)) (code place : ℕ) (l : Laying) → AllFaultless (clauses_of names (forms_at text at)) → Unbroken text at depth → Layable l → PartsOnward text at depth names code place l at place l
parts_begun text at depth names code place l f u r = record { faultless = f; levels = refl; unbroken = u; joins = joins_begun code place _ l r }

module _ {text : List ℕ} {at depth : ℕ} {names : List (List ℕ)} {code place₀ : ℕ} {l₀ : Laying} {next place : ℕ} {l : Laying} (j : PartsOnward text at depth names code place₀ l₀ next place l) where
  part : FirstPart names (forms_at text next)
  part = first_part names (forms_at text next) j.faultless

  pub part_faultless : FirstFaultless (clauses_of names (forms_at text next))
  part_faultless = rw part.clauses part.first_faultless

  part_there : forms_at text next ≡ nothing → ⊥
  unfolding clauses_of
  part_there e = rw e at j.faultless

  abbrev later : List Clause
  later = clauses_of names (rest_of (forms_at text next))

  joins_here : JoinsOnward code place₀ (clauses_of names (forms_at text at)) l₀ place (part.first ∷ later) l
  joins_here = subst (λ (cs : List Clause). JoinsOnward code place₀ (clauses_of names (forms_at text at)) l₀ place cs l) part.clauses j.joins

  module _ (p : PartEnd) (inside : 0 < depth) (low : 4 ≤ code) (high : code ≤ 5) (ends : PartEnds text next p) where
    ended : PartEnded text next depth p
    unfolding PartEnds
    ended = ends depth inside j.unbroken part_there

    pub part_further : next < p.next
    part_further = ended.further

    start : clause_start later ≡ cond (is_last p.another) none (some (place_of p.another))
    start = clause_start_lem names (rest_of (forms_at text next)) ∙ starts_as _ p.another ended.start_is

    pub join_stopped : is_some p.another ≡ true → (r : Refusal) → Refuses (connective place l.depth (node_of code) ∷ []) l r → PartsLaidOr text at depth names code place₀ l₀ (Err r)
    join_stopped e r k = join_refused code place₀ _ l₀ place part.first later l low high joins_here (is_last p.another) (place_of p.another) start (another_not_last p.another e) r k

    module _ (begun : Laying) (given : DeepenedIf (is_some p.another) (connective place l.depth (node_of code)) l begun) where
      d : DeepenedIf (not (is_last p.another)) (connective place l.depth (node_of code)) l begun
      d = rw (asked p.another) at given

      pub begun_ready : Layable begun
      begun_ready = joins_ready code place₀ _ l₀ place part.first later l low high joins_here (is_last p.another) (place_of p.another) start begun d

      pub part_stopped : (r : Refusal) → ClauseLays text next depth names begun (Err r) → PartsLaidOr text at depth names code place₀ l₀ (Err r)
      unfolding ClauseLays
      part_stopped r lays = part_refused code place₀ _ l₀ place part.first later l low high joins_here (is_last p.another) (place_of p.another) start begun d r (lays part.first later part.clauses)

      module _ (r : Laid) (lays : ClauseLays text next depth names begun (Ok r)) where
        laid_part : ClauseLaid text next depth names part.first begun r
        unfolding ClauseLays
        laid_part = lays part.first later part.clauses

        pub last_laid : p.another ≡ None → PartsLaid text at depth names code place₀ l₀ (record { laying = at_depth r.laying l₀.depth; next = p.next })
        last_laid e = record {
          laid = last_joined code place₀ _ l₀ place part.first later l low high joins_here (is_last p.another) (place_of p.another) start begun d r.laying laid_part.laid (rw e refl);
          closed = record { levels = (ended.closed e).levels ∙ j.levels; unbroken = (ended.closed e).unbroken };
        }

        pub parts_onward : (following : ℕ) → p.another ≡ Some following → PartsOnward text at depth names code place₀ l₀ r.next following r.laying
        parts_onward following e =
            let same : later ≡ clauses_of names (forms_at text r.next) = later_same (sym part.clauses ∙ laid_part.clauses) in
            record {
              faultless = rw (← same) (later_parts names following (forms_at text next) part (spot_some _ following (sym e ∙ ended.start_is)));
              levels = laid_part.levels ∙ j.levels;
              unbroken = laid_part.unbroken;
              joins = subst (λ (cs : List Clause). JoinsOnward code place₀ (clauses_of names (forms_at text at)) l₀ following cs r.laying) same
                  (rw e at (joins_onward code place₀ _ l₀ place part.first later l low high joins_here (is_last p.another) (place_of p.another) start begun d r.laying laid_part.laid (rw e refl)));
            }
