-- Exploring in its loops: it stands somewhere and has not stopped; one letter more, or one row, takes it further, or to an end.
use Prim.Native.Nat.{ℕ, ◌*◌, ◌-◌, ◌≤◌, ◌<◌}
use mathlib.Core.Path.{◌≡◌, refl, sym, ap, ◌∙◌}
use mathlib.Core.Logic.{◌⊎◌, inl, inr, ⊎_elim}
use mathlib.Core.List.{List}
use native.Mathlib.Nat.{mul-le-mul_right}
use native.Mathlib.Omega.{arith}
use lib.ListN.{take}
use lib.Seq.{take-take}
use lib.IntN.{ℤ}
use Rattle.scope.specs.Numbering.{Machine}
use Rattle.index.specs.Rows.{row_at, front_row}
use Rattle.index.specs.Index.{Key}
use Rattle.plan.specs.declared.Plan.{Plan}
use Rattle.plan.specs.declared.Stand.{Stand}
use Rattle.plan.specs.declared.Stop.{Stop}
use Rattle.plan.specs.Machine.{Runs}
use Rattle.plan.specs.Moves.{place, stand_of}
use Rattle.std.specs.Prelude.{Result, Ok, Err}
use Rattle.explore.proofs.Trying.{ok_same, not_ok}
use Rattle.explore.specs.Areas.{kept_refl, kept_trans}
use Rattle.explore.specs.Standing.{Linked, Stands, RowOf, Went, Tried, FrontStays, ExploringEnded}

pub record Exploring (M : Machine (List ℤ)) (plan : Plan) (count₀ : ℕ) (keys₀ : List ℤ) (path₀ : List ℕ) (keys : List ℤ) (path links : List ℕ) (s : Stand) : Type 0 where
  pub went : Went M plan count₀ keys₀ path₀ keys path (Ok s)
  pub linked : Linked plan keys links s.count

pub begins : {M : Machine (List ℤ)} {plan : Plan} {keys : List ℤ} {path links : List ℕ} {s : Stand} → Stands M plan keys path s → Linked plan keys links s.count
    → Exploring M plan s.count keys path keys path links s
begins {M} {plan} {keys} {path} {s = s} t linked = record {
  went = record { more = omega arith; kept = kept_refl plan.width plan.noting s.count keys path; there = t };
  linked = linked;
}

module _ {M : Machine (List ℤ)} {plan : Plan} {count₀ : ℕ} {keys₀ : List ℤ} {path₀ : List ℕ} {keys : List ℤ} {path links : List ℕ} {s : Stand}
    (e : Exploring M plan count₀ keys₀ path₀ keys path links s) where
  pub stands : Stands M plan keys path s
  stands = e.went.there

  pub ends : s.count ≤ s.row → ExploringEnded M plan count₀ keys₀ path₀ keys path (Ok s)
  ends h = record { went = e.went; all = λ r q. rw (← ok_same q) h }

  module _ {keys' : List ℤ} {path' links' : List ℕ} {r : Result Stand Stop} (tried : Tried M plan s keys path keys' path' links' r) where
    pub goes : Went M plan count₀ keys₀ path₀ keys' path' r
    goes = record {
      more = omega (arith, e.went.more, tried.went.more);
      kept = kept_trans s.count (stand_of r).count tried.went.more e.went.kept tried.went.kept;
      there = tried.went.there;
    }

    pub goes_on_lem : {t : Stand} → r ≡ Ok t → Exploring M plan count₀ keys₀ path₀ keys' path' links' t
    goes_on_lem {t} h = record { went = rw h at goes; linked = tried.linked t h }

    pub stops : {o : Stop} → r ≡ Err o → ExploringEnded M plan count₀ keys₀ path₀ keys' path' (Err o)
    stops h = record { went = rw h at goes; all = λ t q. absurd (not_ok q) }

-- ---- at letter after letter of the row at which `from` stands, or past it

pub record InRow (M : Machine (List ℤ)) (plan : Plan) (from : Stand) (keys₀ : List ℤ) (path₀ : List ℕ) (keys : List ℤ) (path links : List ℕ) (s : Stand) : Type 0 where
  pub exploring : Exploring M plan from.count keys₀ path₀ keys path links s
  pub front : FrontStays plan from keys₀ keys
  pub on : (s ≡ from) ⊎ (place from < place s)

pub enters : {M : Machine (List ℤ)} {plan : Plan} {from : Stand} {keys : List ℤ} {path links : List ℕ} → Stands M plan keys path from
    → Linked plan keys links from.count → InRow M plan from keys path keys path links from
enters t linked = record { exploring = begins t linked; front = refl; on = inl refl }

module _ {M : Machine (List ℤ)} {plan : Plan} {from : Stand} {keys₀ : List ℤ} {path₀ : List ℕ} {keys : List ℤ} {path links : List ℕ} {s : Stand}
    (t : InRow M plan from keys₀ path₀ keys path links s) (below : from.row < from.count) where
  not_back : place from ≤ place s
  not_back = ⊎_elim (λ e. rw e (omega arith)) (λ h. omega arith) t.on

  -- the row's cells stay
  pub row_of_lem : {row : List ℤ} → take plan.width row ≡ row_at keys₀ plan.width from.row → Key plan.width row → s.row ≡ from.row → RowOf plan keys s row
  row_of_lem cells key same = record {
    below = omega (arith, t.exploring.went.more);
    cells = rw same (cells ∙ sym (front_row keys keys₀ plan.width from.count from.row t.front below));
    key = key;
  }

  -- past the row
  pub leaves : (s.row ≡ from.row → ⊥) → Tried M plan from keys₀ path₀ keys path links (Ok s)
  leaves out = record {
    went = t.exploring.went;
    linked = λ r e. rw (← ok_same e) t.exploring.linked;
    on = λ r e. rw (← ok_same e) (⊎_elim (λ q. absurd (out (ap (λ (x : Stand). x.row) q))) (λ h. h) t.on);
  }

  module _ {keys' : List ℤ} {path' links' : List ℕ} {r : Result Stand Stop} (tried : Tried M plan s keys path keys' path' links' r) (front : FrontStays plan s keys keys') where
    pub again : {t' : Stand} → r ≡ Ok t' → InRow M plan from keys₀ path₀ keys' path' links' t'
    again {t'} going = record {
      exploring = goes_on_lem t.exploring tried going;
      front =
          let h : from.count * plan.width ≤ s.count * plan.width = mul-le-mul_right plan.width t.exploring.went.more in
          sym (take-take (from.count * plan.width) (s.count * plan.width) keys' h)
          ∙ ap (take (from.count * plan.width)) front
          ∙ take-take (from.count * plan.width) (s.count * plan.width) keys h
          ∙ t.front;
      on = inr (omega (arith, not_back, tried.on t' going));
    }

    pub ends_there : {o : Stop} → r ≡ Err o → Tried M plan from keys₀ path₀ keys' path' links' (Err o)
    ends_there h = record { went = rw h at (goes t.exploring tried); linked = λ u e. absurd (not_ok e); on = λ u e. absurd (not_ok e) }

-- ---- the machine stays, since the start's cells do

pub start_stays : {plan : Plan} {sums start : List ℤ} {M : Machine (List ℤ)} → Runs plan sums start M
    → {keys : List ℤ} {path : List ℕ} {s : Stand} → Stands M plan keys path s → take plan.width keys ≡ start
start_stays runs s = s.rows_there.start_is ∙ runs.start_is

-- how far there is to go at most
abbrev pub left : ℕ → Stand → ℕ
left rows s = rows * 64 - place s

pub less_left : (rows : ℕ) (s t : Stand) → s.row < rows → s.letter < 64 → place s < place t → left rows t < left rows s
less_left rows s t h g f = omega arith
