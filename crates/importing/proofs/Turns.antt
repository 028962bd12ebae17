-- One command of a text without fault: what is declared and laid behind it.
use Prim.Native.Nat.{ℕ, zero, suc, ◌+◌, ◌-◌, ◌≤◌, ◌<◌}
use native.Mathlib.Omega.{arith}
use mathlib.Core.Path.{◌≡◌, refl, sym, ap, ◌∙◌, subst}
use mathlib.Core.Bool.{Bool, true, false, true≢false}
use mathlib.Core.Option.{none, some}
use mathlib.Core.List.{List, [], ◌∷◌, ◌++◌, append_assoc, cons≢nil}
use lib.Dec.{leb, ltb, eqb}
use lib.ListN.{length, drop, length-append, length-map}
use borrow.Author.Tests.{leb-true, leb-false, eqb-true, eqb-false, lt-ltb, le-ltb}
use Rattle.std.proofs.Common.{Ok, Err, Option, Some, None, is_some}
use Rattle.std.specs.Prelude.{◌≢◌}
use Rattle.scope.specs.declared.Refusal.{Refusal}
use Rattle.smtlib.specs.Forms.{Forms, nothing, list, outermost}
use Rattle.smtlib.specs.Formulas.{Clause, joined_at, clauses_of}
use Rattle.smtlib.specs.Script.{Command, command_of, behind, Declaration, Script, names_of, signs, script_from}
use Rattle.smtlib.specs.Imported.{PlacedNode, placed_from}
use Rattle.smtlib.specs.Cases.{script_in}
use Rattle.forms.specs.declared.Form.{Form}
use Rattle.forms.specs.Places.{forms_at, Unbroken}
use Rattle.forms.specs.Read.{CLOSE, OPEN, FormRead, FormReads, FormStands, ListEnds}
use Rattle.forms.specs.Following.{ended_forms}
use Rattle.terms.specs.Names.{names_from, names_in, NamesStand}
use Rattle.terms.specs.Read.{Inside}
use Rattle.laying.specs.declared.Laying.{Laying}
use Rattle.laying.specs.Laid.{Lays, LaysMore, Refuses}
use Rattle.laying.specs.Noted.{at_depth}
use Rattle.laying.specs.Texts.{FirstFaultless}
use Rattle.script.specs.declared.CommandName.{CommandName}
use Rattle.script.specs.declared.CommandHead.{CommandHead}
use Rattle.script.specs.Parts.{ListHere}
use Rattle.script.specs.Commands.{command_name, name_place, CommandReads, SignedBy}
use Rattle.importing.specs.declared.commands.Progress.{Progress}
use Rattle.importing.specs.Underway.{FaultlessText, join_laid, JoinLaid, AssertionLaid, AssertionRefused, AssertionLays, rest_laid, whole_laid, first_refused, Underway, LaidSoFar}
use Rattle.importing.proofs.Faultless.{Does, sets, names_one, signs_one, asserts_one, checks, Grows, script_grows, script_ended, behind_first, first_command, first_does, no_word}

-- ---- lists

append_same : {A : Type 0} (k l m : List A) → k ++ l ≡ k ++ m → l ≡ m
append_same [] l m e = e
append_same (x ∷ k) l m e = append_same k l m (ap (drop 1) e)

abbrev first_name : List (List ℕ) → List ℕ
first_name [] = []
first_name (w ∷ names) = w

-- the first names are those of the first bounds
names_first : (text bounds : List ℕ) (i n : ℕ) (names rest : List (List ℕ)) → names ++ rest ≡ names_from text bounds i n → names ≡ names_from text bounds i (length names)
unfolding names_from
names_first text bounds i n [] rest e = refl
names_first text bounds i zero (w ∷ names) rest e = absurd (cons≢nil e)
names_first text bounds i (suc n) (w ∷ names) rest e = λ j. ap first_name e j ∷ names_first text bounds (suc i) n names rest (ap (drop 1) e) j

-- ---- the depth does not count

depth_aside : (xs : List PlacedNode) (l : Laying) (depth : ℕ) → Lays xs (at_depth l depth) → Lays xs l
depth_aside xs l depth h = let k = h.held_in in record { none_refused = h.none_refused; held_in = record { question_is = k.question_is; nodes_are = k.nodes_are; atoms_are = k.atoms_are } }

-- ---- what is still to be laid, from a clause on

rest_last : (depth : ℕ) (c : Clause) → rest_laid depth (c ∷ []) ≡ placed_from depth c.formula
unfolding joined_at
rest_last depth c = refl

rest_more : (depth : ℕ) (c d : Clause) (cs : List Clause) → rest_laid depth (c ∷ d ∷ cs) ≡ join_laid depth c (rest_laid (suc depth) (d ∷ cs))
unfolding joined_at placed_from
rest_more depth c d cs = refl

-- a command known by its name, what it does, and what stands behind it
pub record CommandTurn (text : List ℕ) (s : Script) (h : CommandHead) (next : ℕ) : Type 0 where
  pub behind_it : Script
  pub command : Command
  pub name_is : h.name ≡ command_name command
  pub does : Does s behind_it (forms_at text h.next) command
  pub parts_unbroken : Unbroken text h.next 1
  pub final_is : script_from behind_it (forms_at text next) ≡ script_in text
  pub unbroken : Unbroken text next 0

does_known : {s r : Script} {parts : Forms} {c : Command} → Does s r parts c → command_name c ≢ CommandName.Other
does_known (sets h) z = omega (arith, ap name_place z)
does_known (names_one h k) z = omega (arith, ap name_place z)
does_known (signs_one w h k) z = omega (arith, ap name_place z)
does_known (asserts_one k a b d l m) z = omega (arith, ap name_place z)
does_known (checks h) z = omega (arith, ap name_place z)

-- the assertion that is laid next, and those behind it
pub record AssertedNext (text bounds : List ℕ) (p : Progress) (u : Underway text p) (h : CommandHead) (r : Script) : Type 0 where
  pub clause : Clause
  pub clauses_here : clauses_of (names_in text bounds p.count) (forms_at text h.next) ≡ clause ∷ []
  pub faultless : clause.faults ≡ []
  pub rest : List Clause
  pub clauses_are : u.clauses ≡ clause ∷ rest
  pub asserted_are : (script_in text).asserted ≡ r.asserted ++ rest
  pub counted : p.count ≡ length r.declarations

module _ (text bounds : List ℕ) (p : Progress) (t : FaultlessText text bounds p.laying.n) (u : Underway text p) where
  abbrev s : Script
  s = u.so_far

  grows : Grows s (script_in text)
  grows = subst (Grows s) u.final_is (script_grows (forms_at text p.next) s)

  -- ---- the names so far

  pub count_few : p.count ≤ p.laying.n
  count_few =
      let g = grows in
      omega (arith, u.counted, t.counted, ap length g.names_are, length-append (names_of s.declarations) g.names, length-map s.declarations (λ (d : Declaration). d.name), length-map (script_in text).declarations (λ (d : Declaration). d.name))

  pub names_so_far : names_of s.declarations ≡ names_in text bounds p.count
  names_so_far =
      let g = grows in
      let n : length (names_of s.declarations) ≡ p.count = length-map s.declarations (λ (d : Declaration). d.name) ∙ sym u.counted in
      names_first text bounds 0 p.laying.n (names_of s.declarations) g.names (sym g.names_are ∙ t.names_are) ∙ ap (λ (k : ℕ). names_from text bounds 0 k) n

  pub names_stand_so_far : NamesStand text bounds p.count
  names_stand_so_far =
      let h = count_few in
      record {
        room = omega (arith, t.names_stand.room);
        at_most_seven = omega (arith, t.names_stand.at_most_seven);
        spans = λ i l. t.names_stand.spans i (omega arith);
      }

  -- ---- the command that stands next

  final_outside : (script_from s (forms_at text p.next)).outside ≡ []
  final_outside = ap (λ (r : Script). r.outside) u.final_is ∙ t.outside

  final_beyond : (script_from s (forms_at text p.next)).beyond ≡ []
  final_beyond = ap (λ (r : Script). r.beyond) u.final_is ∙ t.beyond

  module _ (left : 0 < p.left) (f : Form) (reads : FormReads text p.next f) where
    form_read : FormRead text p.next 0 f
    unfolding FormReads
    form_read = reads 0 u.unbroken

    -- an assertion is left, so some form is
    not_ended : forms_at text p.next ≡ nothing → ⊥
    not_ended e =
        let same : s ≡ script_in text = sym (script_ended s) ∙ ap (script_from s) (sym e) ∙ u.final_is in
        let asserted : length s.asserted ≡ length (script_in text).asserted = ap (λ (r : Script). length r.asserted) same in
        omega (arith, asserted, ap length u.clauses_are, length-append s.asserted u.clauses, u.left_is)

    list_there : f.kind ≡ OPEN
    list_there = go (leb f.kind CLOSE) refl
      where
        open_or_word : (b : Bool) → eqb f.kind OPEN ≡ b → CLOSE < f.kind → f.kind ≡ OPEN
        open_or_word true k h = eqb-true _ _ k
        open_or_word false k h =
            let n : f.kind ≡ OPEN → ⊥ = eqb-false _ _ k in
            let w = (form_read.word_here (omega arith)).forms in
            absurd (no_word s _ _ _ (ap (λ (l : Forms). (script_from s l).outside) (sym w) ∙ final_outside) (ap (λ (l : Forms). (script_from s l).beyond) (sym w) ∙ final_beyond))

        go : (b : Bool) → leb f.kind CLOSE ≡ b → f.kind ≡ OPEN
        go true k = absurd (not_ended (ended_forms text p.next 0 f form_read (leb-true _ _ k)))
        go false k = open_or_word (eqb f.kind OPEN) refl (leb-false _ _ k)

    pub form_further : FormStands text p.next f → p.next < f.next
    form_further stands = let k = list_there in let g = stands.goes_on (λ e. omega arith) in omega (arith, stands.not_before)

    module _ (h : CommandHead) (command : CommandReads text f.next h) (next : ℕ) (ends : ListEnds text f.next next) where
      inner : Forms
      inner = forms_at text f.next

      r : Script
      r = behind_first s f.place inner (forms_at text next)

      listed : forms_at text p.next ≡ list f.place inner (forms_at text next)
      unfolding ListEnds inner
      listed = let o = form_read.open_list list_there in o.forms ∙ ap (list f.place (forms_at text f.next)) (sym (ap outermost (ends 0 o.unbroken).levels))

      behind_final : script_from r (forms_at text next) ≡ script_in text
      unfolding r
      behind_final = sym (first_command s f.place inner (forms_at text next)) ∙ ap (script_from s) (sym listed) ∙ u.final_is

      command_done : Does s r (behind inner) (command_of inner)
      unfolding r
      command_done = first_does s f.place inner (forms_at text next) (ap (λ (q : Script). q.outside) behind_final ∙ t.outside) (ap (λ (q : Script). q.beyond) behind_final ∙ t.beyond)

      pub command_turned : CommandTurn text s h next
      unfolding CommandReads ListEnds inner
      command_turned =
          let o = form_read.open_list list_there in
          let read = command 1 o.unbroken in
          let known = read.parts_behind (λ z. does_known command_done (sym read.name_is ∙ z)) in
          record {
            behind_it = r;
            command = command_of (forms_at text f.next);
            name_is = read.name_is;
            does = subst (λ (l : Forms). Does s r l (command_of (forms_at text f.next))) (ap behind known.forms) command_done;
            parts_unbroken = known.unbroken;
            final_is = behind_final;
            unbroken = (ends 0 o.unbroken).unbroken;
          }

  -- ---- how far it is laid behind that command

  module _ (left : 0 < p.left) (h : CommandHead) (next : ℕ) (inside : next ≤ length text) (turn : CommandTurn text s h next) where
    -- no assertion is laid
    same_laid : (count : ℕ) → count ≡ length turn.behind_it.declarations → turn.behind_it.asserted ≡ s.asserted
        → LaidSoFar text p.laying.n (record { laying = p.laying; count = count; left = p.left; next = next })
    same_laid count e a = record {
      n_is = refl;
      done = λ z. absurd (omega (arith, left, z));
      underway = λ l. record {
        so_far = turn.behind_it;
        clauses = u.clauses;
        here = inside;
        unbroken = turn.unbroken;
        final_is = turn.final_is;
        counted = e;
        clauses_are = u.clauses_are ∙ ap (λ (l : List Clause). l ++ u.clauses) (sym a);
        left_is = u.left_is;
        ready = u.ready;
        onward = u.onward;
        refused = u.refused;
      };
    }

    pub declared_laid : h.name ≡ CommandName.DeclareConst → LaidSoFar text p.laying.n (record { laying = p.laying; count = p.count + 1; left = p.left; next = next })
    declared_laid k = go turn.command turn.does turn.name_is
      where
        go : (c : Command) → Does s turn.behind_it (forms_at text h.next) c → h.name ≡ command_name c → LaidSoFar text p.laying.n (record { laying = p.laying; count = p.count + 1; left = p.left; next = next })
        go c (sets d) e = absurd (omega (arith, ap name_place (sym k ∙ e)))
        go c (names_one d a) e = same_laid (p.count + 1) (omega (arith, d, u.counted)) a
        go c (signs_one w d b) e = absurd (omega (arith, ap name_place (sym k ∙ e)))
        go c (asserts_one d a b g l m) e = absurd (omega (arith, ap name_place (sym k ∙ e)))
        go c (checks d) e = absurd (omega (arith, ap name_place (sym k ∙ e)))

    pub passed_laid : (h.name ≡ CommandName.DeclareConst → ⊥) → (h.name ≡ CommandName.Assert → ⊥) → LaidSoFar text p.laying.n (record { laying = p.laying; count = p.count; left = p.left; next = next })
    passed_laid k l = go turn.command turn.does turn.name_is
      where
        go : (c : Command) → Does s turn.behind_it (forms_at text h.next) c → h.name ≡ command_name c → LaidSoFar text p.laying.n (record { laying = p.laying; count = p.count; left = p.left; next = next })
        go c (sets d) e = same_laid p.count (u.counted ∙ sym d.0) d.1
        go c (names_one d a) e = absurd (k e)
        go c (signs_one w d b) e = absurd (l e)
        go c (asserts_one d a b g m n) e = absurd (l e)
        go c (checks d) e = same_laid p.count (u.counted ∙ sym d.0) d.1

    module _ (k : h.name ≡ CommandName.Assert) where
      pub parts_listed : h.next ≤ length text → ListHere text h.next
      parts_listed here = record { depth = 0; here = here; unbroken = turn.parts_unbroken }

      pub parts_inside : h.next ≤ length text → Inside text h.next 31
      parts_inside here = record { here = here; left = omega arith; unbroken = turn.parts_unbroken }

      module _ (signed : Option ℕ) (told : SignedBy (names_in text bounds p.count) (signs (names_in text bounds p.count) (forms_at text h.next)) p.count signed) where
        -- the name signed, or none
        one_signed : (o : Option ℕ) → SignedBy (names_in text bounds p.count) (signs (names_in text bounds p.count) (forms_at text h.next)) p.count o → is_some o ≡ true → (w : List ℕ) × (signs (names_in text bounds p.count) (forms_at text h.next) ≡ some w)
        one_signed (Some i) one e = (one.name, one.signs_it)
        one_signed None n e = absurd (true≢false (sym e))

        none_signed : (o : Option ℕ) → SignedBy (names_in text bounds p.count) (signs (names_in text bounds p.count) (forms_at text h.next)) p.count o → is_some o ≡ false → signs (names_in text bounds p.count) (forms_at text h.next) ≡ none
        none_signed (Some i) one e = absurd (true≢false e)
        none_signed None n e = n

        pub signed_laid : is_some signed ≡ true → LaidSoFar text p.laying.n (record { laying = p.laying; count = p.count; left = p.left; next = next })
        signed_laid l = go turn.command turn.does turn.name_is
          where
            go : (c : Command) → Does s turn.behind_it (forms_at text h.next) c → h.name ≡ command_name c → LaidSoFar text p.laying.n (record { laying = p.laying; count = p.count; left = p.left; next = next })
            go c (sets d) e = absurd (omega (arith, ap name_place (sym k ∙ e)))
            go c (names_one d a) e = absurd (omega (arith, ap name_place (sym k ∙ e)))
            go c (signs_one w d b) e = same_laid p.count (u.counted ∙ sym b.0) b.1
            go c (asserts_one d a b g m n) e =
                let (w, signs_it) = one_signed signed told l in
                let z : none ≡ some w = sym a ∙ ap (λ (names : List (List ℕ)). signs names (forms_at text h.next)) names_so_far ∙ signs_it in
                absurd (let y : ◌≡◌ {A = ℕ} 0 1 = cc in omega arith)
            go c (checks d) e = absurd (omega (arith, ap name_place (sym k ∙ e)))

        pub asserted_next : is_some signed ≡ false → AssertedNext text bounds p u h turn.behind_it
        asserted_next l = go turn.command turn.does turn.name_is
          where
            go : (c : Command) → Does s turn.behind_it (forms_at text h.next) c → h.name ≡ command_name c → AssertedNext text bounds p u h turn.behind_it
            go c (sets d) e = absurd (omega (arith, ap name_place (sym k ∙ e)))
            go c (names_one d a) e = absurd (omega (arith, ap name_place (sym k ∙ e)))
            go c (signs_one w d b) e =
                let z : some w ≡ none = sym d ∙ ap (λ (names : List (List ℕ)). signs names (forms_at text h.next)) names_so_far ∙ none_signed signed told l in
                absurd (let y : ◌≡◌ {A = ℕ} 0 1 = cc in omega arith)
            go c (asserts_one d a b g m n) e =
                let onward : Grows turn.behind_it (script_in text) = subst (Grows turn.behind_it) turn.final_is (script_grows (forms_at text next) turn.behind_it) in
                let rest : List Clause = onward.clauses in
                let all_of : (script_in text).asserted ≡ s.asserted ++ (d ∷ rest) = onward.clauses_are ∙ ap (λ (l : List Clause). l ++ rest) n ∙ append_assoc s.asserted (d ∷ []) rest in
                record {
                  clause = d;
                  clauses_here = ap (λ (names : List (List ℕ)). clauses_of names (forms_at text h.next)) (sym names_so_far) ∙ b;
                  faultless = g;
                  rest = rest;
                  clauses_are = append_same s.asserted u.clauses (d ∷ rest) (sym u.clauses_are ∙ all_of);
                  asserted_are = onward.clauses_are;
                  counted = u.counted ∙ sym m;
                }
            go c (checks d) e = absurd (omega (arith, ap name_place (sym k ∙ e)))

      module _ (a : AssertedNext text bounds p u h turn.behind_it) where
        pub first_faultless : FirstFaultless (clauses_of (names_in text bounds p.count) (forms_at text h.next))
        first_faultless = subst FirstFaultless (sym a.clauses_here) a.faultless

        so_many : p.left ≡ suc (length a.rest)
        so_many = u.left_is ∙ ap length a.clauses_are

        to_lay : (rest : List Clause) → a.rest ≡ rest → u.clauses ≡ a.clause ∷ rest
        to_lay rest e = a.clauses_are ∙ ap (λ (l : List Clause). a.clause ∷ l) e

        abbrev depth : ℕ
        depth = p.laying.depth

        -- the last of them, or joined to those that are left
        last_to_lay : a.rest ≡ [] → rest_laid depth u.clauses ≡ placed_from depth a.clause.formula
        last_to_lay e = ap (rest_laid depth) (to_lay [] e) ∙ rest_last depth a.clause

        joined_to_lay : (d : Clause) (ds : List Clause) → a.rest ≡ d ∷ ds → rest_laid depth u.clauses ≡ join_laid depth a.clause (rest_laid (suc depth) (d ∷ ds))
        joined_to_lay d ds e = ap (rest_laid depth) (to_lay (d ∷ ds) e) ∙ rest_more depth a.clause d ds

        alone : a.rest ≡ [] → ltb 1 p.left ≡ false
        alone e = let one : length a.rest ≡ 0 = ap length e in le-ltb 1 p.left (omega (arith, so_many, one))

        followed : (d : Clause) (ds : List Clause) → a.rest ≡ d ∷ ds → ltb 1 p.left ≡ true
        followed d ds e = let some_left : length a.rest ≡ suc (length ds) = ap length e in lt-ltb 1 p.left (omega (arith, so_many, some_left))

        pub assertion_limit : (r : Refusal) → AssertionLays text h.next (names_in text bounds p.count) (ltb 1 p.left) p.laying (Err r) → first_refused text ≡ some r
        unfolding AssertionLays
        assertion_limit r lays = go a.rest refl
          where
            refused : AssertionRefused (ltb 1 p.left) a.clause p.laying r
            refused = lays a.clause [] a.clauses_here

            go : (rest : List Clause) → a.rest ≡ rest → first_refused text ≡ some r
            go [] e = u.refused r (subst (λ (xs : List PlacedNode). Refuses xs p.laying r) (sym (last_to_lay e)) (refused.last (alone e)))
            go (d ∷ ds) e = u.refused r (subst (λ (xs : List PlacedNode). Refuses xs p.laying r) (sym (joined_to_lay d ds e)) (refused.joined (followed d ds e) (rest_laid (suc depth) (d ∷ ds))))

        module _ (after : Laying) (lays : AssertionLays text h.next (names_in text bounds p.count) (ltb 1 p.left) p.laying (Ok after)) where
          laid : AssertionLaid (ltb 1 p.left) a.clause p.laying after
          unfolding AssertionLays
          laid = lays a.clause [] a.clauses_here

          abbrev progressed : Progress
          progressed = record { laying = after; count = p.count; left = p.left - 1; next = next }

          last_asserted : a.rest ≡ [] → LaidSoFar text p.laying.n progressed
          last_asserted e =
              let one : length a.rest ≡ 0 = ap length e in
              record {
                n_is = laid.n_kept;
                done = λ z. u.onward after (subst (λ (xs : List PlacedNode). LaysMore xs p.laying after) (sym (last_to_lay e)) (laid.last (alone e)));
                underway = λ l. absurd (omega (arith, so_many, one, l));
              }

          joined_asserted : (d : Clause) (ds : List Clause) → a.rest ≡ d ∷ ds → LaidSoFar text p.laying.n progressed
          joined_asserted d ds e =
              let some_left : length a.rest ≡ suc (length ds) = ap length e in
              let join : JoinLaid a.clause p.laying after = laid.joins (followed d ds e) in
              let same = joined_to_lay d ds e in
              record {
                n_is = laid.n_kept;
                done = λ z. absurd (omega (arith, so_many, some_left, z));
                underway = λ l. record {
                  so_far = turn.behind_it;
                  clauses = d ∷ ds;
                  here = inside;
                  unbroken = turn.unbroken;
                  final_is = turn.final_is;
                  counted = a.counted;
                  clauses_are = a.asserted_are ∙ ap (λ (l : List Clause). turn.behind_it.asserted ++ l) e;
                  left_is = omega (arith, so_many, some_left);
                  ready = join.ready;
                  onward = λ later m. depth_aside (whole_laid text) later depth (u.onward _ (subst (λ (xs : List PlacedNode). LaysMore xs p.laying (at_depth later depth)) (sym same)
                      (join.onward (rest_laid (suc depth) (d ∷ ds)) later (subst (λ (k : ℕ). LaysMore (rest_laid k (d ∷ ds)) after later) join.deeper m))));
                  refused = λ r k. u.refused r (subst (λ (xs : List PlacedNode). Refuses xs p.laying r) (sym same)
                      (join.refused (rest_laid (suc depth) (d ∷ ds)) r (subst (λ (n : ℕ). Refuses (rest_laid n (d ∷ ds)) after r) join.deeper k)));
                };
              }

          pub assertion_behind : LaidSoFar text p.laying.n (record { laying = after; count = p.count; left = p.left - 1; next = next })
          assertion_behind = go a.rest refl
            where
              go : (rest : List Clause) → a.rest ≡ rest → LaidSoFar text p.laying.n (record { laying = after; count = p.count; left = p.left - 1; next = next })
              go [] e = last_asserted e
              go (d ∷ ds) e = joined_asserted d ds e
