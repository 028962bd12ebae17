-- What `form_at` returns, by what stands behind the blanks.
use Prim.Native.Nat.{ℕ, ◌+◌, ◌≤◌, ◌<◌}
use native.Mathlib.Numerals.{add-one}
use native.Mathlib.Omega.{arith}
use mathlib.Core.Path.{◌≡◌, refl, sym, ◌∙◌}
use mathlib.Core.List.{List}
use lib.ListN.{length, get_or}
use Rattle.smtlib.specs.Lexicon.{AtHand, apart, Move, stuck, starts, opens, closes, fresh, move_of}
use Rattle.smtlib.specs.Forms.{bare_of}
use Rattle.lexicon.specs.declared.moves.State.{State}
use Rattle.lexicon.specs.declared.moves.Step.{Step}
use Rattle.lexicon.specs.declared.moves.Step.TheVariants.{Skips, Starts, GoesOn, Opens, Closes, Stuck}
use Rattle.lexicon.specs.Steps.{hand_of, move_said}
use Rattle.lexicon.specs.Spots.{stretch}
use Rattle.forms.specs.declared.Form.{Form}
use Rattle.forms.specs.Read.{END, CLOSE, OPEN, NUMERAL, EndHere, CloseHere, OpenHere, WordHere, WordSays, FormRead, FormReads, FormStands, ListEnds, RestBehind}
use Rattle.forms.specs.FirstBytes.{Afresh, fresh_told, fresh_no_on}
use Rattle.forms.specs.WordKinds.{starts_no_comment}
use Rattle.forms.specs.Standing.{end_here, close_here, open_here, word_here, never_stuck}
use Rattle.forms.specs.Following.{word_rest, list_rest}
use Rattle.forms.specs.WordRead.{formed, BlankEnd, TokenEnd, WordStarts, WordRead}

module _ (text : List ℕ) (at depth : ℕ) (f : Form) where
  reads_end : f.kind ≡ END → EndHere text at depth → FormRead text at depth f
  reads_end k e =
      record {
        end = λ h. e;
        close = λ h. absurd (omega arith);
        open_list = λ h. absurd (omega arith);
        word_here = λ h. absurd (omega arith);
        word_says = λ h. absurd (omega arith);
      }

  reads_close : f.kind ≡ CLOSE → CloseHere text at depth f.next → FormRead text at depth f
  reads_close k e =
      record {
        end = λ h. absurd (omega arith);
        close = λ h. e;
        open_list = λ h. absurd (omega arith);
        word_here = λ h. absurd (omega arith);
        word_says = λ h. absurd (omega arith);
      }

  reads_open : f.kind ≡ OPEN → OpenHere text at depth f.place f.next → FormRead text at depth f
  reads_open k e =
      record {
        end = λ h. absurd (omega arith);
        close = λ h. absurd (omega arith);
        open_list = λ h. e;
        word_here = λ h. absurd (omega arith);
        word_says = λ h. absurd (omega arith);
      }

  reads_word : NUMERAL ≤ f.kind → WordHere text at depth f.place f.next → WordSays text f (bare_of (stretch text f.place f.next)) → FormRead text at depth f
  reads_word k e w =
      record {
        end = λ h. absurd (omega arith);
        close = λ h. absurd (omega arith);
        open_list = λ h. absurd (omega arith);
        word_here = λ h. e;
        word_says = λ h. w;
      }

module _ (text : List ℕ) (at place : ℕ) (k : BlankEnd text at place) where
  bare_stands : (kind next : ℕ) → kind ≤ 2 → ((kind ≡ END → ⊥) → place < next) → next ≤ length text → FormStands text at (formed kind place place place 0 next)
  bare_stands kind next small on inside =
      record {
        kind_known = omega arith;
        not_before = k.not_before;
        goes_on = on;
        inside = inside;
        value_small = omega arith;
        spelt_inside = (omega arith, k.inside);
        spelt_from = λ h. absurd (omega arith);
      }

  pub end_there : length text ≤ place → FormStands text at (formed END place place place 0 place) × FormReads text at (formed END place place place 0 place)
  unfolding FormReads
  end_there h = (bare_stands END place (omega arith) (λ n. absurd (n refl)) k.inside, λ depth u. reads_end _ _ _ _ refl (end_here text at place depth k.past u h))

  module _ (h : place < length text) (m : Move) (e : m ≡ move_of apart (get_or text place 0)) where
    pub open_there : m ≡ opens → FormStands text at (formed OPEN place place place 0 (place + 1)) × FormReads text at (formed OPEN place place place 0 (place + 1))
    unfolding FormReads
    open_there q = (
      bare_stands OPEN (place + 1) (omega arith) (λ n. omega arith) (omega arith),
      λ depth u. reads_open _ _ _ _ refl (rw add-one (open_here text at place depth k.past u h (sym e ∙ q))),
    )

    pub close_there : m ≡ closes → FormStands text at (formed CLOSE place place place 0 (place + 1)) × FormReads text at (formed CLOSE place place place 0 (place + 1))
    unfolding FormReads
    close_there q = (
      bare_stands CLOSE (place + 1) (omega arith) (λ n. omega arith) (omega arith),
      λ depth u. reads_close _ _ _ _ refl (rw add-one (close_here text at place depth k.past u h (sym e ∙ q))),
    )

    -- a byte that is no blank, and starts and opens and closes nothing
    pub stuck_there : (t : Step) → move_said t ≡ m → ((s : State) → t ≡ Starts s → ⊥) → (t ≡ Opens → ⊥) → (t ≡ Closes → ⊥) → FormStands text at (formed END place place place 0 place) × FormReads text at (formed END place place place 0 place)
    unfolding FormReads move_of
    stuck_there t z no_start no-open no-close = (
      bare_stands END place (omega arith) (λ n. absurd (n refl)) k.inside,
      λ depth u. absurd (go t (z ∙ e) no_start no-open no-close (λ q. never_stuck text at place depth k.past u h (sym e ∙ sym z ∙ q))),
    )
      where
        go : (t : Step) → move_said t ≡ fresh (get_or text place 0) → ((s : State) → t ≡ Starts s → ⊥) → (t ≡ Opens → ⊥) → (t ≡ Closes → ⊥) → (move_said t ≡ stuck → ⊥) → ⊥
        go Stuck f no_start no-open no-close no-stuck = no-stuck refl
        go (Skips s) f no_start no-open no-close no-stuck = k.no_blank h (hand_of s) (sym f)
        go (Starts s) f no_start no-open no-close no-stuck = no_start s refl
        go (GoesOn s) f no_start no-open no-close no-stuck = fresh_no_on (get_or text place 0) (hand_of s) (sym f)
        go Opens f no_start no-open no-close no-stuck = no-open refl
        go Closes f no_start no-open no-close no-stuck = no-close refl

    module _ (s : AtHand) (q : m ≡ starts s) where
      first : Afresh (get_or text place 0) (starts s)
      unfolding move_of
      first = rw (sym e ∙ q) at (fresh_told (get_or text place 0))

      pub starts_there : (next : ℕ) → place + 1 ≤ next → next ≤ length text → WordStarts text place next s
      starts_there next l inside = record { some_bytes = omega arith; inside = inside; first = first }

      pub word_there : (next : ℕ) → TokenEnd text (place + 1) s next → (f : Form) → WordRead text place next f → FormStands text at f × FormReads text at f
      unfolding FormReads
      word_there next t f w =
          let ends = rw add-one at (t.ends (starts_no_comment _ s first)) in (
            record {
              kind_known = w.kind_known;
              not_before = omega (arith, k.not_before, w.place_is);
              goes_on = λ n. omega (arith, t.not_before, w.place_is, w.next_is);
              inside = omega (arith, t.inside, w.next_is);
              value_small = w.value_small;
              spelt_inside = w.spelt_inside;
              spelt_from = λ h. rw w.place_is (w.spelt_from h);
            },
            λ depth u.
                let here = word_here text at place depth k.past u h s next (sym e ∙ q) (omega (arith, t.not_before)) ends in
                let same : bare_of (stretch text place next) ≡ bare_of (stretch text f.place f.next) = rw (w.place_is, w.next_is) in
                reads_word _ _ _ f w.is_word (rw (w.place_is, w.next_is) here) (rw same at w.says),
          )

-- ---- what is behind a form

module _ (text : List ℕ) (f : Form) where
  pub word_behind : (f.kind ≡ OPEN → ⊥) → RestBehind text f f.next
  unfolding RestBehind
  word_behind n at depth u r h = word_rest text at depth f r (omega arith)

  pub list_behind : (next : ℕ) → f.kind ≡ OPEN → ListEnds text f.next next → RestBehind text f next
  unfolding RestBehind ListEnds
  list_behind next e l at depth u r h = list_rest text at depth f r e next (l depth (r.open_list e).unbroken)
