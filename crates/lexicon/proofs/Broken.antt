-- Where the text is broken, from an index on.
use Prim.Native.Nat.{ℕ, ◌+◌, ◌≤◌, ◌<◌}
use native.Mathlib.Numerals.{add-one}
use mathlib.Core.Path.{◌≡◌}
use mathlib.Core.Bool.{true, false, cond, ◌&&◌}
use mathlib.Core.Option.{none, some}
use mathlib.Core.List.{List}
use lib.ListN.{length, get_or, drop, drop_of_length-le}
use lib.Seq.{drop-cons}
use lib.Dec.{eqb}
use Rattle.smtlib.specs.Lexicon.{AtHand, move_of, state_after, possible, depth_after, complete, broken_from}

module _ (text : List ℕ) (s : AtHand) (depth i : ℕ) where
  pub broken_more :
      (t : AtHand) (d : ℕ) → i < length text → possible (move_of s (get_or text i 0)) depth ≡ true → state_after (move_of s (get_or text i 0)) ≡ t → depth_after (move_of s (get_or text i 0)) depth ≡ d →
      broken_from (drop i text) s depth i ≡ broken_from (drop (i + 1) text) t d (i + 1)
  unfolding broken_from
  broken_more t d h e es ed = rw (add-one, drop-cons text i 0, e, es, ed)

  pub broken_here : i < length text → possible (move_of s (get_or text i 0)) depth ≡ false → broken_from (drop i text) s depth i ≡ some i
  unfolding broken_from
  broken_here h e = rw (drop-cons text i 0, e)

  pub broken_end : length text ≤ i → broken_from (drop i text) s depth i ≡ cond (complete s && eqb depth 0) none (some i)
  unfolding broken_from
  broken_end h = rw (drop_of_length-le text h)
