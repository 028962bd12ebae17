-- `terms::gather::gather` meets its contract. Assumes nothing.
use mathlib.Core.Path.{◌≡◌, refl}
use lib.ListN.{length}
use borrow.Author.Rules.{rules}
use Rattle.terms.specs.declared.gather.Piece.{Piece}
use Rattle.terms.proofs.Gatherings.{piece_of, OneMore, more_gathers, more_fits}
use Rattle.terms.proofs.gather.gather.Goals as goal
use Rattle.terms.proofs.gather.gather.Goals.{After-next_count-count, Start}

seven : (s : goal.Start) → length s.args.part.numbers ≡ 7
seven s = search rules

module _ (c : goal.After-next_count-count) where
  one_more : (first : Piece) → (c.args.g.count ≡ 0 → first ≡ piece_of c.args.part) → ((c.args.g.count ≡ 0 → ⊥) → first ≡ c.args.g.first)
      → OneMore c.args.g c.args.part record {
        count = c.next_count-count.result;
        sum = c.added-sum.result;
        first = first;
        second = piece_of c.args.part;
        fault = c.lower-fault.result;
      }
  one_more first new old = record {
    sum_added = c.added-sum.ensures;
    lower_fault = c.lower-fault.ensures;
    count_few = c.next_count-count.ensures.0;
    count_most = c.next_count-count.ensures.1;
    first_new = new;
    first_old = old;
    second_new = refl;
  }

pub returns-then-g-eq0 : goal.returns-then-g-eq0
returns-then-g-eq0 c =
    let m = one_more (goal.at.returns-then-g-eq0 c).After-next_count-count (piece_of c.args.part) (λ e. refl) (λ n. absurd (n c.if-g-eq0.true)) in
    record { fits = more_fits m c.requires.0 c.requires.1.1; gathers = more_gathers m (seven (goal.at.returns-then-g-eq0 c).Start) }

pub returns : goal.returns
returns c =
    let m = one_more (goal.at.returns c).After-next_count-count c.args.g.first (λ e. absurd (c.if-g-eq0.false e)) (λ n. refl) in
    record { fits = more_fits m c.requires.0 c.requires.1.1; gathers = more_gathers m (seven (goal.at.returns c).Start) }
