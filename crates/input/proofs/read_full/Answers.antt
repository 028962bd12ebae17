-- What a read puts behind the front makes the front longer.
use Rattle.std.proofs.Common.{◌≡◌, ℕ, ◌+◌, ◌≤◌, List, ◌++◌, rules, length, take, drop, ap, ◌∙◌, sym, subst, le_refl, drop_at, length-take-le}
use Rattle.std.proofs.lemmas.Slice.{take-put_mid_below}
use Rattle.std.proofs.KnownBytes.{Consumes-trans}
use Rattle.std.specs.Io.KnownBytes.{Consumes}
use borrow.Rule.Slice.PartMut.{put_mid, post_of}
use lib.Seq.{take-add, take-append-le}
use Rattle.input.proofs.read_full.Goals as goal

front : (a k n : ℕ) (xs ys : List ℕ) → a ≤ length xs → n ≤ length ys → take (a + n) (put_mid a k xs ys) ≡ take a xs ++ take n ys
front a k n xs ys within fits =
    let after = post_of a k xs in
    take-add a n (put_mid a k xs ys) ∙
    ap (λ l. l ++ take n (drop a (put_mid a k xs ys))) (take-put_mid_below a k xs ys a (le_refl a) within) ∙
    ap (λ l. take a xs ++ l) (ap (take n) (drop_at (take a xs) (ys ++ after) a (length-take-le a xs within)) ∙ take-append-le n ys after fits)

pub loop-count-preserved : goal.loop-count-preserved
loop-count-preserved g c = record {
  same_length = search rules;
  within = search rules;
  read =
      subst (Consumes _ _) (sym (front _ _ _ _ _ c.loop-count.invariant.within c.in_ok-more.ensures.bound.0))
      (Consumes-trans _ _ _ _ _ c.loop-count.invariant.read c.in_ok-more.ensures.bytes.0);
}
