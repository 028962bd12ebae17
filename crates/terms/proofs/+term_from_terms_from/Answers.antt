-- The proof of the cycle of calls {term_from, terms_from}. `term_from` at a nesting calls `terms_from` at one less, and `terms_from` calls `term_from`
-- at its own in its loop: the measure is twice the nesting for `term_from` and one more for `terms_from`. The loop's invariant: the terms read so far
-- and those that follow are those of the list, and of those read so far this is gathered. Its measure is what is left of the text. Assumes nothing.
use Prim.Native.Nat.{ℕ, suc, ◌-◌, ◌<◌}
use native.Mathlib.Omega.{arith}
use mathlib.Core.Path.{◌≡◌}
use lib.ListN.{length}
use Rattle.smtlib.specs.Lexicon.{most_nesting}
use Rattle.forms.specs.Read.{FormReads, ListEnds}
use Rattle.terms.specs.Names.{names_in}
use Rattle.terms.specs.Heads.{HeadReads}
use Rattle.terms.specs.Read.{ListReads}
use Rattle.terms.proofs.HeadCodes.{no_term}
use Rattle.terms.proofs.WordTerms.{outside_says}
use Rattle.terms.proofs.TermsRead.{not_end, other_part, outside_part, list_part}
use Rattle.terms.proofs.ListsRead.{sofar_none, sofar_next, sofar_sum, sofar_all, sofar_end}
use Rattle.terms.proofs.+term_from_terms_from.Goals as goal

pub term_from-form_at-form-requires : goal.term_from-form_at-form-requires
term_from-form_at-form-requires t c =
    c.requires.1.here

pub term_from-word_term-requires : goal.term_from-word_term-requires
term_from-word_term-requires t c =
    let f = c.form_at-form.ensures.stands in
    (c.requires.0, (f.spelt_inside.0, f.spelt_inside.1, f.kind_known))

pub term_from-returns-then-form-ne-OPEN : goal.term_from-returns-then-form-ne-OPEN
unfolding FormReads ListEnds HeadReads ListReads
term_from-returns-then-form-ne-OPEN t c =
    let i = c.requires.1 in
    let read = c.form_at-form.ensures.read (most_nesting - c.args.nesting) i.unbroken in
    let deep : 0 < most_nesting - c.args.nesting = omega (arith, i.left) in
    let part = other_part read c.word_term.ensures deep c.if-form-ne-OPEN.true in
    let on = c.form_at-form.ensures.stands.goes_on (not_end read deep) in
    record { inside = (omega (arith, on, part.0, c.form_at-form.ensures.stands.not_before), omega (arith, part.0, c.form_at-form.ensures.stands.inside)); read = part.1 }

pub term_from-head_at-head-requires : goal.term_from-head_at-head-requires
term_from-head_at-head-requires t c =
    c.form_at-form.ensures.stands.inside

pub term_from-list_end-requires : goal.term_from-list_end-requires
term_from-list_end-requires t c =
    c.form_at-form.ensures.stands.inside

pub term_from-returns-in_default : goal.term_from-returns-in_default
unfolding FormReads ListEnds HeadReads ListReads
term_from-returns-in_default t c =
    let depth : ℕ = most_nesting - c.args.nesting in
    let here = (c.form_at-form.ensures.read depth c.requires.1.unbroken).open_list c.if-form-ne-OPEN.false in
    let on = c.form_at-form.ensures.stands.goes_on (λ e. omega (arith, c.if-form-ne-OPEN.false)) in
    let outside = outside_says c.form_at-form.result.place in
    rw (c.of-in_default.ensures, c.outside-outside.ensures) (record {
      inside = (omega (arith, on, c.form_at-form.ensures.stands.not_before, c.list_end.ensures.stands.0), c.list_end.ensures.stands.1);
      read = outside_part (names_in c.args.text.now c.args.names.now c.args.count) here (c.head_at-head.ensures.read (suc depth) here.unbroken) (no_term _ c.kind.ensures c.in_default.not-Term) (c.list_end.ensures.closed depth here.unbroken) outside;
    })

pub term_from-overflow_sub-left : goal.term_from-overflow_sub-left
unfolding FormReads ListEnds HeadReads ListReads
term_from-overflow_sub-left t c =
    let here = (c.form_at-form.ensures.read (most_nesting - c.args.nesting) c.requires.1.unbroken).open_list c.if-form-ne-OPEN.false in
    omega (arith, here.nested)

pub term_from-terms_from-list-requires : goal.term_from-terms_from-list-requires
unfolding FormReads ListEnds HeadReads ListReads
term_from-terms_from-list-requires t c =
    let depth : ℕ = most_nesting - c.args.nesting in
    let here = (c.form_at-form.ensures.read depth c.requires.1.unbroken).open_list c.if-form-ne-OPEN.false in
    let parts = (c.head_at-head.ensures.read (suc depth) here.unbroken).parts (omega (arith, (rw c.in-Term.is at c.kind.ensures))) in
    let deeper : most_nesting - (c.args.nesting - 1) ≡ suc depth = omega (arith, here.nested, c.requires.1.left) in (
      omega (arith, here.nested, c.decreases),
      (
        c.requires.0,
        (
          record {
            here = c.head_at-head.ensures.stands.1;
            left = omega (arith, c.requires.1.left);
            unbroken = rw deeper parts.unbroken;
          },
          omega (arith, (rw c.in-Term.is at c.kind.ensures)),
        ),
      ),
    )

pub term_from-returns-in-Term : goal.term_from-returns-in-Term
unfolding FormReads ListEnds HeadReads ListReads
term_from-returns-in-Term t c =
    let depth : ℕ = most_nesting - c.args.nesting in
    let opening = c.if-form-ne-OPEN.false in
    let here = (c.form_at-form.ensures.read depth c.requires.1.unbroken).open_list opening in
    let on = c.form_at-form.ensures.stands.goes_on (λ e. omega (arith, opening)) in
    let names = names_in c.args.text.now c.args.names.now c.args.count in
    rw c.of.ensures record {
      inside = (omega (arith, on, c.form_at-form.ensures.stands.not_before, c.head_at-head.ensures.stands.0, c.terms_from-list.ensures.inside.0), c.terms_from-list.ensures.inside.1);
      read = list_part names here (most_nesting - (c.args.nesting - 1)) (c.head_at-head.ensures.read (suc depth) here.unbroken) (rw c.in-Term.is at c.kind.ensures) (omega (arith, here.nested, c.requires.1.left)) c.terms_from-list.ensures.read;
    }

pub terms_from-loop-term-init : goal.terms_from-loop-term-init
terms_from-loop-term-init t c =
    sofar_none (names_in c.args.text.now c.args.names.now c.args.count) c.requires.1.0.here c.requires.1.0.unbroken c.none-gathering.ensures.fits c.none-gathering.ensures.gathers

pub terms_from-term_from-part-requires : goal.terms_from-term_from-part-requires
terms_from-term_from-part-requires t c =
    (omega (arith, c.decreases), (c.requires.0, record { here = c.loop-term.invariant.onward.1; left = c.requires.1.0.left; unbroken = c.loop-term.invariant.unbroken }))

pub terms_from-settled-requires : goal.terms_from-settled-requires
terms_from-settled-requires t c =
    c.loop-term.invariant.fits

pub terms_from-returns-in_default : goal.terms_from-returns-in_default
unfolding ListReads
terms_from-returns-in_default t c =
    let i = c.loop-term.invariant in
    let end = c.term_from-part.ensures.read.no_more c.in_default.is in
    record {
      inside = (omega (arith, c.term_from-part.ensures.inside.0, i.onward.0), c.term_from-part.ensures.inside.1);
      read = λ h e. record {
        says = rw (sofar_all i end.0) (c.settled.ensures h i.sofar e c.requires.1.1 i.gathers);
        closed = sofar_end i end.1;
      };
    }

pub terms_from-gather-more-requires : goal.terms_from-gather-more-requires
terms_from-gather-more-requires t c =
    let i = c.loop-term.invariant in
    let says = (c.term_from-part.ensures.read.one_more _ c.in-Some.is).says in
    let short : length c.args.text.now < 9223372036854775808 = omega (arith, c.well_formed.0.1) in
    (i.fits, (sofar_sum i short, record { within_limit = says.within_limit; numeral_small = says.numeral_small }))

pub terms_from-loop-term-smaller : goal.terms_from-loop-term-smaller
terms_from-loop-term-smaller t c =
    let read = c.term_from-part.ensures.inside in
    omega (arith, read.0, read.1)

pub terms_from-loop-term-preserved : goal.terms_from-loop-term-preserved
terms_from-loop-term-preserved t c =
    sofar_next c.loop-term.invariant (c.term_from-part.ensures.read.one_more _ c.in-Some.is) c.term_from-part.ensures.inside.0 c.term_from-part.ensures.inside.1 c.gather-more.ensures.fits c.gather-more.ensures.gathers
