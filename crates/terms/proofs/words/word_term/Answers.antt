-- `terms::words::word_term` meets its contract, by the word's kind. Assumes nothing.
use native.Mathlib.Omega.{arith}
use mathlib.Core.Path.{refl}
use Rattle.terms.specs.Names.{names_in}
use Rattle.terms.proofs.WordTerms.{outside_says, other_term}
use Rattle.terms.proofs.words.word_term.Goals as goal

pub returns-then-form-lt-NUMERAL : goal.returns-then-form-lt-NUMERAL
returns-then-form-lt-NUMERAL c = record { end_is = λ h. refl; term_is = λ h. absurd (omega arith) }

pub returns-then-form-eq-NUMERAL : goal.returns-then-form-eq-NUMERAL
returns-then-form-eq-NUMERAL c =
    let names = names_in c.args.text.now c.args.names.now c.args.count in
    record {
      end_is = λ h. absurd (omega arith);
      term_is = λ h w s. let v = s.numeral_says (omega arith) in record { collected = _; part_is = c.of.ensures; says = rw v.says (c.numeral_term-numeral.ensures names v.value v.clips) };
    }

pub returns-then-form-eq-SYMBOL : goal.returns-then-form-eq-SYMBOL
returns-then-form-eq-SYMBOL c = record {
  end_is = λ h. absurd (omega arith);
  term_is = λ h w s. record { collected = _; part_is = c.of-then-form-eq-SYMBOL.ensures; says = rw (s.symbol_says (omega arith)) c.name_term-name.ensures };
}

pub returns : goal.returns
returns c =
    let names = names_in c.args.text.now c.args.names.now c.args.count in
    record {
      end_is = λ h. absurd (omega arith);
      term_is = λ h w says. record {
        collected = _;
        part_is = c.of-2.ensures;
        says = rw (c.outside.ensures, other_term names c.args.form.place says (omega arith) (λ e. omega arith) (omega arith)) (outside_says c.args.form.place);
      };
    }
