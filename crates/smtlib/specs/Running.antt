-- What has to unfold for the definitions to run.
use Rattle.smtlib.specs.Spelling.{same, is_in}
use Rattle.smtlib.specs.Lexicon.{among, white, is_digit, is_letter, symbol_first, symbol_next, hex_digit, bit_digit, printable, fresh, leaves_token, move_of, complete, state_after, possible, depth_after, broken_from, broken_at, taken, lexed, tokens_of}
use Rattle.smtlib.specs.Forms.{numeral_from, bare_of, levels_of, forms_of}
use Rattle.smtlib.specs.Terms.{head_named, sums, scaled, opposite, collected_fit, faults_in, collecting, total, plus_term, minus_term, product_term, times_term, list_term, index_from, word_term, terms_of}
use Rattle.smtlib.specs.Formulas.{sides, compared, comparison, faults_among, negated, joined_at, joining, list_clause, clauses_of}
use Rattle.smtlib.specs.Script.{parts_of, command_named, logic_faults, kept_if, declared_if, declared, signs_name, signed_as, asserted_only, asserted_as, under_logic, at_stage, script_from, script_of, unsigned, all_outside, all_beyond, lowest_of, fault_of}
use Rattle.smtlib.specs.Imported.{placed_from, placed_checks, tree_of, laid_out, imported}
use Rattle.smtlib.specs.Meaning.{sum_of, product_of, difference_of, values_of, chained, every, any, truths_of, text_holds}
use Rattle.scope.specs.Whole.{joined, at_front}
use Rattle.scope.specs.Tree.{nodes_in, atoms_in, row_of}
use Rattle.scope.specs.Refusals.{first_refusal}

unfoldable pub importing : Unit {0}
unfolding same is_in among white is_digit is_letter symbol_first symbol_next hex_digit bit_digit printable fresh leaves_token move_of complete state_after possible depth_after broken_from broken_at taken lexed tokens_of numeral_from bare_of levels_of forms_of head_named sums scaled opposite collected_fit faults_in collecting total plus_term minus_term product_term times_term list_term index_from word_term terms_of sides compared comparison faults_among negated joined_at joining list_clause clauses_of parts_of command_named logic_faults kept_if declared_if declared signs_name signed_as asserted_only asserted_as under_logic at_stage script_from script_of unsigned all_outside all_beyond lowest_of fault_of placed_from placed_checks tree_of laid_out imported sum_of product_of difference_of values_of chained every any truths_of text_holds joined at_front nodes_in atoms_in row_of first_refusal
importing = tt
