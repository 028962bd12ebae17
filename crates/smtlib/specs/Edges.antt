-- Document 02, E2, worked by hand: each rule of the import on either side of its edge. One table, one claim. Places are counted from 0.
use Rattle.std.specs.Prelude.{ℕ, zero, suc, ◌≡◌, refl, List, [], ◌∷◌, map, ℤ, pos, negsuc, Err, Result, Ok}
use Prim.Native.String.{String}
use Rattle.scope.specs.declared.Refusal.{Refusal}
use Rattle.scope.specs.declared.Question.{Question}
use Rattle.scope.specs.Outcomes.{numbered_refusal}
use Rattle.smtlib.specs.Spelling.{spelling}
use Rattle.smtlib.specs.Imported.{imported}
use Rattle.smtlib.specs.Running.{importing}

abbrev pub TextOutcome : Type 0
TextOutcome = Result Question Refusal

-- zeros up to a length
abbrev pub with_zeros : {A : Type 0} → ℕ → A → List A → List A
with_zeros zero z l = []
with_zeros (suc n) z [] = z ∷ with_zeros n z []
with_zeros (suc n) z (a ∷ l) = a ∷ with_zeros n z l

abbrev pub accepted_as : ℕ → List ℕ → List ℤ → List ℤ → TextOutcome
accepted_as n codes coefficients constants = Ok (record {
  n = n;
  codes = with_zeros 64 0 codes;
  coefficients = with_zeros 48 (pos 0) coefficients;
  constants = with_zeros 8 (pos 0) constants;
})

abbrev pub refused_by : ℕ → ℕ → TextOutcome
refused_by number place = Err (numbered_refusal number place)

pub record TextLine : Type 0 where
  pub text : List ℕ
  pub should : TextOutcome

abbrev text_line : String → TextOutcome → TextLine
text_line text should = record { text = spelling text; should = should }

abbrev pub texts_given : List TextLine → List TextOutcome
texts_given lines = map (λ (l : TextLine). imported l.text) lines

abbrev pub texts_wanted : List TextLine → List TextOutcome
texts_wanted lines = map (λ (l : TextLine). l.should) lines

abbrev edges : List TextLine
edges =
    -- what is well formed (14): places of bytes, and of the end
    text_line "" (refused_by 15 0) ∷
    text_line "(" (refused_by 14 1) ∷
    text_line ")" (refused_by 14 0) ∷
    text_line "(1." (refused_by 14 3) ∷
    text_line "(#" (refused_by 14 2) ∷
    text_line "(#x" (refused_by 14 3) ∷
    text_line "(#b2" (refused_by 14 3) ∷
    text_line "(:" (refused_by 14 2) ∷
    text_line "(\"a" (refused_by 14 3) ∷
    text_line "(|a" (refused_by 14 3) ∷
    text_line "(12x" (refused_by 14 3) ∷
    text_line "(01" (refused_by 14 2) ∷
    text_line "(a:b" (refused_by 14 2) ∷
    text_line "(|a\\b|" (refused_by 14 3) ∷
    text_line "(a'b" (refused_by 14 2) ∷
    text_line "(set-logic QF_LIA))" (refused_by 14 18) ∷
    text_line "[x]" (refused_by 14 0) ∷
    text_line "(((((((((((((((((((((((((((((((()))))))))))))))))))))))))))))))" (refused_by 14 63) ∷
    text_line "(((((((((((((((((((((((((((((((((" (refused_by 14 32) ∷
    -- 32 lists deep is well formed
    text_line "(((((((((((((((((((((((((((((((())))))))))))))))))))))))))))))))" (refused_by 15 0) ∷
    -- tokens that end themselves, a comment, and the other kinds
    text_line "(a\"\"|b|0\"\" ; (((\n#xAf #b01 1.50 :k)" (refused_by 15 0) ∷
    -- 15 and 4: the lowest byte first
    -- the smallest text that is accepted
    text_line "(set-logic QF_LIA)(declare-const x Int)(assert (>= x 0))(assert (= x 1))(check-sat)" (accepted_as 1 (1 ∷ []) (pos 1 ∷ []) (pos 1 ∷ [])) ∷
    -- a missing sign assertion, at the declaration
    text_line "(set-logic QF_LIA)(declare-const x Int)(assert (= x 1))(check-sat)" (refused_by 15 18) ∷
    -- before a form outside the subset behind it
    text_line "(set-logic QF_LIA)(declare-const x Int)(push 1)(check-sat)" (refused_by 15 18) ∷
    -- a form outside the subset
    text_line "(set-logic QF_LIA)(declare-const x Int)(assert (>= x 0))(push 1)(check-sat)" (refused_by 15 56) ∷
    -- a name that is not declared
    text_line "(set-logic QF_LIA)(declare-const x Int)(assert (>= x 0))(assert (= x y))(check-sat)" (refused_by 15 69) ∷
    -- a wrong number of parts, at the list
    text_line "(set-logic QF_LIA)(declare-const x Int)(assert (>= x 0))(assert (= x 1 2))(check-sat)" (refused_by 15 64) ∷
    -- a product without a numeral
    text_line "(set-logic QF_LIA)(declare-const x Int)(assert (>= x 0))(assert (= x (* x x)))(check-sat)" (refused_by 15 69) ∷
    -- (- 3) is no numeral
    text_line "(set-logic QF_LIA)(declare-const x Int)(assert (>= x 0))(assert (= x (* (- 3) x)))(check-sat)" (refused_by 15 69) ∷
    -- -1 is a symbol
    text_line "(set-logic QF_LIA)(declare-const x Int)(assert (>= x 0))(assert (= x -1))(check-sat)" (refused_by 15 69) ∷
    -- a term where a formula is due
    text_line "(set-logic QF_LIA)(declare-const x Int)(assert (>= x 0))(assert x)(check-sat)" (refused_by 15 64) ∷
    -- a formula where a term is due
    text_line "(set-logic QF_LIA)(declare-const x Int)(assert (>= x 0))(assert (= x (= x 1)))(check-sat)" (refused_by 15 69) ∷
    text_line "(set-logic QF_LIA)(declare-const x Int)(assert (>= x 0))(assert (and))(check-sat)" (refused_by 15 64) ∷
    text_line "(set-logic QF_LIA)(declare-const x Int)(assert (>= x 0))(assert)(check-sat)" (refused_by 15 56) ∷
    text_line "(set-logic QF_LIA)(declare-const x Int)(assert (>= x 0))(assert (= x 1) (= x 2))(check-sat)" (refused_by 15 56) ∷
    -- another logic, at its name
    text_line "(set-logic QF_LRA)(check-sat)" (refused_by 15 11) ∷
    -- set-logic comes first
    text_line "(declare-const x Int)(set-logic QF_LIA)" (refused_by 15 0) ∷
    -- and once
    text_line "(set-logic QF_LIA)(set-logic QF_LIA)" (refused_by 15 18) ∷
    -- another sort
    text_line "(set-logic QF_LIA)(declare-const x Real)" (refused_by 15 35) ∷
    -- a reserved word is no name
    text_line "(set-logic QF_LIA)(declare-const let Int)" (refused_by 15 33) ∷
    -- nor is a symbol of the theories
    text_line "(set-logic QF_LIA)(declare-const |and| Int)" (refused_by 15 33) ∷
    -- between bars it is a symbol
    text_line "(set-logic QF_LIA)(declare-const |let| Int)(assert (>= |let| 0))(assert (= |let| 2))(check-sat)" (accepted_as 1 (1 ∷ []) (pos 1 ∷ []) (pos 2 ∷ [])) ∷
    -- x and |x| are one name: declared twice is a fault behind the missing sign assertion
    text_line "(set-logic QF_LIA)(declare-const x Int)(declare-const |x| Int)" (refused_by 15 18) ∷
    text_line "(set-logic QF_LIA)(declare-const x Int)(assert (>= x 0))(declare-const |x| Int)(assert (= x 1))(check-sat)" (refused_by 15 71) ∷
    -- no check-sat, at the end
    text_line "(set-logic QF_LIA)(declare-const x Int)(assert (>= x 0))(assert (= x 1))" (refused_by 15 72) ∷
    -- anything behind check-sat
    text_line "(set-logic QF_LIA)(declare-const x Int)(assert (>= x 0))(assert (= x 1))(check-sat)(check-sat)" (refused_by 15 83) ∷
    -- no assertion but sign assertions, at check-sat
    text_line "(set-logic QF_LIA)(declare-const x Int)(assert (>= x 0))(check-sat)" (refused_by 15 56) ∷
    -- no name, at check-sat
    text_line "(set-logic QF_LIA)(assert (= 1 1))(check-sat)" (refused_by 4 34) ∷
    -- neither: 15 before 4 at one byte
    text_line "(set-logic QF_LIA)(check-sat)" (refused_by 15 18) ∷
    -- a seventh name, at the name
    text_line "(set-logic QF_LIA)(declare-const a Int)(assert (>= a 0))(declare-const b Int)(assert (>= b 0))(declare-const c Int)(assert (>= c 0))(declare-const d Int)(assert (>= d 0))(declare-const e Int)(assert (>= e 0))(declare-const f Int)(assert (>= f 0))(declare-const g Int)(assert (>= g 0))(assert (= a 1))(check-sat)" (refused_by 4 261) ∷
    -- its missing sign assertion is lower
    text_line "(set-logic QF_LIA)(declare-const a Int)(assert (>= a 0))(declare-const b Int)(assert (>= b 0))(declare-const c Int)(assert (>= c 0))(declare-const d Int)(assert (>= d 0))(declare-const e Int)(assert (>= e 0))(declare-const f Int)(assert (>= f 0))(declare-const g Int)(assert (= a 1))(check-sat)" (refused_by 15 246) ∷
    -- six names
    text_line "(set-logic QF_LIA)(declare-const a Int)(assert (>= a 0))(declare-const b Int)(assert (>= b 0))(declare-const c Int)(assert (>= c 0))(declare-const d Int)(assert (>= d 0))(declare-const e Int)(assert (>= e 0))(declare-const f Int)(assert (>= f 0))(assert (= a (+ b c d e f 1)))(check-sat)" (accepted_as 6 (1 ∷ []) (pos 1 ∷ negsuc 0 ∷ negsuc 0 ∷ negsuc 0 ∷ negsuc 0 ∷ negsuc 0 ∷ []) (pos 1 ∷ [])) ∷
    -- sign assertions: exactly (assert (>= name 0))
    text_line "(set-logic QF_LIA)(declare-const x Int)(assert (<= 0 x))(assert (= x 1))(check-sat)" (refused_by 15 18) ∷
    text_line "(set-logic QF_LIA)(declare-const x Int)(assert (and (>= x 0)))(assert (= x 1))(check-sat)" (refused_by 15 18) ∷
    -- once or more, and no atom
    text_line "(set-logic QF_LIA)(declare-const x Int)(assert (>= x 0))(assert (>= x 0))(assert (= x 1))(check-sat)" (accepted_as 1 (1 ∷ []) (pos 1 ∷ []) (pos 1 ∷ [])) ∷
    -- behind its uses
    text_line "(set-logic QF_LIA)(declare-const x Int)(assert (= x 1))(assert (>= x 0))(check-sat)" (accepted_as 1 (1 ∷ []) (pos 1 ∷ []) (pos 1 ∷ [])) ∷
    text_line "(set-logic QF_LIA)(declare-const x Int)(assert (|>=| |x| 0))(assert (= x 1))(check-sat)" (accepted_as 1 (1 ∷ []) (pos 1 ∷ []) (pos 1 ∷ [])) ∷
    -- numerals and collected numbers
    -- a numeral above the most
    text_line "(set-logic QF_LIA)(declare-const x Int)(assert (>= x 0))(assert (= x 1000001))(check-sat)" (refused_by 15 69) ∷
    -- a term whose numbers pass 2^40 where its parts do not
    text_line "(set-logic QF_LIA)(declare-const x Int)(assert (>= x 0))(assert (= (* 1000000 (* 1000000 2)) x))(check-sat)" (refused_by 15 67) ∷
    -- only the total counts
    text_line "(set-logic QF_LIA)(declare-const x Int)(assert (>= x 0))(assert (= (+ (* 1000000 1000000) (* 1000000 1000000) (- (* 1000000 1000000))) (* 1000000 1000000)))(check-sat)" (accepted_as 1 (1 ∷ []) (pos 0 ∷ []) (pos 0 ∷ [])) ∷
    -- of a comparison too
    text_line "(set-logic QF_LIA)(declare-const x Int)(assert (>= x 0))(assert (= (* 1000000 1000000) (- (* 1000000 1000000))))(check-sat)" (refused_by 15 64) ∷
    -- comparisons: the larger side moved under the smaller, like terms collected, a strict one lowered by 1
    text_line "(set-logic QF_LIA)(declare-const x Int)(assert (>= x 0))(assert (<= x 5))(check-sat)" (accepted_as 1 (2 ∷ []) (pos 1 ∷ []) (pos 5 ∷ [])) ∷
    text_line "(set-logic QF_LIA)(declare-const x Int)(assert (>= x 0))(assert (< x 5))(check-sat)" (accepted_as 1 (2 ∷ []) (pos 1 ∷ []) (pos 4 ∷ [])) ∷
    text_line "(set-logic QF_LIA)(declare-const x Int)(assert (>= x 0))(assert (>= x 5))(check-sat)" (accepted_as 1 (2 ∷ []) (negsuc 0 ∷ []) (negsuc 4 ∷ [])) ∷
    text_line "(set-logic QF_LIA)(declare-const x Int)(assert (>= x 0))(assert (> x 5))(check-sat)" (accepted_as 1 (2 ∷ []) (negsuc 0 ∷ []) (negsuc 5 ∷ [])) ∷
    -- an equation: left minus right
    text_line "(set-logic QF_LIA)(declare-const x Int)(assert (>= x 0))(assert (= 5 x))(check-sat)" (accepted_as 1 (1 ∷ []) (negsuc 0 ∷ []) (negsuc 4 ∷ [])) ∷
    text_line "(set-logic QF_LIA)(declare-const x Int)(assert (>= x 0))(assert (= (+ x 3 (* 2 x)) (- (* x 4) (- 1))))(check-sat)" (accepted_as 1 (1 ∷ []) (negsuc 0 ∷ []) (negsuc 1 ∷ [])) ∷
    -- without names an atom of zeros
    text_line "(set-logic QF_LIA)(declare-const x Int)(assert (>= x 0))(assert (< 1 2))(check-sat)" (accepted_as 1 (2 ∷ []) (pos 0 ∷ []) (pos 0 ∷ [])) ∷
    -- connectives
    -- one part is itself
    text_line "(set-logic QF_LIA)(declare-const x Int)(assert (>= x 0))(assert (and (= x 1)))(check-sat)" (accepted_as 1 (1 ∷ []) (pos 1 ∷ []) (pos 1 ∷ [])) ∷
    text_line "(set-logic QF_LIA)(declare-const x Int)(assert (>= x 0))(assert (not (= x 1)))(check-sat)" (accepted_as 1 (3 ∷ 1 ∷ []) (pos 1 ∷ []) (pos 1 ∷ [])) ∷
    -- the rest as second part
    text_line "(set-logic QF_LIA)(declare-const x Int)(assert (>= x 0))(assert (or (= x 1) (= x 2) (= x 3)))(check-sat)" (accepted_as 1 (5 ∷ 1 ∷ 5 ∷ 1 ∷ 1 ∷ []) (pos 1 ∷ pos 0 ∷ pos 0 ∷ pos 0 ∷ pos 0 ∷ pos 0 ∷ pos 1 ∷ pos 0 ∷ pos 0 ∷ pos 0 ∷ pos 0 ∷ pos 0 ∷ pos 1 ∷ []) (pos 1 ∷ pos 2 ∷ pos 3 ∷ [])) ∷
    -- the assertions by and
    text_line "(set-logic QF_LIA)(declare-const x Int)(assert (>= x 0))(assert (= x 1))(assert (= x 2))(assert (= x 3))(check-sat)" (accepted_as 1 (4 ∷ 1 ∷ 4 ∷ 1 ∷ 1 ∷ []) (pos 1 ∷ pos 0 ∷ pos 0 ∷ pos 0 ∷ pos 0 ∷ pos 0 ∷ pos 1 ∷ pos 0 ∷ pos 0 ∷ pos 0 ∷ pos 0 ∷ pos 0 ∷ pos 1 ∷ []) (pos 1 ∷ pos 2 ∷ pos 3 ∷ [])) ∷
    -- 5, 12 and 13 in question order, at the comparison or connective
    -- a ninth atom
    text_line "(set-logic QF_LIA)(declare-const x Int)(assert (>= x 0))(assert (or (= x 1) (= x 2) (= x 3) (= x 4) (= x 5) (= x 6) (= x 7) (= x 8) (= x 9)))(check-sat)" (refused_by 5 132) ∷
    -- an atom at depth 16
    text_line "(set-logic QF_LIA)(declare-const x Int)(assert (>= x 0))(assert (not (not (not (not (not (not (not (not (not (not (not (not (not (not (not (= x 1)))))))))))))))))(check-sat)" (accepted_as 1 (3 ∷ 3 ∷ 3 ∷ 3 ∷ 3 ∷ 3 ∷ 3 ∷ 3 ∷ 3 ∷ 3 ∷ 3 ∷ 3 ∷ 3 ∷ 3 ∷ 3 ∷ 1 ∷ []) (pos 1 ∷ []) (pos 1 ∷ [])) ∷
    -- and at 17
    text_line "(set-logic QF_LIA)(declare-const x Int)(assert (>= x 0))(assert (not (not (not (not (not (not (not (not (not (not (not (not (not (not (not (not (= x 1))))))))))))))))))(check-sat)" (refused_by 5 144) ∷
    text_line "(set-logic QF_LIA)(declare-const x Int)(assert (>= x 0))(assert (= (* 4097 x) 1))(check-sat)" (refused_by 12 64) ∷
    text_line "(set-logic QF_LIA)(declare-const x Int)(assert (>= x 0))(assert (= x (* 1000 1001)))(check-sat)" (refused_by 13 64) ∷
    -- after it is lowered
    text_line "(set-logic QF_LIA)(declare-const x Int)(assert (>= x 0))(assert (< (+ x 1000000) 0))(check-sat)" (refused_by 13 64) ∷
    text_line "(set-logic QF_LIA)(declare-const x Int)(assert (>= x 0))(assert (or (= (* 4097 x) 1) (= x (* 1000 1001))))(check-sat)" (refused_by 12 68) ∷
    text_line "(set-logic QF_LIA)(declare-const x Int)(assert (>= x 0))(assert (and (or (= x 1) (= x 2) (= x 3) (= x 4) (= x 5) (= x 6) (= x 7) (= x 8)) (= x 9)))(check-sat)" (refused_by 5 138) ∷
    []

pub edges_hold : texts_given edges ≡ texts_wanted edges
unfolding importing
edges_hold = refl
