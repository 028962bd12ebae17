-- The head of a list as a code.
use Rattle.std.specs.Prelude.{ℕ, ◌≤◌, ◌<◌, ◌≡◌, refl, cond, eqb, List}
use Rattle.std.proofs.Common.{sym, ap, ◌∙◌}
use Rattle.smtlib.specs.Forms.{Bare, Forms, nothing, word, list}
use Rattle.smtlib.specs.Terms.{equal, at_most, below, at_least, above, Head, plus, minus, times, compare, negation, conjunction, disjunction, other_head, head_of}
use Rattle.forms.specs.Places.{forms_at, around, Unbroken}
use Rattle.terms.specs.declared.ListHead.{ListHead}
use Rattle.terms.specs.declared.heads.HeadWord.{HeadWord}
use Rattle.terms.specs.declared.heads.ListKind.{ListKind}

abbrev pub head_code : Head → ℕ
head_code plus = 0
head_code minus = 1
head_code times = 2
head_code (compare equal) = 3
head_code (compare at_most) = 4
head_code (compare below) = 5
head_code (compare at_least) = 6
head_code (compare above) = 7
head_code negation = 8
head_code conjunction = 9
head_code disjunction = 10
head_code other_head = 11

-- of the code's head
abbrev pub word_code : HeadWord → ℕ
word_code HeadWord.Plus = 0
word_code HeadWord.Minus = 1
word_code HeadWord.Times = 2
word_code HeadWord.Equal = 3
word_code HeadWord.AtMost = 4
word_code HeadWord.Less = 5
word_code HeadWord.AtLeast = 6
word_code HeadWord.Greater = 7
word_code HeadWord.Not = 8
word_code HeadWord.And = 9
word_code HeadWord.Or = 10
word_code HeadWord.Other = 11

-- a head is told by its code
abbrev word_of : ℕ → HeadWord
word_of code = cond (eqb code 0) HeadWord.Plus (
    cond (eqb code 1) HeadWord.Minus (
    cond (eqb code 2) HeadWord.Times (
    cond (eqb code 3) HeadWord.Equal (
    cond (eqb code 4) HeadWord.AtMost (
    cond (eqb code 5) HeadWord.Less (
    cond (eqb code 6) HeadWord.AtLeast (
    cond (eqb code 7) HeadWord.Greater (
    cond (eqb code 8) HeadWord.Not (
    cond (eqb code 9) HeadWord.And (
    cond (eqb code 10) HeadWord.Or (
    HeadWord.Other)))))))))))

word_of_lem : (h : HeadWord) → word_of (word_code h) ≡ h
word_of_lem HeadWord.Plus = refl
word_of_lem HeadWord.Minus = refl
word_of_lem HeadWord.Times = refl
word_of_lem HeadWord.Equal = refl
word_of_lem HeadWord.AtMost = refl
word_of_lem HeadWord.Less = refl
word_of_lem HeadWord.AtLeast = refl
word_of_lem HeadWord.Greater = refl
word_of_lem HeadWord.Not = refl
word_of_lem HeadWord.And = refl
word_of_lem HeadWord.Or = refl
word_of_lem HeadWord.Other = refl

pub same_word : (h k : HeadWord) → word_code h ≡ word_code k → h ≡ k
same_word h k e = sym (word_of_lem h) ∙ ap word_of e ∙ word_of_lem k

-- what a list is by its head's code
abbrev pub KindSays : ℕ → ListKind → Type 0
KindSays code ListKind.Term = code ≤ 2
KindSays code ListKind.Comparison = (3 ≤ code) × (code ≤ 7)
KindSays code ListKind.Connective = (8 ≤ code) × (code ≤ 10)
KindSays code ListKind.Other = 10 < code

-- the head of a list's forms, and the parts behind it; a list that begins with no word has none that the subset knows
abbrev pub head_in : Forms → Head
head_in nothing = other_head
head_in (word at w rest) = head_of w
head_in (list at inner rest) = other_head

-- ---- the head of the list at a place, with so many lists open

pub record PartsBehind (text : List ℕ) (at depth next : ℕ) : Type 0 where
  pub place : ℕ
  pub head : Bare
  pub forms : forms_at text at ≡ word place head (forms_at text next)
  pub levels : around text next ≡ around text at
  pub unbroken : Unbroken text next depth

pub record HeadRead (text : List ℕ) (at depth : ℕ) (r : ListHead) : Type 0 where
  pub code_is : word_code r.word ≡ head_code (head_in (forms_at text at))
  pub parts : word_code r.word < 11 → PartsBehind text at depth r.next

unfoldable pub HeadReads : List ℕ → ℕ → ListHead → Type 0
HeadReads text at r = (depth : ℕ) → Unbroken text at depth → HeadRead text at depth r
