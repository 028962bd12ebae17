-- The words that SMT-LIB 2.6 or the subset gives a meaning, as bytes, and whether two spellings are the same.
use Rattle.std.specs.Prelude.{ℕ, Bool, true, false, cond, ◌&&◌, ◌||◌, List, [], ◌∷◌, ◌++◌, eqb}
use Prim.Native.Char.{code}
use Prim.Native.String.{String}

unfoldable pub same : List ℕ → List ℕ → Bool
same [] [] = true
same [] (b ∷ m) = false
same (a ∷ l) [] = false
same (a ∷ l) (b ∷ m) = eqb a b && same l m

-- whether a spelling is one of these
unfoldable pub is_in : List ℕ → List (List ℕ) → Bool
is_in w [] = false
is_in w (v ∷ vs) = same w v || is_in w vs

-- ---- texts as bytes

abbrev pub spelling : String → List ℕ
spelling String.[] = []
spelling (String.◌∷◌ c s) = code c ∷ spelling s

-- a byte before the first of the words
abbrev longer : ℕ → List (List ℕ) → List (List ℕ)
longer b [] = (b ∷ []) ∷ []
longer b (w ∷ ws) = (b ∷ w) ∷ ws

-- the words of a text, a space between two
abbrev pub words_in : List ℕ → List (List ℕ)
words_in [] = [] ∷ []
words_in (b ∷ l) = cond (eqb b 32) ([] ∷ words_in l) (longer b (words_in l))

-- ---- symbols of the theories Core and Ints, which no text declares

abbrev pub theory_words : List (List ℕ)
theory_words = words_in (spelling "true false not => and or xor = distinct ite + - * div mod abs <= < >= >")

-- ---- reserved words: the general ones, then the commands' names

abbrev pub reserved_words : List (List ℕ)
reserved_words =
    words_in (spelling "! _ as BINARY DECIMAL exists HEXADECIMAL forall let match NUMERAL par STRING") ++
    words_in (spelling "assert check-sat check-sat-assuming declare-const declare-datatype declare-datatypes declare-fun declare-sort define-fun define-fun-rec define-funs-rec define-sort echo exit") ++
    words_in (spelling "get-assertions get-assignment get-info get-model get-option get-proof get-unsat-assumptions get-unsat-core get-value pop push reset reset-assertions set-info set-logic set-option")
