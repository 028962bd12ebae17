-- What a text says, by itself and by the standard: a value for each symbol, terms as whole numbers, formulas as truths, and every assertion true.
use Rattle.std.specs.Prelude.{ℕ, Bool, true, false, not, ◌&&◌, ◌||◌, List, [], ◌∷◌, ℤ, pos, neg_ℤ, ◌+ℤ◌, ◌-ℤ◌, ◌*ℤ◌}
use Rattle.std.specs.Int.Signed.{le_z, lt_z}
use Rattle.scope.specs.Whole.{eq_z}
use Rattle.smtlib.specs.Forms.{Bare, numeral, symbol, reserved, other_word, Forms, nothing, word, list}
use Rattle.smtlib.specs.Terms.{Relation, equal, at_most, below, at_least, above, Head, plus, minus, times, compare, negation, conjunction, disjunction, other_head, head_of}
use Rattle.smtlib.specs.Script.{Command, set_logic, declare_const, assert, check_sat, other_command, command_of, behind}

-- ---- terms

abbrev pub word_value : (List ℕ → ℤ) → Bare → ℤ
word_value v (numeral k) = pos k
word_value v (symbol s) = v s
word_value v (reserved s) = pos 0
word_value v other_word = pos 0

unfoldable pub sum_of : List ℤ → ℤ
sum_of [] = pos 0
sum_of (a ∷ l) = a +ℤ sum_of l

unfoldable pub product_of : List ℤ → ℤ
product_of [] = pos 1
product_of (a ∷ l) = a *ℤ product_of l

-- the first alone is turned round
unfoldable pub difference_of : List ℤ → ℤ
difference_of [] = pos 0
difference_of (a ∷ []) = neg_ℤ a
difference_of (a ∷ b ∷ l) = a -ℤ sum_of (b ∷ l)

abbrev pub worked : Head → List ℤ → ℤ
worked plus l = sum_of l
worked minus l = difference_of l
worked times l = product_of l
worked (compare r) l = pos 0
worked negation l = pos 0
worked conjunction l = pos 0
worked disjunction l = pos 0
worked other_head l = pos 0

-- the value of each of the forms
unfoldable pub values_of : (List ℕ → ℤ) → Forms → List ℤ
values_of v nothing = []
values_of v (word at w rest) = word_value v w ∷ values_of v rest
values_of v (list at nothing rest) = pos 0 ∷ values_of v rest
values_of v (list at (word start h parts) rest) = worked (head_of h) (values_of v parts) ∷ values_of v rest
values_of v (list at (list start inner parts) rest) = pos 0 ∷ values_of v rest

-- ---- formulas

abbrev pub relates : Relation → ℤ → ℤ → Bool
relates equal a b = eq_z a b
relates at_most a b = le_z a b
relates below a b = lt_z a b
relates at_least a b = le_z b a
relates above a b = lt_z b a

-- each with the next
unfoldable pub chained : Relation → List ℤ → Bool
chained r [] = true
chained r (a ∷ []) = true
chained r (a ∷ b ∷ l) = relates r a b && chained r (b ∷ l)

unfoldable pub every : List Bool → Bool
every [] = true
every (t ∷ l) = t && every l

unfoldable pub any : List Bool → Bool
any [] = false
any (t ∷ l) = t || any l

abbrev pub truth_by : Head → List ℤ → List Bool → Bool
truth_by plus values truths = false
truth_by minus values truths = false
truth_by times values truths = false
truth_by (compare r) values truths = chained r values
truth_by negation values truths = not (every truths)
truth_by conjunction values truths = every truths
truth_by disjunction values truths = any truths
truth_by other_head values truths = false

-- the truth of each of the forms
unfoldable pub truths_of : (List ℕ → ℤ) → Forms → List Bool
truths_of v nothing = []
truths_of v (word at w rest) = false ∷ truths_of v rest
truths_of v (list at nothing rest) = false ∷ truths_of v rest
truths_of v (list at (word start h parts) rest) = truth_by (head_of h) (values_of v parts) (truths_of v parts) ∷ truths_of v rest
truths_of v (list at (list start inner parts) rest) = false ∷ truths_of v rest

-- ---- the text

abbrev pub command_holds : (List ℕ → ℤ) → Command → Forms → Bool
command_holds v set_logic parts = true
command_holds v declare_const parts = true
command_holds v assert parts = every (truths_of v parts)
command_holds v check_sat parts = true
command_holds v other_command parts = true

-- every assertion is true
unfoldable pub text_holds : (List ℕ → ℤ) → Forms → Bool
text_holds v nothing = true
text_holds v (word at w rest) = text_holds v rest
text_holds v (list at inner rest) = command_holds v (command_of inner) (behind inner) && text_holds v rest
