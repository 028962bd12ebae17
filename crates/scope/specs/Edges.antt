-- The edges of document 01, and of document 02, E1, worked by hand: of two checks that both fail the earlier one counts, each limit and the first number
-- beyond it, of bytes and of trees, and running, which the outside vectors leave out. One table, one claim.
use Rattle.std.specs.Prelude.{ℕ, zero, suc, ◌-◌, ◌≡◌, refl, true, false, List, [], ◌∷◌, ◌++◌, length, replicate, set, ℤ, pos, negsuc, Ok, Err}
use Rattle.scope.specs.declared.Question.{Question}
use Rattle.scope.specs.Whole.{joined}
use Rattle.scope.specs.Question.{equation, at_most}
use Rattle.scope.specs.Tree.{Tree}
use Rattle.scope.specs.Outcomes.{Outcome, numbered_refusal, held, wrote_bytes, truth, spelling, count, tree, holding, Line, line, all_given, wanted, marked, reads, writes, judges, spells, runs, bounds, asks, fits_limits, says_tree, running}

-- ---- bytes of questions, over one variable where nothing else is said

abbrev head_of : ℕ → List ℕ
head_of n = 1 ∷ 0 ∷ 1 ∷ 0 ∷ n ∷ []

abbrev head : List ℕ
head = head_of 1

abbrev nots : ℕ → List ℕ
nots k = joined (replicate k (0 ∷ 0 ∷ 0x20 ∷ 0 ∷ []))

abbrev ands : ℕ → List ℕ
ands k = joined (replicate k (0 ∷ 0 ∷ 0x21 ∷ 0 ∷ []))

-- 0x = 0, and the same k times
abbrev atom : List ℕ
atom = 8 ∷ 0 ∷ 0x10 ∷ 0 ∷ 0 ∷ 0 ∷ 0 ∷ 0 ∷ 0 ∷ 0 ∷ 0 ∷ 0 ∷ []

abbrev atoms : ℕ → List ℕ
atoms k = joined (replicate k atom)

-- the coefficient is two bytes c d, or their negative by two bytes of ones; the constant is 0
abbrev atom_of : ℕ → ℕ → ℕ → List ℕ
atom_of c d sign = 8 ∷ 0 ∷ 0x10 ∷ 0 ∷ c ∷ d ∷ sign ∷ sign ∷ 0 ∷ 0 ∷ 0 ∷ 0 ∷ []

-- the constant is three bytes b c d, or their negative by a byte of ones; the coefficient is 0
abbrev atom_at : ℕ → ℕ → ℕ → ℕ → List ℕ
atom_at b c d sign = 8 ∷ 0 ∷ 0x11 ∷ 0 ∷ 0 ∷ 0 ∷ 0 ∷ 0 ∷ b ∷ c ∷ d ∷ sign ∷ []

-- of more variables: a number of four bytes is 1 or 2^24
abbrev within : List ℕ
within = 1 ∷ 0 ∷ 0 ∷ 0 ∷ []

abbrev beyond : List ℕ
beyond = 0 ∷ 0 ∷ 0 ∷ 1 ∷ []

abbrev atom_in : List (List ℕ) → List ℕ → List ℕ
atom_in coefficients constant = let body = joined coefficients ++ constant in length body ∷ 0 ∷ 0x11 ∷ 0 ∷ body

abbrev end : List ℕ
end = 0 ∷ 0 ∷ 0xFF ∷ 0 ∷ []

-- four ands over four parts of twelve nots and an atom, and nots in the last part: the ninth of those is the 65th node
abbrev wide : ℕ → List ℕ
wide last = ands 3 ++ (part ++ (part ++ (ands 1 ++ (part ++ (part ++ nots last)))))
  where
    part : List ℕ
    part = nots 12 ++ atom

-- ---- trees over one variable

abbrev one_atom : ℤ → ℤ → Tree
one_atom a k = Tree.atom (record { kind = equation; coefficients = a ∷ []; constant = k })

-- x <= k
abbrev up_to : ℕ → Tree
up_to k = Tree.atom (record { kind = at_most; coefficients = pos 1 ∷ []; constant = pos k })

abbrev under : ℕ → Tree → Tree
under zero t = t
under (suc k) t = Tree.not (under k t)

-- as many atoms
abbrev chain : ℕ → Tree
chain zero = one_atom (pos 0) (pos 0)
chain (suc k) = Tree.and (one_atom (pos 0) (pos 0)) (chain k)

-- 60 nodes, and the last nots
abbrev broad : ℕ → Tree
broad last = Tree.or (Tree.or (under 13 x) (under 13 x)) (Tree.or (under 13 x) (Tree.or (under 12 x) (under last x)))
  where
    x : Tree
    x = one_atom (pos 0) (pos 0)

-- ---- outcomes

abbrev refused_at : ℕ → ℕ → Outcome
refused_at number place = held (Err (numbered_refusal number place))

-- the question with these codes and numbers, and zeros after them
abbrev over : ℕ → List ℕ → List ℤ → List ℤ → Question
over n codes coefficients constants = record {
  n = n;
  codes = codes ++ replicate (64 - length codes) 0;
  coefficients = coefficients ++ replicate (48 - length coefficients) (pos 0);
  constants = constants ++ replicate (8 - length constants) (pos 0);
}

abbrev accepted : Question → Outcome
accepted q = held (Ok q)

abbrev unwritten : ℕ → ℕ → Outcome
unwritten number place = wrote_bytes (record { answer = Err (numbered_refusal number place); buffer = marked 4 })

abbrev refused_truth : ℕ → ℕ → Outcome
refused_truth number place = truth (Err (numbered_refusal number place))

abbrev unspelled : ℕ → Outcome
unspelled number = spelling (Err (numbered_refusal number 0))

-- the table of x = 0
abbrev nought : List ℕ
nought = 1 ∷ 0 ∷ 1 ∷ 0 ∷ 1 ∷ 1 ∷ []

abbrev edges : List Line
edges =
    -- the head
    line (reads []) (refused_at 1 0) ∷
    line (reads (2 ∷ 0 ∷ 9 ∷ [])) (refused_at 1 0) ∷
    line (reads (2 ∷ 0 ∷ 9 ∷ 0 ∷ [])) (refused_at 2 0) ∷
    line (reads (2 ∷ 0 ∷ 1 ∷ 0 ∷ [])) (refused_at 3 0) ∷
    line (reads (1 ∷ 0 ∷ 1 ∷ 0 ∷ [])) (refused_at 1 0) ∷
    line (reads (1 ∷ 0 ∷ 1 ∷ 0 ∷ 0 ∷ [])) (refused_at 4 0) ∷
    line (reads (1 ∷ 0 ∷ 1 ∷ 0 ∷ 7 ∷ [])) (refused_at 4 0) ∷
    -- a node: each check before the next
    line (reads (head ++ (9 ∷ 9 ∷ 9 ∷ []))) (refused_at 1 5) ∷
    line (reads (head ++ (9 ∷ 9 ∷ 9 ∷ 9 ∷ []))) (refused_at 2 5) ∷
    line (reads (head ++ (9 ∷ 0 ∷ 0x10 ∷ 0 ∷ []))) (refused_at 3 5) ∷
    line (reads (head ++ (nots 16 ++ (8 ∷ 0 ∷ 0x10 ∷ 0 ∷ [])))) (refused_at 1 69) ∷
    line (reads (head ++ (nots 16 ++ atom_of 0x88 0x13 0))) (refused_at 5 69) ∷
    line (reads (head ++ (nots 15 ++ atom_of 0x88 0x13 0))) (refused_at 12 69) ∷
    line (reads (head ++ end)) (refused_at 2 5) ∷
    -- the ninth atom, and the 65th node
    line (reads (head ++ (ands 8 ++ (atoms 8 ++ atom_of 0x88 0x13 0)))) (refused_at 5 133) ∷
    line (reads (head ++ (wide 9 ++ atom))) (refused_at 5 293) ∷
    -- the limits of a coefficient and of a constant, and the first numbers beyond them
    line (reads (head ++ (atom_of 0 0x10 0 ++ end))) (accepted (over 1 (1 ∷ []) (pos 4096 ∷ []) [])) ∷
    line (reads (head ++ (atom_of 1 0x10 0 ++ end))) (refused_at 12 9) ∷
    line (reads (head ++ (atom_of 0 0xF0 255 ++ end))) (accepted (over 1 (1 ∷ []) (negsuc 4095 ∷ []) [])) ∷
    line (reads (head ++ (atom_of 255 0xEF 255 ++ end))) (refused_at 12 9) ∷
    line (reads (head ++ (atom_at 0x40 0x42 0x0F 0 ++ end))) (accepted (over 1 (2 ∷ []) [] (pos 1000000 ∷ []))) ∷
    line (reads (head ++ (atom_at 0x41 0x42 0x0F 0 ++ end))) (refused_at 13 13) ∷
    line (reads (head ++ (atom_at 0xC0 0xBD 0xF0 255 ++ end))) (accepted (over 1 (2 ∷ []) [] (negsuc 999999 ∷ []))) ∷
    line (reads (head ++ (atom_at 0xBF 0xBD 0xF0 255 ++ end))) (refused_at 13 13) ∷
    -- of an atom's numbers beyond their limits the first in field order, at its first byte; of two atoms the first
    line (reads (head_of 3 ++ atom_in (within ∷ beyond ∷ beyond ∷ []) within)) (refused_at 12 13) ∷
    line (reads (head_of 3 ++ atom_in (within ∷ within ∷ beyond ∷ []) beyond)) (refused_at 12 17) ∷
    line (reads (head_of 3 ++ atom_in (within ∷ within ∷ within ∷ []) beyond)) (refused_at 13 21) ∷
    line (reads (head_of 6 ++ atom_in (replicate 5 within ++ (beyond ∷ [])) within)) (refused_at 12 29) ∷
    line (reads (head_of 6 ++ atom_in (replicate 6 within) beyond)) (refused_at 13 33) ∷
    line (reads (head ++ (ands 1 ++ (atom_in (within ∷ []) beyond ++ atom_in (beyond ∷ []) within)))) (refused_at 13 17) ∷
    line (reads (head ++ (ands 1 ++ (atom ++ atom_in (beyond ∷ []) beyond)))) (refused_at 12 25) ∷
    -- the end
    line (reads (head ++ atom)) (refused_at 1 17) ∷
    line (reads (head ++ atoms 2)) (refused_at 2 17) ∷
    line (reads (head ++ (atom ++ (1 ∷ 0 ∷ 0xFF ∷ 0 ∷ 0 ∷ [])))) (refused_at 3 17) ∷
    line (reads (head ++ (atom ++ (end ++ (0 ∷ []))))) (refused_at 6 21) ∷
    -- writing: n, then node by node, then what is left over, then the buffer
    line (writes (over 0 (9 ∷ []) [] []) 4) (unwritten 4 0) ∷
    line (writes (over 7 (1 ∷ []) [] []) 4) (unwritten 4 0) ∷
    line (writes (over 1 [] [] []) 4) (unwritten 2 0) ∷
    line (writes (over 1 (4 ∷ 1 ∷ 6 ∷ []) [] []) 4) (unwritten 2 2) ∷
    line (writes (over 1 (replicate 16 3 ++ (1 ∷ [])) (pos 4097 ∷ []) []) 4) (unwritten 5 16) ∷
    line (writes (over 1 (replicate 8 4 ++ replicate 9 1) (replicate 48 (pos 0)) []) 4) (unwritten 5 16) ∷
    line (writes (over 1 ((4 ∷ 4 ∷ 4 ∷ []) ++ (part ++ (part ++ (4 ∷ (part ++ (part ++ replicate 8 3)))))) [] []) 4) (unwritten 5 64) ∷
    line (writes (over 1 (4 ∷ 1 ∷ 1 ∷ 7 ∷ []) (replicate 6 (pos 0) ++ (pos 4097 ∷ [])) []) 4) (unwritten 12 2) ∷
    line (writes (over 2 (4 ∷ 1 ∷ 2 ∷ 7 ∷ []) (replicate 7 (pos 0) ++ (negsuc 4096 ∷ [])) (pos 0 ∷ pos 1000001 ∷ [])) 4) (unwritten 12 2) ∷
    line (writes (over 1 (4 ∷ 1 ∷ 2 ∷ []) (replicate 6 (pos 0) ++ (pos 4097 ∷ [])) (negsuc 1000000 ∷ [])) 4) (unwritten 13 1) ∷
    line (writes (over 1 (1 ∷ []) (pos 4096 ∷ pos 4097 ∷ []) []) 4) (unwritten 6 64) ∷
    line (writes (over 1 (1 ∷ 0 ∷ 7 ∷ []) (pos 1 ∷ pos 1 ∷ []) []) 4) (unwritten 6 2) ∷
    line (writes (over 1 (1 ∷ []) (pos 1 ∷ pos 1 ∷ []) []) 4) (unwritten 6 64) ∷
    line (writes (over 1 (1 ∷ []) [] (pos 1 ∷ pos 1 ∷ [])) 4) (unwritten 6 64) ∷
    line (writes (over 1 (1 ∷ []) [] []) 4) (unwritten 8 0) ∷
    -- judging: the question first, then the number of values, then each value
    line (judges (head ++ end) []) (refused_truth 2 5) ∷
    line (judges (head_of 2 ++ (atom_in (within ∷ beyond ∷ []) within ++ end)) []) (refused_truth 12 13) ∷
    line (judges (head ++ (atom ++ end)) []) (refused_truth 9 0) ∷
    line (judges (head ++ (atom ++ end)) (1099511627776 ∷ [])) (refused_truth 9 0) ∷
    line (judges (head ++ (atom ++ end)) (1099511627775 ∷ [])) (truth (Ok true)) ∷
    -- spelling: 4, then 10, then 9
    line (spells 0 1 (9 ∷ [])) (unspelled 4) ∷
    line (spells 2 3 (9 ∷ [])) (unspelled 4) ∷
    line (spells 2 0 []) (unspelled 4) ∷
    line (spells 2 2 (replicate 65 4)) (unspelled 10) ∷
    line (spells 2 2 (replicate 65 3)) (unspelled 9) ∷
    line (spells 2 2 (replicate 64 3)) (spelling (Ok 18446744073709551615)) ∷
    line (spells 6 6 (31 ∷ 32 ∷ 63 ∷ [])) (spelling (Ok 6)) ∷
    -- running: 4, then 11, then 10
    line (runs 7 [] (9 ∷ [])) (refused_truth 4 0) ∷
    line (runs 1 [] (9 ∷ [])) (refused_truth 11 0) ∷
    line (runs 1 (1 ∷ 0 ∷ []) (9 ∷ [])) (refused_truth 11 0) ∷
    line (runs 1 (nought ++ (0 ∷ [])) []) (refused_truth 11 0) ∷
    line (runs 1 (set nought 0 2) []) (refused_truth 11 0) ∷
    line (runs 1 (set nought 5 2) []) (refused_truth 11 0) ∷
    line (runs 1 nought (0 ∷ 2 ∷ [])) (refused_truth 10 0) ∷
    line (runs 1 nought []) (truth (Ok true)) ∷
    line (runs 1 nought (0 ∷ 0 ∷ [])) (truth (Ok true)) ∷
    line (runs 1 nought (0 ∷ 1 ∷ 0 ∷ [])) (truth (Ok false)) ∷
    line (runs 1 nought (replicate 99 0)) (truth (Ok true)) ∷
    -- a tree: each limit, and the first number beyond it
    line (fits_limits 0 (Tree.atom (record { kind = equation; coefficients = []; constant = pos 0 }))) (holding false) ∷
    line (fits_limits 1 (one_atom (pos 0) (pos 0))) (holding true) ∷
    line (fits_limits 2 (one_atom (pos 0) (pos 0))) (holding false) ∷
    line (fits_limits 6 (Tree.atom (record { kind = at_most; coefficients = replicate 6 (pos 0); constant = pos 0 }))) (holding true) ∷
    line (fits_limits 7 (Tree.atom (record { kind = at_most; coefficients = replicate 7 (pos 0); constant = pos 0 }))) (holding false) ∷
    line (fits_limits 1 (under 15 (one_atom (pos 0) (pos 0)))) (holding true) ∷
    line (fits_limits 1 (under 16 (one_atom (pos 0) (pos 0)))) (holding false) ∷
    line (fits_limits 1 (Tree.and (under 15 (one_atom (pos 0) (pos 0))) (one_atom (pos 0) (pos 0)))) (holding false) ∷
    line (fits_limits 1 (Tree.or (one_atom (pos 0) (pos 0)) (under 15 (one_atom (pos 0) (pos 0))))) (holding false) ∷
    line (fits_limits 1 (chain 7)) (holding true) ∷
    line (fits_limits 1 (chain 8)) (holding false) ∷
    line (fits_limits 1 (broad 4)) (holding true) ∷
    line (fits_limits 1 (broad 5)) (holding false) ∷
    line (fits_limits 1 (one_atom (pos 4096) (pos 1000000))) (holding true) ∷
    line (fits_limits 1 (one_atom (negsuc 4095) (negsuc 999999))) (holding true) ∷
    line (fits_limits 1 (one_atom (pos 4097) (pos 0))) (holding false) ∷
    line (fits_limits 1 (one_atom (negsuc 4096) (pos 0))) (holding false) ∷
    line (fits_limits 1 (one_atom (pos 0) (pos 1000001))) (holding false) ∷
    line (fits_limits 1 (one_atom (pos 0) (negsuc 1000000))) (holding false) ∷
    line (fits_limits 1 (Tree.and (one_atom (pos 0) (pos 0)) (one_atom (pos 4097) (pos 0)))) (holding false) ∷
    -- what it says: each connective with each truth of its parts
    line (says_tree (up_to 5) (5 ∷ [])) (holding true) ∷
    line (says_tree (up_to 5) (6 ∷ [])) (holding false) ∷
    line (says_tree (one_atom (negsuc 0) (negsuc 4)) (5 ∷ [])) (holding true) ∷
    line (says_tree (Tree.not (up_to 5)) (6 ∷ [])) (holding true) ∷
    line (says_tree (Tree.not (up_to 5)) (5 ∷ [])) (holding false) ∷
    line (says_tree (Tree.and (up_to 5) (up_to 7)) (5 ∷ [])) (holding true) ∷
    line (says_tree (Tree.and (up_to 5) (up_to 7)) (6 ∷ [])) (holding false) ∷
    line (says_tree (Tree.and (up_to 7) (up_to 5)) (6 ∷ [])) (holding false) ∷
    line (says_tree (Tree.or (up_to 5) (up_to 7)) (6 ∷ [])) (holding true) ∷
    line (says_tree (Tree.or (up_to 7) (up_to 5)) (6 ∷ [])) (holding true) ∷
    line (says_tree (Tree.or (up_to 5) (up_to 7)) (8 ∷ [])) (holding false) ∷
    -- its bytes: a connective, then its parts in their order
    line (asks 1 (Tree.and (up_to 5) (up_to 7))) (tree true (head ++ (0 ∷ 0 ∷ 0x21 ∷ 0 ∷ 8 ∷ 0 ∷ 0x11 ∷ 0 ∷ 1 ∷ 0 ∷ 0 ∷ 0 ∷ 5 ∷ 0 ∷ 0 ∷ 0 ∷ 8 ∷ 0 ∷ 0x11 ∷ 0 ∷ 1 ∷ 0 ∷ 0 ∷ 0 ∷ 7 ∷ 0 ∷ 0 ∷ 0 ∷ end))) ∷
    line (asks 1 (Tree.or (up_to 5) (up_to 7))) (tree true (head ++ (0 ∷ 0 ∷ 0x22 ∷ 0 ∷ 8 ∷ 0 ∷ 0x11 ∷ 0 ∷ 1 ∷ 0 ∷ 0 ∷ 0 ∷ 5 ∷ 0 ∷ 0 ∷ 0 ∷ 8 ∷ 0 ∷ 0x11 ∷ 0 ∷ 1 ∷ 0 ∷ 0 ∷ 0 ∷ 7 ∷ 0 ∷ 0 ∷ 0 ∷ end))) ∷
    -- the bound: of 0x = 0 one number and dead; of x <= 1000000, from -1 on, no dead
    line (bounds (head ++ (atom ++ end))) (count 2) ∷
    line (bounds (head ++ ((8 ∷ 0 ∷ 0x11 ∷ 0 ∷ 1 ∷ 0 ∷ 0 ∷ 0 ∷ 0x40 ∷ 0x42 ∷ 0x0F ∷ 0 ∷ []) ++ end))) (count 1000002) ∷
    []
  where
    part : List ℕ
    part = replicate 12 3 ++ (1 ∷ [])

pub edges_hold : all_given edges ≡ wanted edges
unfolding running
edges_hold = refl
