-- A node noted in what is laid: its code, and an atom's numbers.
use Rattle.std.specs.Prelude.{ℕ, ◌+◌, ◌*◌, cond, List, get_or, set, take, drop, eqb, ℤ, pos, neg_ℤ}
use Rattle.std.proofs.lemmas.List.Edits.{sets}
use Rattle.scope.specs.Sizes.{most_variables}
use Rattle.scope.specs.Question.{Node, code_of, empty_question}
use Rattle.smtlib.specs.Terms.{Relation, equal, at_most, below, at_least, above}
use Rattle.smtlib.specs.Formulas.{kind_for, lowered}
use Rattle.smtlib.specs.Imported.{PlacedNode}
use Rattle.laying.specs.declared.Laying.{Laying}

-- of n variables
abbrev pub empty_laying : ℕ → Laying
empty_laying n = record {
  n = n;
  nodes = 0;
  atoms = 0;
  depth = 1;
  codes = empty_question.codes;
  coefficients = empty_question.coefficients;
  constants = empty_question.constants;
}

abbrev pub with_code : Laying → ℕ → Laying
with_code l code = record {
  n = l.n;
  nodes = l.nodes + 1;
  atoms = l.atoms;
  depth = l.depth;
  codes = set l.codes l.nodes code;
  coefficients = l.coefficients;
  constants = l.constants;
}

-- the next node stands at this depth
abbrev pub at_depth : Laying → ℕ → Laying
at_depth l depth = record {
  n = l.n;
  nodes = l.nodes;
  atoms = l.atoms;
  depth = depth;
  codes = l.codes;
  coefficients = l.coefficients;
  constants = l.constants;
}

-- an atom's first n coefficients, and its constant
abbrev pub with_numbers : Laying → List ℤ → ℤ → Laying
with_numbers l coefficients constant = record {
  n = l.n;
  nodes = l.nodes;
  atoms = l.atoms + 1;
  depth = l.depth;
  codes = l.codes;
  coefficients = sets l.coefficients (most_variables * l.atoms) (take l.n coefficients);
  constants = set l.constants l.atoms constant;
}

-- ---- comparisons

-- by the code of a list's head
abbrev pub relation_of : ℕ → Relation
relation_of head = cond (eqb head 3) equal (cond (eqb head 4) at_most (cond (eqb head 5) below (cond (eqb head 6) at_least above)))

abbrev pub comparison_code : ℕ → ℕ
comparison_code head = code_of (Node.atom (kind_for (relation_of head)))

abbrev pub comparison_laid : ℕ → ℕ → ℕ → List ℤ → PlacedNode
comparison_laid depth head place numbers = record {
  place = place;
  depth = depth;
  node = Node.atom (kind_for (relation_of head));
  coefficients = drop 1 numbers;
  constant = lowered (relation_of head) (neg_ℤ (get_or numbers 0 (pos 0)));
}
