-- Two formulas and a circuit, in the page's own words.
use Rattle.std.specs.Prelude.{ℕ, List, [], ◌∷◌, ◌++◌, codes}
use Rattle.headline.specs.Headline.{Circuit, Formula, clause, dependent, existentials, opposite, positive, universals, xor}

abbrev pub line : List ℕ → List ℕ
line text = text ++ 10 ∷ []

-- y2 is a copy of x1, which it sees
abbrev pub copies_text : List ℕ
copies_text =
    line (codes "p cnf 2 2") ++ (line (codes "a 1 0") ++ (line (codes "d 2 1 0")
    ++ (line (codes "1 -2 0") ++ line (codes "-1 2 0"))))

abbrev pub copies : Formula
copies = record {
  variables = 2;
  parts = universals (1 ∷ []) ∷ dependent 2 (1 ∷ []) ∷ [];
  constraints = clause (positive 1 ∷ opposite 2 ∷ []) ∷ clause (opposite 1 ∷ positive 2 ∷ []) ∷ [];
}

-- the same, and y2 sees nothing
abbrev pub blind_copies : Formula
blind_copies = record {
  variables = 2;
  parts = universals (1 ∷ []) ∷ dependent 2 [] ∷ [];
  constraints = clause (positive 1 ∷ opposite 2 ∷ []) ∷ clause (opposite 1 ∷ positive 2 ∷ []) ∷ [];
}

-- a wire
abbrev pub wire_text : List ℕ
wire_text = line (codes "aag 1 1 0 1 0") ++ (line (codes "2") ++ line (codes "2"))

abbrev pub wire : Circuit
wire = record { largest = 1; inputs = 1 ∷ []; outputs = 2 ∷ []; gates = [] }

-- one of two variables is true, an odd number
abbrev pub one_of_two : Formula
one_of_two = record {
  variables = 2;
  parts = existentials (1 ∷ 2 ∷ []) ∷ [];
  constraints = xor (positive 1 ∷ positive 2 ∷ []) ∷ [];
}

-- and so are both
abbrev pub both_and_one : Formula
both_and_one = record {
  variables = 2;
  parts = existentials (1 ∷ 2 ∷ []) ∷ [];
  constraints = xor (positive 1 ∷ positive 2 ∷ []) ∷ clause (positive 1 ∷ [])
      ∷ clause (positive 2 ∷ []) ∷ [];
}

-- y2 is x1's negation, and in the binary form the negated wire
abbrev pub opposites : Formula
opposites = record {
  variables = 2;
  parts = universals (1 ∷ []) ∷ dependent 2 (1 ∷ []) ∷ [];
  constraints = clause (positive 1 ∷ positive 2 ∷ []) ∷ clause (opposite 1 ∷ opposite 2 ∷ []) ∷ [];
}

abbrev pub negated_text : List ℕ
negated_text = line (codes "aig 1 1 0 1 0") ++ line (codes "3")

abbrev pub negated_wire : Circuit
negated_wire = record { largest = 1; inputs = 1 ∷ []; outputs = 3 ∷ []; gates = [] }

-- y2's value is that of x1, and a proof of it
abbrev pub definition_text : List ℕ
definition_text =
    line (codes "p dqd 1") ++ (line (codes "t 2 2 0 2") ++ (line (codes "5 2 0 3 2 0")
    ++ line (codes "6 0 5 1 4 0")))

-- nothing is asked of y2
abbrev pub loose : Formula
loose = record {
  variables = 2;
  parts = universals (1 ∷ []) ∷ dependent 2 (1 ∷ []) ∷ [];
  constraints = [];
}
