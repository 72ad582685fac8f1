-- Logs of two small formulas, newest entry first, to hold the definitions against.
use Rattle.std.specs.Prelude.{ℕ, ◌≢◌, true, false, List, [], ◌∷◌}
use Rattle.dq_lits.specs.Literal.{positive, negative}
use Rattle.dq_lits.specs.Formula.{Existential, Dqbf}
use Rattle.hint_log.specs.Entries.{Entry, Named, Given, Learned, Answer, Round}
use Rattle.hint_log.specs.declared.names.Name.TheVariants.{Selector, Pair, Input, And, Bad}
use Rattle.hint_log.specs.declared.origins.Leaf.TheVariants.{Constant, Literal as LeafLiteral}
use Rattle.hint_log.specs.declared.origins.Origin.TheVariants.{Instance, Gate, Fault}
use Rattle.hint_log.specs.Conditions.{AreLogged}
use Rattle.hint_log.specs.Deciding.{KeepsSelectors}
use Rattle.hint_log.specs.Growth.{Each}
use Rattle.hint_log.specs.ProductiveLog.{MatchesOrigin, IsDerivedByHints, IsNewLemma, RefutesNewRow, FollowsModel, IsNotRepeated}

-- the points of a productive log
pub data Point : Type 0 where
  matching_origins : Point
  derived_lemmas : Point
  new_lemmas : Point
  new_rows : Point
  followed_models : Point
  single_givens : Point

abbrev pub Meets : Dqbf → List Entry → Point → Type 0
Meets f entries matching_origins = Each (MatchesOrigin f) entries
Meets f entries derived_lemmas = Each IsDerivedByHints entries
Meets f entries new_lemmas = Each IsNewLemma entries
Meets f entries new_rows = Each (RefutesNewRow f) entries
Meets f entries followed_models = Each (FollowsModel f) entries
Meets f entries single_givens = Each IsNotRepeated entries

-- the log misses this point, and no other
pub record MissesAlone (f : Dqbf) (entries : List Entry) (point : Point) : Type 0 where
  pub missed : Meets f entries point → ⊥
  pub others : (other : Point) → other ≢ point → Meets f entries other
  pub logged : AreLogged entries
  pub keeps_selectors : KeepsSelectors entries

abbrev pub existential : ℕ → List ℕ → Existential
existential y xs = record { variable = y; sees = xs }

-- p cnf 3 4 / a 1 0 / d 2 0 / d 3 0 / 2 3 0 / 1 2 -3 0 / -1 -2 3 0 / -1 -2 -3 0: 2 is to be the
-- negation of 1, which it doesn't see
abbrev pub blind_negation : Dqbf
blind_negation = record {
  variables = 3;
  universals = 1 ∷ [];
  existentials = existential 2 [] ∷ existential 3 [] ∷ [];
  matrix =
      (positive 2 ∷ positive 3 ∷ [])
      ∷ (positive 1 ∷ positive 2 ∷ negative 3 ∷ [])
      ∷ (negative 1 ∷ negative 2 ∷ positive 3 ∷ [])
      ∷ (negative 1 ∷ negative 2 ∷ negative 3 ∷ [])
      ∷ [];
}

-- candidates that are always 0 fail where 1 is 0, and the instances of that row are given: group 1,
-- and arbiters 2 and 3
abbrev pub tried_once : List Entry
tried_once =
    Given (Instance 1 2) (negative 1 ∷ positive 2 ∷ negative 3 ∷ [])
    ∷ Given (Instance 1 1) (negative 1 ∷ positive 2 ∷ positive 3 ∷ [])
    ∷ Named 3 (Pair 1 3)
    ∷ Named 2 (Pair 1 2)
    ∷ Round (false ∷ []) (false ∷ false ∷ []) 1
    ∷ Named 1 (Selector 1)
    ∷ []

-- so 2 has to be 1; that fails where 1 is 1, whose instances have the same arbiters, and together
-- they have no model
abbrev pub refuted : List Entry
refuted =
    Answer (negative 1 ∷ []) (3 ∷ 5 ∷ 6 ∷ [])
    ∷ Given (Instance 2 4) (negative 1 ∷ negative 2 ∷ negative 3 ∷ [])
    ∷ Given (Instance 2 3) (negative 1 ∷ negative 2 ∷ positive 3 ∷ [])
    ∷ Given (Instance 2 1) (negative 1 ∷ positive 2 ∷ positive 3 ∷ [])
    ∷ Round (true ∷ []) (true ∷ false ∷ []) 3
    ∷ Learned (negative 1 ∷ positive 2 ∷ []) (1 ∷ 2 ∷ [])
    ∷ tried_once

-- clause 3 is true where 1 is 0, so that it has no instance there
abbrev pub true_clause_given : List Entry
true_clause_given = Given (Instance 1 3) (negative 1 ∷ negative 2 ∷ positive 3 ∷ []) ∷ tried_once

-- clause 1 alone doesn't show that 2 is 1
abbrev pub hint_missing : List Entry
hint_missing = Learned (negative 1 ∷ positive 2 ∷ []) (1 ∷ []) ∷ tried_once

-- an instance over again
abbrev pub known_clause_learned : List Entry
known_clause_learned = Learned (negative 1 ∷ positive 2 ∷ positive 3 ∷ []) (1 ∷ []) ∷ tried_once

-- the first row over again, with values that its instances allow
abbrev pub row_tried_again : List Entry
row_tried_again = Round (false ∷ []) (true ∷ false ∷ []) 1 ∷ tried_once

-- where 2 and 3 are 0 clause 1 is false, but the instances of the first row forbid that
abbrev pub instances_ignored : List Entry
instances_ignored = Round (true ∷ []) (false ∷ false ∷ []) 1 ∷ tried_once

abbrev pub instance_given_twice : List Entry
instance_given_twice = Given (Instance 1 1) (negative 1 ∷ positive 2 ∷ positive 3 ∷ []) ∷ tried_once

-- p cnf 3 3 / a 1 2 0 / d 3 1 2 0 / -3 1 0 / -3 2 0 / 3 -1 -2 0: 3 is to be the conjunction of 1
-- and 2, which it sees
abbrev pub seen_conjunction : Dqbf
seen_conjunction = record {
  variables = 3;
  universals = 1 ∷ 2 ∷ [];
  existentials = existential 3 (1 ∷ 2 ∷ []) ∷ [];
  matrix =
      (negative 3 ∷ positive 1 ∷ [])
      ∷ (negative 3 ∷ positive 2 ∷ [])
      ∷ (positive 3 ∷ negative 1 ∷ negative 2 ∷ [])
      ∷ [];
}

-- a circuit: inputs 2 and 3 and their gate 4, whose clauses are group 1
abbrev pub gate_given : List Entry
gate_given =
    Given (Gate 4 3) (negative 1 ∷ positive 4 ∷ negative 2 ∷ negative 3 ∷ [])
    ∷ Given (Gate 4 2) (negative 1 ∷ negative 4 ∷ positive 3 ∷ [])
    ∷ Given (Gate 4 1) (negative 1 ∷ negative 4 ∷ positive 2 ∷ [])
    ∷ Named 4 (And (positive 2) (positive 3))
    ∷ Named 3 (Input 2)
    ∷ Named 2 (Input 1)
    ∷ Named 1 (Selector 1)
    ∷ []

-- where a clause is false under the gate, in group 5: 6, 7 and 8 say which
abbrev pub faults_given : List Entry
faults_given =
    Given (Fault 0 0 (Constant false)) (negative 5 ∷ positive 6 ∷ positive 7 ∷ positive 8 ∷ [])
    ∷ Given (Fault 3 3 (LeafLiteral (positive 3))) (negative 5 ∷ negative 8 ∷ positive 3 ∷ [])
    ∷ Given (Fault 3 2 (LeafLiteral (positive 2))) (negative 5 ∷ negative 8 ∷ positive 2 ∷ [])
    ∷ Given (Fault 3 1 (LeafLiteral (positive 4))) (negative 5 ∷ negative 8 ∷ negative 4 ∷ [])
    ∷ Given (Fault 2 2 (LeafLiteral (positive 3))) (negative 5 ∷ negative 7 ∷ negative 3 ∷ [])
    ∷ Given (Fault 2 1 (LeafLiteral (positive 4))) (negative 5 ∷ negative 7 ∷ positive 4 ∷ [])
    ∷ Given (Fault 1 2 (LeafLiteral (positive 2))) (negative 5 ∷ negative 6 ∷ negative 2 ∷ [])
    ∷ Given (Fault 1 1 (LeafLiteral (positive 4))) (negative 5 ∷ negative 6 ∷ positive 4 ∷ [])
    ∷ Named 8 (Bad 5 3)
    ∷ Named 7 (Bad 5 2)
    ∷ Named 6 (Bad 5 1)
    ∷ Named 5 (Selector 5)
    ∷ gate_given

-- clauses 1 and 2 are never false, and so clause 3 would be
abbrev pub shown : List Entry
shown =
    Answer (negative 1 ∷ negative 5 ∷ []) (12 ∷ 13 ∷ 11 ∷ 8 ∷ 9 ∷ 10 ∷ 3 ∷ [])
    ∷ Learned (negative 1 ∷ negative 5 ∷ negative 7 ∷ []) (6 ∷ 7 ∷ 2 ∷ [])
    ∷ Learned (negative 1 ∷ negative 5 ∷ negative 6 ∷ []) (4 ∷ 5 ∷ 1 ∷ [])
    ∷ faults_given

-- in one group, 3 is the gate and input 2
abbrev pub second_output : List Entry
second_output =
    Given (Fault 3 1 (LeafLiteral (positive 2))) (negative 5 ∷ negative 8 ∷ negative 2 ∷ [])
    ∷ faults_given

-- faults in a further group, before any candidates failed
abbrev pub second_turn_at_once : List Entry
second_turn_at_once =
    Given (Fault 1 1 (LeafLiteral (positive 4))) (negative 9 ∷ negative 10 ∷ positive 4 ∷ [])
    ∷ Named 10 (Bad 9 1)
    ∷ Named 9 (Selector 9)
    ∷ faults_given
