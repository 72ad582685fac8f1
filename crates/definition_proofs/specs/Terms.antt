-- How the gates over first copies stand in the log, and how it grows by proofs of definitions.
use Rattle.std.specs.Prelude.{◌≡◌, ◌⊎◌, ◌≤◌, ◌<◌, ℕ, ◌==◌, Bool, true, false, List, ◌∷◌, None, Some, IsSome}
use Rattle.std.specs.List.{Contains}
use Rattle.std.specs.BTreeMap.{get}
use Rattle.std.specs.declared.cmp.Ordering.{Ordering}
use Rattle.std.specs.Ordering.{nat_cmp, ordering_then}
use Rattle.dq_lits.specs.Literal.{Literal, positive, negative, literal_code}
use Rattle.dq_lits.specs.Formula.{Dqbf}
use Rattle.hint_log.specs.Entries.{Entry, Given, ProofLog, name_of}
use Rattle.hint_log.specs.Growth.{Grew}
use Rattle.hint_log.specs.Origins.{gate_rest}
use Rattle.hint_log.specs.declared.names.Name.TheVariants.{Term}
use Rattle.hint_log.specs.declared.origins.Origin.{Origin}
use Rattle.hint_log.specs.declared.origins.Origin.TheVariants.{TermGate, Differ}
use Rattle.log_laws.specs.Engines.{copies, IsAddedBy}
use Rattle.oracle.specs.Calls.{IsMade}
use Rattle.definability.specs.Copies.{group_variable}
use Rattle.definability.specs.Growing.{Gives, HasFewFaults}
use Rattle.definition_proofs.specs.declared.terms.Terms.{Terms}

abbrev pub by_both : ℕ × ℕ → ℕ × ℕ → Ordering
by_both p q = ordering_then (nat_cmp p.0 q.0) (nat_cmp p.1 q.1)

abbrev pub is_term_gate : Origin → Bool
is_term_gate (TermGate v i) = true
is_term_gate _ = false

abbrev pub is_gate_of : ℕ → Origin → Bool
is_gate_of x (TermGate v i) = v == x
is_gate_of x _ = false

-- all clauses of the gate stand in the group
abbrev pub HasTermClauses : List Entry → ℕ → ℕ → Literal → Literal → Type 0
HasTermClauses entries group v a b =
    (i : ℕ) (rest : List Literal) → gate_rest v a b i ≡ Some rest
    → Contains entries (Given (TermGate v i) (negative group ∷ rest))

-- no gate over first copies was named, and no clause of one was given
pub record HasNoTerms (entries : List Entry) : Type 0 where
  pub unnamed : (v : ℕ) (a b : Literal) → name_of entries v ≡ Some (Term a b) → ⊥
  pub ungiven : (v i : ℕ) (c : List Literal) → Contains entries (Given (TermGate v i) c) → ⊥

-- every gate over first copies is known by its sides, and has its clauses in the group, which has
-- no others
pub record AreTerms (terms : Terms) (entries : List Entry) : Type 0 where
  pub made : IsMade entries terms.group
  pub known : (v : ℕ) (a b : Literal) → name_of entries v ≡ Some (Term a b)
      → get by_both terms.literals (literal_code a, literal_code b) ≡ Some (positive v)
  pub sound : (a b l : Literal)
      → get by_both terms.literals (literal_code a, literal_code b) ≡ Some l
      → (v : ℕ) × (l ≡ positive v) × (name_of entries v ≡ Some (Term a b))
  pub clauses : (v : ℕ) (a b : Literal) → name_of entries v ≡ Some (Term a b)
      → HasTermClauses entries (group_variable terms.group) v a b
  pub origins : (v i : ℕ) (c : List Literal) → Contains entries (Given (TermGate v i) c)
      → IsSome (name_of entries v)
  pub own : (origin : Origin) (rest : List Literal)
      → Contains entries (Given origin (negative (group_variable terms.group) ∷ rest))
      → is_term_gate origin ≡ true

-- what a proof of a definition gives: clauses of gates, and those by which this existential differs
-- from an output
abbrev pub is_proof_origin : ℕ → Origin → Bool
is_proof_origin y (TermGate v i) = true
is_proof_origin y (Differ x out part) = x == y
is_proof_origin y _ = false

-- how the log grows by a proof of a definition of this existential, with this standing group,
-- wherever one begins to look
pub record GrewByProof (f : Dqbf) (group y : ℕ) (old new : ProofLog) : Type 0 where
  pub grew : (start : List Entry)
      → ((v : ℕ) → name_of old.entries v ≡ None → name_of start v ≡ None)
      → Grew (IsAddedBy f copies group true start) old new
  pub givens : (origin : Origin) (c : List Literal) → Contains new.entries (Given origin c)
      → Contains old.entries (Given origin c) ⊎ (is_proof_origin y origin ≡ true)

-- the first clauses of a gate were given to a group, and the others weren't
pub record AreParts (f : Dqbf) (group v : ℕ) (a b : Literal) (parts : ℕ)
    (old new : ProofLog) : Type 0 where
  pub gives : Gives f (is_gate_of v) group old new
  pub few : HasFewFaults new.entries
  pub later : (i : ℕ) (c : List Literal) → parts < i
      → Contains new.entries (Given (TermGate v i) c) → ⊥
  pub given : (i : ℕ) (rest : List Literal) → i ≤ parts → gate_rest v a b i ≡ Some rest
      → Contains new.entries (Given (TermGate v i) (negative group ∷ rest))
