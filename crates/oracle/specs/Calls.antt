-- What the calls of a shared solver ask for, and what its answers say.
use Rattle.std.specs.Prelude.{◌≡◌, ℕ, true, false, List, ◌++◌, map, Some, IsSome}
use Rattle.std.specs.List.{All}
use Rattle.dq_lits.specs.Literal.{Assignment, Literal, variable_of, is_negative, opposite, literal_true}
use Rattle.dq_lits.specs.Derivation.{LiveClauses, MakesTrue, holds}
use Rattle.hint_log.specs.Entries.{Entry, Learned, Answer, ProofLog, with_entry, name_of, last_id}
use Rattle.hint_log.specs.declared.names.Name.TheVariants.{Selector}
use Rattle.hint_log.specs.Growth.{Grew}
use Rattle.hint_log.specs.Naming.{is_selector}
use Rattle.oracle.specs.declared.groups.Group.{Group}

-- the group was made with this log: its selector, positive, is named so
pub record IsMade (entries : List Entry) (g : Group) : Type 0 where
  pub positive : is_negative g.selector ≡ false
  pub named : name_of entries (variable_of g.selector) ≡ Some (Selector (variable_of g.selector))

-- the literal stands on a variable that has a name and is no selector
pub record IsPlain (entries : List Entry) (l : Literal) : Type 0 where
  pub named : IsSome (name_of entries (variable_of l))
  pub no_selector : is_selector entries (variable_of l) ≡ false

-- what has to be true: the selectors of the active groups, and the assumptions
abbrev pub assumed : List Group → List Literal → List Literal
assumed active assume = map (λ g. g.selector) active ++ assume

-- a learned clause, whatever it is
abbrev pub IsLearnedEntry : List Entry → Entry → Type 0
IsLearnedEntry earlier (Learned _ _) = Unit {0}
IsLearnedEntry earlier _ = ⊥

-- the values make every clause true, of whatever group, and all that was assumed
pub record IsModelUnder (values : Assignment) (live : LiveClauses)
    (assumptions : List Literal) : Type 0 where
  pub clauses : MakesTrue values live
  pub assumptions_true : All (λ l. literal_true values l ≡ true) assumptions

-- clauses were learned, and then an answer was added whose clause has negated assumptions alone
pub record IsRefutedUnder (old new : ProofLog) (assumptions : List Literal) (id : ℕ) : Type 0 where
  pub clause : List Literal
  pub hints : List ℕ
  pub before : ProofLog
  pub learned : Grew IsLearnedEntry old before
  pub answered : new ≡ with_entry before (Answer clause hints)
  pub last : id ≡ last_id new.entries
  pub negated : (l : Literal) → holds clause l ≡ true → holds assumptions (opposite l) ≡ true
