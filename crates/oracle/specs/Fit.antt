-- What a solver holds, against the log: the log's clauses under their ids, and the variables that
-- it names.
use Rattle.std.specs.Prelude.{◌≡◌, ℕ, zero, suc, ◌≤◌, true, List, length, Some, None, IsSome, slice_get, Contains}
use Rattle.dq_lits.specs.Literal.{Literal, variable_of}
use Rattle.dq_lits.specs.Derivation.{LiveClauses, holds}
use Rattle.hint_log.specs.Entries.{Entry, Learned, Answer, clause_at, name_of, last_id}
use Rattle.hint_log.specs.declared.names.Name.TheVariants.{Selector}
use Rattle.hint_log.specs.Conditions.{AreLogged}
use Rattle.hint_log.specs.Deciding.{KeepsSelectors}
use Rattle.hint_log.specs.Growth.{Each}
use Rattle.hint_log.specs.Naming.{is_selector}
use Rattle.hint_log.specs.ProductiveLog.{IsDerivedByHints, IsNewLemma}
use Rattle.oracle.specs.Searched.{IsGivenToGroup, NegatesSelectors}

-- clauses in order of time, by their ids
abbrev pub live_in : List (List Literal) → LiveClauses
live_in clauses zero = None
live_in clauses (suc i) = slice_get clauses i

-- the clause holds every literal on a selector of every clause that it hints
abbrev pub HoldsHintedSelectors : List Entry → List Literal → List ℕ → Type 0
HoldsHintedSelectors earlier clause hints =
    (hint : ℕ) → Contains hints hint → (hinted : List Literal)
    → clause_at earlier hint ≡ Some hinted
    → (l : Literal) → holds hinted l ≡ true → is_selector earlier (variable_of l) ≡ true
    → holds clause l ≡ true

abbrev pub KeepsHintedSelectors : List Entry → Entry → Type 0
KeepsHintedSelectors earlier (Learned clause hints) = HoldsHintedSelectors earlier clause hints
KeepsHintedSelectors earlier (Answer clause hints) = HoldsHintedSelectors earlier clause hints
KeepsHintedSelectors earlier _ = Unit {0}

-- a solver with these clauses, in order of time, and so many variables goes with the log
pub record Fit (held : List (List Literal)) (variables : ℕ) (entries : List Entry) : Type 0 where
  pub count : length held ≡ last_id entries
  pub same : (id : ℕ) → live_in held id ≡ clause_at entries id
  pub in_range : (v : ℕ) → IsSome (name_of entries v) → (1 ≤ v) × (v ≤ variables)
  pub all_named : (v : ℕ) → 1 ≤ v → v ≤ variables → IsSome (name_of entries v)
  pub logged : AreLogged entries
  pub selectors : (v g : ℕ) → name_of entries v ≡ Some (Selector g) → g ≡ v
  pub grouped : Each IsGivenToGroup entries
  pub negated : NegatesSelectors entries
  pub derived : Each IsDerivedByHints entries
  pub new : Each IsNewLemma entries
  pub hinted : Each KeepsHintedSelectors entries
  pub kept : KeepsSelectors entries
