-- An instance that is given to a group.
use Rattle.std.specs.Prelude.{◌≡◌, ℕ, Bool, true, false, List, ◌∷◌}
use Rattle.std.specs.List.{list_any, filter_map}
use Rattle.dq_lits.specs.Literal.{Literal, negative}
use Rattle.dq_lits.specs.Formula.{Dqbf}
use Rattle.dq_lits.specs.Expansion.{universal_literal_true}
use Rattle.hint_log.specs.Entries.{Given, ProofLog, with_entry}
use Rattle.hint_log.specs.Naming.{AreNamedAs, on_arbiter}
use Rattle.hint_log.specs.declared.origins.Origin.TheVariants.{Instance}
use Rattle.log_laws.specs.Engines.{instances, part}

-- the clause's literals on existentials, on the variables of their pairs
pub record IsAddedInstance (f : Dqbf) (group : ℕ) (rows : List (List Bool)) (row : List Bool)
    (k j : ℕ) (clause : List Literal) (old new : ProofLog) : Type 0 where
  pub rest : List Literal
  pub added : new ≡ with_entry old (Given (Instance k j) (negative group ∷ rest))
  pub named : AreNamedAs (part instances old.entries) rest
      (filter_map (on_arbiter f rows row) clause)

-- the instance of clause j under row k, both counted from 1; nothing where a universal makes the
-- clause true there
pub record IsGivenInstance (f : Dqbf) (group : ℕ) (rows : List (List Bool)) (row : List Bool)
    (k j : ℕ) (clause : List Literal) (old new : ProofLog) : Type 0 where
  pub passed : list_any (universal_literal_true f row) clause ≡ true → new ≡ old
  pub given : list_any (universal_literal_true f row) clause ≡ false
      → IsAddedInstance f group rows row k j clause old new
