-- A database's groups behind a search: those that there were, and some that were made.
use Rattle.std.proofs.Common.{◌≡◌, ℕ, zero, suc, ◌⊎◌, inl, inr, None, Some, sym, ◌∙◌, ap, subst, arith, slice_get}
use Rattle.std.specs.List.{Contains}
use Rattle.hint_log.specs.Entries.{ProofLog, name_of}
use Rattle.oracle.specs.declared.groups.Group.{Group}
use Rattle.dq_session.specs.Databases.{DatabaseState, HasGroup, number_of}
use Rattle.dq_session.specs.Changes.{groups_of}
use Rattle.dq_session.specs.Giving.{IsGiving}
use Rattle.dq_session.proofs.PreservedDatabases.{has_number}
use Rattle.dq_session.proofs.DatabasesGiving.{group_in}

pub groups_fresh : (b : DatabaseState) (old : ProofLog) (c : DatabaseState) (new : ProofLog) → IsGiving b old c new → (n : ℕ) →
    Contains (groups_of c) n → Contains (groups_of b) n ⊎ (name_of old.entries n ≡ None)
groups_fresh b old c new giving n (zero, below, is) = search arith
groups_fresh b old c new giving n (suc k, below, is) = by (giving.new_groups r.0 r.1 r.2)
  where
    r : (frame : ℕ) × (g : Group) × (slice_get c.groups frame ≡ Some (Some g)) × (number_of g ≡ n)
    r = group_in c.groups n (k, omega (arith, below), is)

    by : HasGroup b r.0 r.1 ⊎ (name_of old.entries (number_of r.1) ≡ None) →
        Contains (groups_of b) n ⊎ (name_of old.entries n ≡ None)
    by (inl before) = inl (subst (Contains (groups_of b)) r.3 (has_number b r.0 r.1 before))
    by (inr none) = inr (ap (name_of old.entries) (sym r.3) ∙ none)
