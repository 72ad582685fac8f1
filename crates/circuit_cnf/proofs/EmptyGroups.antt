-- A group that has no clause yet.
use Rattle.std.proofs.Common.{◌≡◌, ℕ, zero, suc, ◌<◌, List, [], ◌∷◌, length, None, refl, subst, arith}
use Rattle.std.specs.List.{Contains}
use Rattle.dq_lits.specs.Literal.{Literal, negative}
use Rattle.hint_log.specs.Entries.{Entry, Named, Given, name_of}
use Rattle.hint_log.specs.declared.names.Name.{Name}
use Rattle.hint_log.specs.declared.origins.Origin.{Origin}
use Rattle.hint_log.specs.Growth.{Each}
use Rattle.log_laws.specs.Engines.{IsInGroup}
use Rattle.log_laws.proofs.Found.{each_weaker}
use Rattle.oracle.specs.Searched.{IsGivenToGroup}
use Rattle.circuit_cnf.specs.Gates.{IsGateGiven}

abbrev pub IsUnused : ℕ → List Entry → Entry → Type 0
IsUnused group earlier (Given origin clause) = IsInGroup group clause → ⊥
IsUnused group earlier _ = Unit {0}

unnamed_before : (es : List Entry) (group w : ℕ) (n : Name) → name_of (Named w n ∷ es) group ≡ None →
    name_of es group ≡ None
unnamed_before es group w n = search arith

pub group_is_unused : (group : ℕ) (es : List Entry) → name_of es group ≡ None → Each IsGivenToGroup es →
    Each (IsUnused group) es
group_is_unused group [] unnamed grouped = tt
group_is_unused group (Named w n ∷ es) unnamed grouped = search (arith, (group_is_unused group es), unnamed_before)
group_is_unused group (Given origin c ∷ es) unnamed grouped =
    search (arith, (group_is_unused group es unnamed grouped.1))
group_is_unused group (_ ∷ es) unnamed grouped = (tt, group_is_unused group es unnamed grouped.1)

pub not_given_there : (group : ℕ) (es : List Entry) → Each (IsUnused group) es →
    (origin : Origin) (rest : List Literal) → Contains es (Given origin (negative group ∷ rest)) → ⊥
not_given_there group [] unused origin rest (k, below, is) = absurd (omega arith)
not_given_there group (e ∷ es) unused origin rest (zero, below, is) = subst (IsUnused group es) is unused.0 (rest, refl)
not_given_there group (e ∷ es) unused origin rest (suc k, below, is) =
    not_given_there group es unused.1 origin rest (k, (let b : k < length es = omega arith in b), is)

no_gate_given : (group : ℕ) (earlier : List Entry) (e : Entry) → IsUnused group earlier e → IsGateGiven group earlier e
no_gate_given group earlier (Given origin c) h = λ inside. absurd (h inside)
no_gate_given group earlier _ h = tt

pub no_gates_given : (group : ℕ) (es : List Entry) → name_of es group ≡ None → Each IsGivenToGroup es →
    Each (IsGateGiven group) es
no_gates_given group es unnamed grouped = each_weaker (IsUnused group) (IsGateGiven group) (no_gate_given group) es
    (group_is_unused group es unnamed grouped)
