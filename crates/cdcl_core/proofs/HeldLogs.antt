-- What a solver holds of its log, where a variable gets a name, and where groups are put to rest or wake.
use Rattle.std.proofs.Common.{◌≡◌, ℕ, ◌+◌, ◌-◌, ◌≤◌, Bool, true, ◌&&◌, List, [], ◌∷◌, None, is_some, All, refl, sym, ◌∙◌, ap, arith, length-append}
use Rattle.std.specs.List.{list_any}
use Rattle.std.proofs.lemmas.Bool.{cases_eq, false≢true, false_from_ne_true, ne_eqb, or_parts, and_parts}
use Rattle.dq_lits.specs.Literal.{Literal, positive, variable_of, is_negative}
use Rattle.dq_lits.specs.Derivation.{holds}
use Rattle.dq_lits.proofs.HeldLiterals.{any_gives, held_of_all, holds_cases}
use Rattle.hint_log.specs.declared.names.Name.{Name}
use Rattle.hint_log.specs.Entries.{Entry, Named, name_of}
use Rattle.hint_log.specs.Naming.{is_selector_name}
use Rattle.oracle.specs.declared.groups.Group.{Group}
use Rattle.oracle.specs.Fit.{Fit}
use Rattle.oracle.specs.Calls.{IsPlain, assumed}
use Rattle.learning_trail.specs.Resting.{rests, IsPlaceholder, IsPut, HeldFit, AreAwake}
use Rattle.learning_trail.proofs.Lessons.{live_more}
use Rattle.cdcl_core.specs.Waking.{AreSelectors, AreActiveAwake, HoldsPut, IsPutAs}

pub held_named : (held : List (List Literal)) (resting : List Bool) (variables v : ℕ) (es : List Entry) (name : Name)
    (fit : HeldFit held resting variables es) → Fit fit.whole v (Named v name ∷ es) → name_of es v ≡ None →
    HeldFit held resting v (Named v name ∷ es)
held_named held resting variables v es name fit longer unnamed = search (arith, cases_eq, false≢true, is_some, ne_eqb)

pub more_put : (resting : List Bool) (es : List Entry) (old new : List (List Literal)) (id : ℕ) →
    HoldsPut resting es old (id - 1) → 1 ≤ id → IsPutAs resting es id old new → HoldsPut resting es new (id + 1 - 1)
more_put resting es old new id before from one = search (arith, length-append, live_more)

-- a clause with the negated selector of a group that rests
pub put_aside : (resting : List Bool) (clause put : List Literal) →
    list_any (λ l. is_negative l && rests resting (variable_of l)) clause ≡ true → IsPlaceholder resting put →
    IsPut resting clause put
put_aside resting clause put some placeholder = search (arith, any_gives, and_parts, false≢true)

pub all_awake : (active : List Group) → AreActiveAwake [] active
all_awake [] = refl
all_awake (g ∷ active) = all_awake active

-- the assumptions of a search whose groups are awake
pub assumed_awake : (es : List Entry) (resting : List Bool) (active : List Group) (assume : List Literal) →
    AreSelectors es resting → AreActiveAwake resting active → All (IsPlain es) assume →
    AreAwake resting (assumed active assume)
assumed_awake es resting [] assume selectors awake plain v on =
    false_from_ne_true (holds assume (positive v)) (λ h.
    let p = held_of_all (IsPlain es) assume plain (positive v) h in
    false≢true (sym p.no_selector ∙ ap is_selector_name (selectors v on)))
assumed_awake es resting (g ∷ active) assume selectors awake plain v on =
    search (
      arith,
      false_from_ne_true,
      or_parts,
      holds_cases,
      false≢true,
      (assumed_awake es resting active assume selectors),
    )
