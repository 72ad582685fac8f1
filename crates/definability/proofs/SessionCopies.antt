-- The active copies stay as other calls add to the log of a session, and as searches begin.
use Rattle.std.proofs.Common.{◌≡◌, ◌≢◌, ℕ, Bool, inl, inr, List, get_or, Some, None, sym, ◌∙◌, ap, subst}
use Rattle.std.specs.List.{All, Contains}
use Rattle.std.proofs.lemmas.List.{get_or_default}
use Rattle.std.proofs.lemmas.List.Elements.{Contains-append_right}
use Rattle.dq_lits.specs.Literal.{Literal}
use Rattle.dq_lits.specs.Formula.{Dqbf}
use Rattle.hint_log.specs.Entries.{Entry, Given, ProofLog, name_of}
use Rattle.hint_log.specs.Growth.{Grew}
use Rattle.hint_log.specs.declared.origins.Origin.{Origin}
use Rattle.log_laws.specs.Engines.{Engine, IsInGroup}
use Rattle.log_laws.specs.Sessions.{IsAddedLive, EnginesLeaveSessions}
use Rattle.log_laws.proofs.LargerLogs.{each_grown}
use Rattle.definability.specs.Copies.{IsGroupGiven, IsSideGiven, groups_of}
use Rattle.definability.specs.Leaving.{SessionsLeaveCopies}
use Rattle.definability.proofs.KeptCopies.{IsNamed, Keeps, definability_stays, groups_named}
use Rattle.log_laws.proofs.Kept.{in_one_group}

module _ (f any : Dqbf) (engine : Engine) (groups : List ℕ) (silent : Bool) (old : List Entry) where
  abbrev IsApart : ℕ → Type 0
  IsApart mine = ((h : ℕ) → Contains groups h → mine ≢ h) × IsNamed old mine

  not_given : (mine : ℕ) → IsApart mine → (earlier : List Entry) (origin : Origin) (c : List Literal) →
      IsAddedLive any engine groups silent old earlier (Given origin c) → IsInGroup mine c → ⊥
  not_given mine apart earlier origin c h inside =
      let g = h.in_group.0 in
      let same = in_one_group mine g c inside h.in_group.1 in
      elim h.in_group.2 [
        | inl standing ↦ apart.0 g standing same
        | inr unnamed ↦ (let none : name_of old mine ≡ None = ap (name_of old) same ∙ unnamed in
            let named = apart.1.1 in cc)
      ]

  other_group : (test : Origin → Bool) (mine : ℕ) → IsApart mine → (earlier : List Entry) (e : Entry) →
      IsAddedLive any engine groups silent old earlier e → IsGroupGiven f test mine earlier e
  other_group test mine apart earlier (Given origin c) h = λ inside.
      absurd (not_given mine apart earlier origin c h inside)
  other_group test mine apart earlier _ h = tt

  other_side : (side mine : ℕ) → IsApart mine → (earlier : List Entry) (e : Entry) →
      IsAddedLive any engine groups silent old earlier e → IsSideGiven f side mine earlier e
  other_side side mine apart earlier (Given origin c) h = λ inside.
      absurd (not_given mine apart earlier origin c h inside)
  other_side side mine apart earlier _ h = tt

keeps_by_session : EnginesLeaveSessions → (f any : Dqbf) (engine : Engine) (groups : List ℕ) (silent : Bool) (old new : ProofLog) →
    Grew (IsAddedLive any engine groups silent old.entries) old new →
    Keeps f (IsApart f any engine groups silent old.entries) old.entries new.entries
keeps_by_session laws f any engine groups silent old new grew =
    let left = laws any engine groups silent old new grew in
    let Q : List Entry → Entry → Type 0 = IsAddedLive any engine groups silent old.entries in
    subst (Keeps f (IsApart f any engine groups silent old.entries) old.entries) (sym grew.grown) (record {
      names = λ v n is. subst (λ es. name_of es v ≡ Some n) grew.grown (left.names v n is);
      contains = λ e. Contains-append_right grew.more old.entries e;
      groups = λ test mine apart.
          each_grown Q (IsGroupGiven f test mine)
          (other_group f any engine groups silent old.entries test mine apart) grew.more old.entries grew.each;
      sides = λ side mine apart.
          each_grown Q (IsSideGiven f side mine)
          (other_side f any engine groups silent old.entries side mine apart) grew.more old.entries grew.each;
    })

all_apart : (f any : Dqbf) (engine : Engine) (groups : List ℕ) (silent : Bool) (old : List Entry) (mine : List ℕ) →
    ((g h : ℕ) → Contains mine g → Contains groups h → g ≢ h) → All (IsNamed old) mine →
    All (IsApart f any engine groups silent old) mine
all_apart f any engine groups silent old mine apart named i d below = (
  (λ h among. apart (get_or mine i d) h (i, below, get_or_default mine i (get_or mine i d) d below) among),
  named i d below,
)

pub copies_left : EnginesLeaveSessions → SessionsLeaveCopies
copies_left laws f any p engine groups silent old new grew apart definability =
    definability_stays f (IsApart f any engine groups silent old.entries) old.entries new.entries
    (keeps_by_session laws f any engine groups silent old new grew) p
    (all_apart f any engine groups silent old.entries (groups_of p) apart (groups_named f p old.entries definability)) definability
