-- How the log grows in a turn: a group, its clauses, what was learned, and an answer.
use Rattle.std.proofs.Common.{◌≡◌, ℕ, ◌≤◌, Bool, true, false, true≢false, cond, inl, inr, ◌⊎◌, List, [], ◌∷◌, ◌++◌, length, None, refl, sym, ◌∙◌, ap, subst, arith}
use Rattle.std.specs.List.{list_any}
use Rattle.dq_lits.specs.Literal.{Literal, negative, same_literal}
use Rattle.dq_lits.specs.Formula.{Dqbf}
use Rattle.hint_log.specs.Entries.{Entry, Named, Given, Learned, Answer, ProofLog, with_entry, name_of}
use Rattle.hint_log.specs.declared.names.Name.TheVariants.{Selector}
use Rattle.hint_log.specs.declared.origins.Leaf.TheVariants.{Constant}
use Rattle.hint_log.specs.Growth.{EachOf, Grew}
use Rattle.hint_log.specs.ProductiveLog.{fault_groups, fault_room}
use Rattle.log_laws.specs.Engines.{Engine, IsAddedBy, IsNamedBy}
use Rattle.log_laws.proofs.LargerLogs.{grown_by}
use Rattle.log_laws.proofs.Kept.{NamesStay, each_of_weaker, unnamed_earlier}
use Rattle.oracle.specs.Calls.{IsLearnedEntry, IsRefutedUnder}
use Rattle.circuit_cnf.specs.Faults.{AreFewWith}

module _ (f : Dqbf) (engine : Engine) (group : ℕ) (silent : Bool) (start : List Entry) where
  quieter : (earlier : List Entry) (e : Entry) → IsAddedBy f engine group true start earlier e →
      IsAddedBy f engine group silent start earlier e
  quieter earlier (Answer c hints) h = λ quiet. h refl
  quieter earlier _ h = h

  learned_is_added : (earlier : List Entry) (e : Entry) → IsLearnedEntry earlier e →
      IsAddedBy f engine group silent start earlier e
  learned_is_added earlier (Learned c hints) h = tt
  learned_is_added earlier _ h = absurd h

  -- a silent growth is one that may decide
  pub any_silence : (old new : ProofLog) → Grew (IsAddedBy f engine group true start) old new →
      Grew (IsAddedBy f engine group silent start) old new
  any_silence old new g = search (arith, each_of_weaker, quieter)

  pub learned_grew : (old new : ProofLog) → Grew IsLearnedEntry old new →
      Grew (IsAddedBy f engine group silent start) old new
  learned_grew old new g = search (arith, each_of_weaker, learned_is_added)

  pub answered_grew : silent ≡ false → (assumptions : List Literal) (old new : ProofLog) (id : ℕ) →
      IsRefutedUnder old new assumptions id → Grew (IsAddedBy f engine group silent start) old new
  answered_grew loud assumptions old new id r =
      let g = learned_grew old r.before r.learned in
      record {
        more = Answer r.clause r.hints ∷ g.more;
        grown = ap (λ (l : ProofLog). l.entries) r.answered ∙ ap (λ es. Answer r.clause r.hints ∷ es) g.grown;
        each = (λ quiet. absurd (true≢false (sym quiet ∙ loud)), g.each);
        limit = ap (λ (l : ProofLog). l.limit) r.answered ∙ g.limit;
      }

  pub group_grew : (sel : ℕ) (old new : ProofLog) → name_of old.entries sel ≡ None →
      new ≡ with_entry old (Named sel (Selector sel)) → Grew (IsAddedBy f engine group silent start) old new
  group_grew sel old new unnamed is =
      let named : IsNamedBy f engine old.entries sel (Selector sel) =
      record { unnamed = unnamed; own = inl refl; rightly = tt } in
      grown_by (IsAddedBy f engine group silent start) old new (Named sel (Selector sel)) is named

-- what goes into a group made since a later log goes into one made since an earlier log
module _ (f : Dqbf) (engine : Engine) (group : ℕ) (silent : Bool) (first start : List Entry)
    (stay : NamesStay first start) where
  new_before : (g : ℕ) → (g ≡ group) ⊎ (name_of start g ≡ None) → (g ≡ group) ⊎ (name_of first g ≡ None)
  new_before g (inl is) = inl is
  new_before g (inr unnamed) = inr (unnamed_earlier first start stay g unnamed)

  earlier_start : (earlier : List Entry) (e : Entry) → IsAddedBy f engine group silent start earlier e →
      IsAddedBy f engine group silent first earlier e
  earlier_start earlier (Given origin c) h = search (arith, new_before)
  earlier_start earlier _ h = h

  pub grew_since : (old new : ProofLog) → Grew (IsAddedBy f engine group silent start) old new →
      Grew (IsAddedBy f engine group silent first) old new
  grew_since old new g = search (arith, each_of_weaker, earlier_start)

-- what goes into a group that was made since goes beside another standing group
module _ (f : Dqbf) (engine : Engine) (group standing : ℕ) (silent : Bool) (start : List Entry)
    (new : (group ≡ standing) ⊎ (name_of start group ≡ None)) where
  beside : (g : ℕ) → (g ≡ group) ⊎ (name_of start g ≡ None) → (g ≡ standing) ⊎ (name_of start g ≡ None)
  beside g (inl is) = subst (λ n. (n ≡ standing) ⊎ (name_of start n ≡ None)) (sym is) new
  beside g (inr unnamed) = inr unnamed

  other_entry : (earlier : List Entry) (e : Entry) → IsAddedBy f engine group silent start earlier e →
      IsAddedBy f engine standing silent start earlier e
  other_entry earlier (Given origin c) h = search (arith, beside)
  other_entry earlier _ h = h

  pub other_standing : (old log : ProofLog) → Grew (IsAddedBy f engine group silent start) old log →
      Grew (IsAddedBy f engine standing silent start) old log
  other_standing old log g = search (arith, each_of_weaker, other_entry)

-- faults stay as they were
pub learned_faults : (more old : List Entry) → EachOf IsLearnedEntry more old →
    (fault_groups (more ++ old) ≡ fault_groups old) × (fault_room (more ++ old) ≡ fault_room old)
learned_faults [] old h = (refl, refl)
learned_faults (Learned c hints ∷ more) old h = learned_faults more old h.1
learned_faults (_ ∷ more) old h = absurd h.0

abbrev pub AreFewFaults : List Entry → Type 0
AreFewFaults entries = length (fault_groups entries) ≤ fault_room entries

pub few_learned : (old new : ProofLog) → Grew IsLearnedEntry old new → AreFewFaults old.entries →
    AreFewFaults new.entries
few_learned old new g few = search (arith, learned_faults)

pub few_answered : (assumptions : List Literal) (old new : ProofLog) (id : ℕ) → IsRefutedUnder old new assumptions id →
    AreFewFaults old.entries → AreFewFaults new.entries
few_answered assumptions old new id r few = search (arith, (few_learned old r.before r.learned few))

pub few_without : (group : ℕ) (es : List Entry) → AreFewWith group es → AreFewFaults es
few_without group es few = by (list_any (λ g. same_literal (negative g) (negative group)) (fault_groups es))
    (few 0 0 (Constant false) []) where
      by : (b : Bool) → length (cond b (fault_groups es) (group ∷ fault_groups es)) ≤ fault_room es →
          length (fault_groups es) ≤ fault_room es
      by true h = h
      by false h = omega (arith, h)
