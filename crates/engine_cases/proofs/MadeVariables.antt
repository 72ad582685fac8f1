-- Which variables were made, as the log grows.
use Rattle.std.proofs.Common.{◌≡◌, ℕ, ◌+◌, List, ◌∷◌, IsSome, is_some, refl, sym, ◌∙◌, ap, subst, arith}
use Rattle.std.specs.List.{All}
use Rattle.std.proofs.lemmas.List.Elements.{All-weaker}
use Rattle.dq_lits.specs.Literal.{Literal, variable_of}
use Rattle.hint_log.specs.Entries.{Entry}
use Rattle.hint_log.specs.Entries.{Answer}
use Rattle.hint_log.specs.Conditions.{IsId}
use Rattle.hint_log.specs.Entries.{ProofLog, name_of, last_id}
use Rattle.hint_log.specs.Naming.{is_selector_name}
use Rattle.oracle.specs.declared.groups.Group.{Group}
use Rattle.oracle.specs.Calls.{IsMade, IsPlain, IsRefutedUnder}
use Rattle.oracle.specs.declared.oracles.Answer.{Answer as SearchAnswer}
use Rattle.oracle.specs.declared.oracles.Answer.TheVariants.{Sat, Unsat}
use Rattle.learning_trail.specs.Growing.{HasLearned}
use Rattle.learning_trail.proofs.SearchTurns.{names_same}
use Rattle.engine_cases.specs.declared.calls.Made.{Made}
use Rattle.engine_cases.specs.Making.{AreMade}

same_names : (m : Made) (old new : List Entry) → ((v : ℕ) → name_of new v ≡ name_of old v) → AreMade m old →
    AreMade m new
same_names m old new same made = record {
  named = All-weaker (λ v. IsSome (name_of old v)) (λ v. IsSome (name_of new v))
      (λ v h. ap is_some (same v) ∙ h) m.variables.items made.named;
  low = λ v some. made.low v (sym (ap is_some (same v)) ∙ some);
  inputs = λ v k is. made.inputs v k (sym (same v) ∙ is);
}

pub made_learned : (m : Made) (old new : ProofLog) → HasLearned old new → AreMade m old.entries → AreMade m new.entries
made_learned m old new learned made = same_names m old.entries new.entries (names_same old new learned) made

made_refuted : (m : Made) (old new : ProofLog) (assumptions : List Literal) (id : ℕ) →
    IsRefutedUnder old new assumptions id → AreMade m old.entries → AreMade m new.entries
made_refuted m old new assumptions id refuted made =
    subst (λ (l : ProofLog). AreMade m l.entries) (sym refuted.answered)
    (same_names m old.entries (Answer refuted.clause refuted.hints ∷ refuted.before.entries)
    (λ v. names_same old refuted.before refuted.learned v) made)

pub refuted_id : (old new : ProofLog) (assumptions : List Literal) (id : ℕ) → IsRefutedUnder old new assumptions id →
    IsId new.entries id
refuted_id old new assumptions id refuted =
    let last = refuted.last in
    let count : last_id new.entries ≡ last_id refuted.before.entries + 1 =
    ap (λ (l : ProofLog). last_id l.entries) refuted.answered in
    record { from_one = omega (arith, last, count); last = omega (arith, last) }

-- whatever a search answered
pub made_answered : (m : Made) (old new : ProofLog) (assumptions : List Literal) (answer : SearchAnswer) →
    AreMade m old.entries
    → (answer ≡ Sat → HasLearned old new) → ((id : ℕ) → answer ≡ Unsat id → IsRefutedUnder old new assumptions id) →
    AreMade m new.entries
made_answered m old new assumptions Sat made sat unsat = made_learned m old new (sat refl) made
made_answered m old new assumptions (Unsat id) made sat unsat =
    made_refuted m old new assumptions id (unsat id refl) made

-- groups and plain literals stay what they are where a search stopped
pub groups_stay : (old new : ProofLog) (groups : List Group) → HasLearned old new → All (IsMade old.entries) groups →
    All (IsMade new.entries) groups
groups_stay old new groups learned made = All-weaker (IsMade old.entries) (IsMade new.entries)
    (λ g h. record { positive = h.positive; named = names_same old new learned (variable_of g.selector) ∙ h.named })
    groups made

pub plain_stays : (old new : ProofLog) (lits : List Literal) → HasLearned old new → All (IsPlain old.entries) lits →
    All (IsPlain new.entries) lits
plain_stays old new lits learned plain = All-weaker (IsPlain old.entries) (IsPlain new.entries)
    (λ l h. record {
      named = ap is_some (names_same old new learned (variable_of l)) ∙ h.named;
      no_selector = ap is_selector_name (names_same old new learned (variable_of l)) ∙ h.no_selector;
    })
    lits plain
