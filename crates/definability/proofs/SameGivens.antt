-- Searches name nothing, and give nothing.
use Rattle.std.proofs.Common.{ℕ, inl, inr, List, [], ◌∷◌, ◌++◌, refl, sym, subst, arith}
use Rattle.list_laws.proofs.Members.{contains_later, contains_cases}
use Rattle.dq_lits.specs.Literal.{Literal}
use Rattle.hint_log.specs.Entries.{Entry, Given, Learned, Answer, ProofLog}
use Rattle.hint_log.specs.Growth.{EachOf, Grew}
use Rattle.oracle.specs.Calls.{IsLearnedEntry, IsRefutedUnder}
use Rattle.definability.specs.Growing.{HasSameGivens}

pub same_then : (a b c : List Entry) → HasSameGivens a b → HasSameGivens b c → HasSameGivens a c
same_then a b c first second = search arith

same_nothing : (es : List Entry) → HasSameGivens es es
same_nothing es = record { names = λ v. refl; entries = λ e inside. inside; givens = λ o c inside. inside }

same_learned : (clause : List Literal) (hints : List ℕ) (es : List Entry) → HasSameGivens es (Learned clause hints ∷ es)
same_learned clause hints es = record {
  names = λ v. refl;
  entries = λ e inside. contains_later (Learned clause hints) e es inside;
  givens = λ o c inside. elim (contains_cases (Learned clause hints) (Given o c) es inside)
      [ inl same ↦ cc | inr behind ↦ behind ];
}

pub same_answer : (clause : List Literal) (hints : List ℕ) (es : List Entry) → HasSameGivens es (Answer clause hints ∷ es)
same_answer clause hints es = record {
  names = λ v. refl;
  entries = λ e inside. contains_later (Answer clause hints) e es inside;
  givens = λ o c inside. elim (contains_cases (Answer clause hints) (Given o c) es inside)
      [ inl same ↦ cc | inr behind ↦ behind ];
}

same_more : (more old : List Entry) → EachOf IsLearnedEntry more old → HasSameGivens old (more ++ old)
same_more [] old each = same_nothing old
same_more (Learned c hints ∷ more) old each = search (arith, same_then, (same_more more old each.1), same_learned)
same_more (_ ∷ more) old each = absurd each.0

pub learned_same : (old new : ProofLog) → Grew IsLearnedEntry old new → HasSameGivens old.entries new.entries
learned_same old new g = subst (HasSameGivens old.entries) (sym g.grown) (same_more g.more old.entries g.each)

pub refuted_same : (assumptions : List Literal) (old new : ProofLog) (id : ℕ) → IsRefutedUnder old new assumptions id →
    HasSameGivens old.entries new.entries
refuted_same assumptions old new id r =
    search (
      arith,
      (same_then old.entries r.before.entries),
      (learned_same old r.before r.learned),
      (same_answer r.clause r.hints r.before.entries),
    )
