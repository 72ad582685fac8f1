-- From what a search answers to what is written of it.
use Rattle.std.proofs.Common.{◌≡◌, ◌+◌, ◌≤◌, ◌<◌, ℕ, zero, suc, List, [], ◌∷◌, ◌++◌, take, length, map, get_or, Some, refl, sym, ◌∙◌, ap, subst, arith}
use Rattle.std.specs.Option.{unwrap_or}
use Rattle.std.proofs.lemmas.List.{length-map, take_more}
use Rattle.dq_lits.specs.Formula.{Dqbf}
use Rattle.aig_graph.specs.Graph.{AigGraph}
use Rattle.aig_graph.specs.declared.nodes.Node.{Node}
use Rattle.cert_export.specs.Exported.{CanExportFalse}
use Rattle.cert_export.specs.ExportedCircuit.{IsDecidedTrue, CanExportTrue}
use Rattle.cert_export.specs.ExportableLogs.{RestsOnLive, SessionAnswersCanExport}
use Rattle.expansion.specs.Table.{IsRefutedBy}
use Rattle.hint_log.specs.Conditions.{AreLogged}
use Rattle.hint_log.specs.Entries.{ProofLog, rounds_of, steps_of}
use Rattle.hint_log.specs.Live.{live_numbers, formula_of}
use Rattle.hint_log.specs.ProductiveSession.{IsProductiveSession, IsUndecidedSince}
use Rattle.dq_session.specs.Databases.{DatabaseState, all_of, live_of}
use Rattle.dq_session.specs.declared.live.Live.{Live}
use Rattle.repair_loop.specs.SearchStates.{HasBegun, IsAnsweredTrue, IsAnsweredFalse}
use Rattle.repair_loop.specs.Stopping.{IsStoppedAtLimit}
use Rattle.verdict_texts.specs.Forms.{plain}
use Rattle.verdict_texts.specs.Shown.{IsShownFalse, IsTrueText, IsFalseText, unknown_by}
use Rattle.verdict_texts.specs.Verdicts.{is_false, verdict_text}
use Rattle.session_runs.specs.Invariant.{IsFound}

-- the answer can be exported, of the formula that is live
pub can-export-true : SessionAnswersCanExport → (f all : Dqbf) (frames live : List ℕ) (graph : AigGraph)
    (nodes : List Node) (log : ProofLog) (id : ℕ) → AreLogged log.entries → IsProductiveSession all frames log.entries
    → live_numbers log.entries ≡ Some live → f ≡ formula_of all live → IsAnsweredTrue f graph nodes log id
    → CanExportTrue f log.entries id
can-export-true law f all frames live graph nodes log id logged session named is answered =
    let a = subst (λ g. IsAnsweredTrue g graph nodes log id) is answered in
    let shown = a.found.shown in
    let decided : IsDecidedTrue (formula_of all live) log.entries id = search arith in
    subst (λ g. CanExportTrue g log.entries id) (sym is)
    ((law all frames live log.entries id logged session named).0 decided a.current)

pub can-export-false : SessionAnswersCanExport → (f all : Dqbf) (frames live : List ℕ) (log : ProofLog) (id : ℕ)
    → AreLogged log.entries → IsProductiveSession all frames log.entries → live_numbers log.entries ≡ Some live
    → f ≡ formula_of all live → (refuted : IsRefutedBy log.entries id) → RestsOnLive live log.entries id refuted
    → CanExportFalse f live log.entries id
can-export-false law f all frames live log id logged session named is refuted rests =
    subst (λ g. CanExportFalse g live log.entries id) (sym is)
    ((law all frames live log.entries id logged session named).1 refuted rests)

-- the answer rests on live clauses
pub rests-on-live : (b : DatabaseState) (log : ProofLog) (id : ℕ) → IsAnsweredFalse b log id
    → (refuted : IsRefutedBy log.entries id) × RestsOnLive (live_of b) log.entries id refuted
rests-on-live b log id a = (
  record {
    clause = a.shown.clause;
    hints = a.shown.hints;
    earlier = a.shown.earlier;
    answered = a.shown.answered;
    last = a.shown.last;
    decides = a.shown.decides;
  },
  a.shown.live,
)

module _ (b : DatabaseState) (f : Dqbf) (old new : ProofLog) (began : HasBegun (live_of b) old.entries new.entries) where
  pub true-found : (text : List ℕ) → IsTrueText f new plain text → IsFound b f old new text
  true-found text t = search arith

  pub false-found : (numbers : List ℕ) (text : List ℕ) → numbers ≡ live_of b → IsFalseText f numbers new plain text
      → IsFound b f old new text
  false-found numbers text are t = record {
    verdict = is_false t.refutation;
    began = began;
    shown = subst (λ ns. IsShownFalse f f ns new plain t.refutation)
        (are ∙ sym (ap (λ o. unwrap_or o []) began.named)) t.shown;
    is = t.is;
  }

  pub unknown-found : (text : List ℕ) → IsStoppedAtLimit f new → IsUndecidedSince (all_of b) new.entries
      → rounds_of new.entries ≤ steps_of new.entries → text ≡ verdict_text plain f (unknown_by new)
      → IsFound b f old new text
  unknown-found text stopped undecided fewer same = record {
    verdict = unknown_by new;
    began = began;
    shown = search arith;
    is = same;
  }

number-at : (ls : List Live) (i : ℕ) (d : Live) → i < length ls
    → get_or (map (λ (l : Live). l.clause) ls) i 0 ≡ (get_or ls i d).clause
number-at [] i d below = absurd (omega (arith, below))
number-at (l ∷ ls) zero d below = refl
number-at (l ∷ ls) (suc i) d below = number-at ls i d (omega (arith, below))

-- one number more
pub one-number : (ls : List Live) (i : ℕ) (d : Live) → i < length ls
    → take i (map (λ (l : Live). l.clause) ls) ++ (get_or ls i d).clause ∷ [] ≡ take (i + 1) (map (λ (l : Live). l.clause) ls)
one-number ls i d below = search (arith, length-map, take_more, number-at)
