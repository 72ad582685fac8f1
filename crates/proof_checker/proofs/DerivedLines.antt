-- Items that are judged one after another.
use Rattle.std.proofs.Common.{◌≡◌, ℕ, ◌+◌, ◌<◌, ◌≤◌, Bool, true, false, List, [], ◌∷◌, drop, length, slice_get, Option, None, Some, is_some, refl, sym, ◌∙◌, ap, subst, arith}
use Rattle.std.specs.List.{All, AllByRecursion}
use Rattle.std.proofs.lemmas.List.Elements.{All-from_recursion, recursion_from_All}
use Rattle.list_laws.proofs.Elements.{drop-next}
use Rattle.list_laws.proofs.Sequences.{drop_end, all_later}
use Rattle.list_laws.proofs.Folds.{some_left}
use Rattle.dq_lits.specs.Derivation.{ProofStep}
use Rattle.dq_lits.specs.Formula.{Dqbf}
use Rattle.dq_lits.specs.Literal.{Literal}
use Rattle.circuit_plain.specs.Netlist.{Netlist}
use Rattle.rup_core.specs.Items.{ProofItem, derived, gone}
use Rattle.rup_core.specs.Proving.{ProofState, run_over, with_derived, without_lines, ended}
use Rattle.rup_core.specs.Runs.{Run, advanced, run_fault, start, unless_faulty, with_item, with_items}
use Rattle.rup_core.proofs.DeletedClauses.{going_is_fault}
use Rattle.cert_text.specs.CircuitProof.{first_proof_id, is_proof_variable}
use Rattle.cert_text.specs.Grammar.{AreItems, IsItem}
use Rattle.cert_text.specs.Numbering.{Numbering, behind_item}
use Rattle.cert_text.proofs.Numberings.{live_line, live_gone, live_ids, next_kept}
use Rattle.skolem_checker.specs.Checks.{Candidate}
use Rattle.proof_checker.specs.CircuitProof.{circuit_proof_fault, negated_candidate}
use Rattle.proof_checker.specs.ClauseLiterals.{AreClauseLiterals}
use Rattle.proof_checker.specs.Judging.{IsJudging, MayJudge, judged_candidate, run_of}
use Rattle.proof_checker.specs.Tables.{candidate_by}
use Rattle.proof_checker.specs.declared.judging.CircuitProving.{CircuitProving}
use Rattle.proof_checker.specs.declared.tables.NegatedTables.{NegatedTables}
use Rattle.proof_checker.proofs.JudgedProofs.{none_behind}

one_later : (lines : List (ℕ × List Literal)) (id : ℕ) → AllByRecursion (λ line. line.0 < id) lines →
    AllByRecursion (λ line. line.0 < id + 1) lines
one_later [] id above = tt
one_later (line ∷ lines) id above = ((let lt = above.0 in omega (arith, lt)), one_later lines id above.1)

by_fault : (fault : Option ℕ) (d : Bool) (id : ℕ) (literals : List Literal) (p : ProofState) →
    AllByRecursion (λ line. line.0 < id) p.lines →
    AllByRecursion (λ line. line.0 < id + 1) (with_derived fault d id literals p).lines
by_fault (Some _) d id literals p above = one_later p.lines id above
by_fault None false id literals p above = one_later p.lines id above
by_fault None true id literals p above = all_later p.lines id literals above

without_above : (fault : Option ℕ) (ids : List ℕ) (p : ProofState) (next : ℕ) →
    AllByRecursion (λ line. line.0 < next) p.lines →
    AllByRecursion (λ line. line.0 < next) (without_lines fault ids p).lines
without_above (Some _) ids p next above = above
without_above None ids p next above = search (arith, some_left)

module _ (f : Dqbf) (net : Netlist) where
  abbrev is_variable : ℕ → Bool
  is_variable = is_proof_variable f net

  -- a line's id lies behind those of the lines that are held
  pub line_above : (p : CircuitProving) (step : ProofStep) (lines : List (ℕ × List Literal)) →
      MayJudge f net p (derived step) → lines ≡ p.proving.lines → All (λ line. line.0 < step.id) lines
  line_above p step lines may same = search arith

  pub line_from_one : (p : CircuitProving) (step : ProofStep) → MayJudge f net p (derived step) → 1 ≤ step.id
  line_from_one p step may = search arith

  -- a line more, where there are marks enough
  pub line_run : (p w : CircuitProving) (m : Candidate) (new : ProofState) (item : ProofItem) →
      m ≡ candidate_by f net w.tables → w.tables ≡ p.tables →
      w.proving ≡ record p.proving { marks = w.proving.marks; line = w.proving.line } →
      run_over (negated_candidate m) new ≡ with_item (run_over (negated_candidate m) w.proving) item →
      run_over (negated_candidate (candidate_by f net w.tables)) new ≡ with_item (run_of f net p) item
  line_run p w m new item is tables rest run =
      subst (λ (k : Candidate). run_over (negated_candidate k) new
      ≡ with_item (run_over (negated_candidate k) w.proving) item) is run
      ∙ ap (λ (t : NegatedTables). with_item (run_over
      (negated_candidate (candidate_by f net t)) w.proving) item) tables
      ∙ ap (λ (q : ProofState). with_item (run_over (negated_candidate (judged_candidate f net p)) q) item) rest

  pub line_judging : (p w : CircuitProving) (new : CircuitProving) (step : ProofStep) (d : Bool) →
      new.tables ≡ p.tables → w.proving ≡ record p.proving { marks = w.proving.marks; line = w.proving.line } →
      new.proving ≡ ended d step.id step.literals w.proving → (at : Numbering) → IsJudging f net p at →
      IsItem is_variable at (derived step) → IsJudging f net new (behind_item at (derived step))
  line_judging p w new step d tables rest q_is at judging lawful =
      search (arith, recursion_from_All, live_line, All-from_recursion, by_fault)

  -- ids that are deleted
  pub ids_free : (p : CircuitProving) (ids : List ℕ) → MayJudge f net p (gone ids) →
      All (λ id. negated_candidate (judged_candidate f net p) id ≡ None) ids
  ids_free p ids may =
      let c = judged_candidate f net p in
      All-from_recursion (λ id. negated_candidate c id ≡ None) ids
      (live_ids (λ id. negated_candidate c id ≡ None) may.at ids (λ id h. none_behind c id (may.judging.ids id h))
      may.lawful.live)

  pub ids_judging : (p new : CircuitProving) (ids : List ℕ) → new.tables ≡ p.tables →
      new.proving ≡ without_lines p.proving.fault ids p.proving → (at : Numbering) → IsJudging f net p at →
      IsItem is_variable at (gone ids) → IsJudging f net new (behind_item at (gone ids))
  ids_judging p new ids tables q_is at judging lawful =
      record {
        literals = subst (λ (t : NegatedTables). AreClauseLiterals f net t.literals.items)
            (sym tables) judging.literals;
        first = (let le = judging.first in let same = next_kept at ids in omega (arith, le, same));
        ids = live_gone (λ i. first_proof_id f net ≤ i) at ids judging.ids;
        above = All-from_recursion (λ line. line.0 < (behind_item at (gone ids)).next) new.proving.lines
            (subst (λ next. AllByRecursion (λ line. line.0 < next) new.proving.lines) (sym (next_kept at ids))
            (subst (λ (s : ProofState). AllByRecursion (λ line. line.0 < at.next) s.lines) (sym q_is)
            (without_above p.proving.fault ids p.proving at.next
            (recursion_from_All (λ line. line.0 < at.next) p.proving.lines judging.above))));
      }

  -- the first k items are judged, and with the others the run is that of all
  pub record AreJudged (first p : CircuitProving) (items : List ProofItem) (k : ℕ) : Type 0 where
    pub at : Numbering
    pub judging : IsJudging f net p at
    pub numbered : AreItems is_variable at (drop k items)
    pub left : run_fault (with_items (run_of f net p) (drop k items)) ≡ run_fault
        (with_items (run_of f net first) items)

  module _ (first p : CircuitProving) (items : List ProofItem) (k : ℕ) (item : ProofItem)
      (at : slice_get items k ≡ Some item) (before : AreJudged first p items k) where
    numbered : AreItems is_variable before.at (item ∷ drop (k + 1) items)
    numbered = subst (AreItems is_variable before.at) (drop-next items k item at) before.numbered

    pub may_come : MayJudge f net p item
    may_come = record { at = before.at; judging = before.judging; lawful = numbered.0 }

    pub one_judged : (q : CircuitProving) → run_of f net q ≡ with_item (run_of f net p) item →
        ((at : Numbering) → IsJudging f net p at → IsItem is_variable at item
        → IsJudging f net q (behind_item at item)) → AreJudged first q items (k + 1)
    one_judged q run goes_on = search (arith, drop-next)

  pub all_judged : (first p : CircuitProving) (items : List ProofItem) (k : ℕ) → length items ≤ k →
      AreJudged first p items k → run_fault (run_of f net p) ≡ run_fault (with_items (run_of f net first) items)
  all_judged first p items k end are = search (arith, drop_end)

  -- behind a line that isn't derived nothing changes
  stays : (run : Run) (items : List ProofItem) → is_some run.fault ≡ true →
      run_fault (with_items run items) ≡ run_fault run
  stays run [] faulty = refl
  stays run (item ∷ items) faulty =
      ap (λ r. run_fault (with_items r items)) (kept run item run.fault refl faulty) ∙ stays run items faulty
    where
      kept : (run : Run) (item : ProofItem) (o : Option ℕ) → run.fault ≡ o → is_some run.fault ≡ true →
          with_item run item ≡ run
      kept run item None is some = absurd (apart (sym (ap is_some is) ∙ some))
        where
          apart : false ≡ true → ⊥
          apart h = cc
      kept run item (Some id) is some = ap (λ o. unless_faulty o run (advanced run item)) is

  pub settled : (first p : CircuitProving) (items : List ProofItem) (k : ℕ) → is_some p.proving.fault ≡ true →
      AreJudged first p items k → run_fault (run_of f net p) ≡ run_fault (with_items (run_of f net first) items)
  settled first p items k faulty are = sym (stays (run_of f net p) (drop k items) faulty) ∙ are.left

-- a proof's fault is that of its run
pub fault_is : (b : Candidate) (f : Dqbf) (net : Netlist) (p q : CircuitProving) (items : List ProofItem) →
    f ≡ b.formula → net ≡ b.circuit.netlist →
    run_of b.formula b.circuit.netlist p ≡ start (negated_candidate b) →
    run_fault (run_of f net q) ≡ run_fault (with_items (run_of f net p) items) →
    run_fault (run_of f net q) ≡ circuit_proof_fault b items
fault_is b f net p q items f_is net_is begun run =
    run
    ∙ ap (λ (g : Dqbf). run_fault (with_items (run_of g net p) items)) f_is
    ∙ ap (λ (n : Netlist). run_fault (with_items (run_of b.formula n p) items)) net_is
    ∙ ap (λ r. run_fault (with_items r items)) begun
    ∙ going_is_fault false (negated_candidate b) items

-- what is said of a mapped circuit is said of its formula and netlist
pub said_of : (P : Dqbf → Netlist → Type 0) (b : Candidate) (f : Dqbf) (net : Netlist) → f ≡ b.formula →
    net ≡ b.circuit.netlist → P b.formula b.circuit.netlist → P f net
said_of P b f net f_is net_is holds =
    subst (λ (g : Dqbf). P g net) (sym f_is) (subst (λ (n : Netlist). P b.formula n) (sym net_is) holds)
