-- A refutation, lifted as a whole.
use Rattle.std.proofs.Common.{◌≡◌, ℕ, ◌+◌, ◌*◌, ◌^◌, ◌<◌, ◌≤◌, Bool, true, List, [], ◌∷◌, map, length, get_or, None, sym, subst, arith}
use Rattle.std.specs.List.{All}
use Rattle.std.proofs.lemmas.Bool.{eq-eqb}
use Rattle.std.proofs.lemmas.Nat.{mul-le}
use Rattle.std.proofs.lemmas.Option.{slice_get_within, get_or_from_slice_get}
use Rattle.std.proofs.lemmas.List.{length-map}
use Rattle.std.proofs.lemmas.List.Elements.{All-cons}
use Rattle.std.proofs.lemmas.List.Folds.{list_any_at}
use Rattle.number_tables.specs.Numbers.{has_number}
use Rattle.dq_lits.specs.Derivation.{ProofStep}
use Rattle.rup_core.specs.Items.{ProofItem, derived, gone}
use Rattle.cert_text.specs.Grammar.{AreItems, IsDqrOf}
use Rattle.cert_text.specs.Header.{max_count}
use Rattle.cert_text.specs.Numbering.{Numbering, with_next, without_all}
use Rattle.cert_text.specs.declared.refutations.Dqr.{Dqr}
use Rattle.cert_text.proofs.StepsAlone.{steps_are_items}
use Rattle.cert_text.proofs.Numberings.{next_kept}
use Rattle.refutation_checker.specs.Refutation.{refutation_fault}
use Rattle.dq_prep.proofs.KeptSoFar.{kept-few}
use Rattle.lifted_proofs.specs.UnitTables.{IsUnitTable}
use Rattle.lifted_proofs.specs.Goals.{IsGoal, IsPlan, Keeps}
use Rattle.lifted_proofs.specs.Carried.{lines_of, AreSources, AreWanted}
use Rattle.lifted_proofs.specs.Planned.{IsInstanceId, AreFirstGoals}
use Rattle.lifted_proofs.specs.Renumbered.{IsSmallStep}
use Rattle.lifted_proofs.specs.LiftedRefutations.{kept_matrix, Refutes, AreLifted}
use Rattle.lifted_proofs.specs.declared.goals.Source.{Source}
use Rattle.lifted_proofs.specs.declared.goals.Goal.{Goal}
use Rattle.lifted_proofs.specs.declared.goals.Plan.{Plan}
use Rattle.lifted_proofs.specs.declared.units.UnitTable.{UnitTable}
use Rattle.lifted_proofs.proofs.GatheredHints.{first-back}
use Rattle.lifted_proofs.proofs.LiftedLines.{wanted-plain, wanted-from-one, first-goal-right, count-is, keeps-length}
use Rattle.std.proofs.lemmas.Slice.Zip.{AllZip-long}

-- there are few instances
pub few-instances : (t : UnitTable) (d : Dqr) (sources : List Source) → IsUnitTable t → Refutes t d
    → AreSources t.formula.now t.units.now (kept_matrix t) sources
    → length d.rows * length sources ≤ 10000000000000000
few-instances t d sources right refutes are = search (arith, mul-le, kept-few)

pub few-wanted : (sources : List Source) (wanted : List ℕ) (first goals : List Goal)
    → AreFirstGoals sources wanted first → Keeps first goals → length wanted ≤ length goals
few-wanted sources wanted first goals are keeps = search (arith, AllZip-long, keeps-length)

small-items : (v : ℕ → Bool) (n : Numbering) (items : List ProofItem) → AreItems v n items
    → n.next + length items ≤ 2 ^ 62 → All IsSmallStep (lines_of items)
small-items v n [] are small = λ k d below. absurd (omega (arith, below))
small-items v n (gone ids ∷ items) are small =
    small-items v (without_all n ids) items are.1 (omega (arith, small, next_kept n ids))
small-items v n (derived s ∷ items) are small =
    All-cons IsSmallStep s (lines_of items) (
      omega (arith, are.0.numbered, small),
      λ k d below.
          omega (arith, (are.0.hints_before k d below).1, small),
    )
    (small-items v (with_next n) items are.1 (omega (arith, small)))

pub small-lines : (t : UnitTable) (d : Dqr) (sources : List Source) → IsUnitTable t → Refutes t d
    → AreSources t.formula.now t.units.now (kept_matrix t) sources → All IsSmallStep (lines_of d.items)
small-lines t d sources right refutes are = search (arith, small-items, few-instances, count-is)

contained-number : (xs : List ℕ) (k d : ℕ) → k < length xs → has_number xs (get_or xs k d) ≡ true
contained-number xs k d below = search (arith, list_any_at, eq-eqb)

pub wanted-ids : (t : UnitTable) (d : Dqr) (last : ℕ) (sources : List Source) (wanted seen : List ℕ) → Refutes t d
    → AreWanted (lines_of d.items) last wanted → last ≡ length d.rows * length sources → seen ≡ wanted
    → All (IsInstanceId (length d.rows) (length sources)) seen
wanted-ids t d last sources wanted seen refutes are last-is same =
    subst (All (IsInstanceId (length d.rows) (length sources))) (sym same) (λ k e below.
    let it = are.each (get_or wanted k e) (contained-number wanted k e below) in
    record {
      from_one = wanted-from-one t d (get_or wanted k e) refutes it.0;
      up_to = omega (arith, it.1, last-is);
    })

pub wanted-goals : (t : UnitTable) (d : Dqr) (last : ℕ) (sources : List Source) (wanted seen : List ℕ) → IsUnitTable t
    → Refutes t d → AreSources t.formula.now t.units.now (kept_matrix t) sources
    → AreWanted (lines_of d.items) last wanted → last ≡ length d.rows * length sources → seen ≡ wanted
    → (goals : List Goal) → AreFirstGoals sources seen goals
    → All (IsGoal t.formula.now t.units.now d.rows) goals
wanted-goals t d last sources wanted seen right refutes are wanted-are last-is same goals first = λ k e below.
    let back = first-back sources seen goals k e first below in
    let h = back.0 in
    let there : has_number wanted h ≡ true =
    subst (λ xs. has_number xs h ≡ true) same
    (subst (λ n. has_number seen n ≡ true) (get_or_from_slice_get seen k h 0 back.1.0)
    (contained-number seen k 0 (slice_get_within seen k h back.1.0))) in
    let it = wanted-are.each h there in
    let plain = wanted-plain t d h refutes it.0
    (omega (arith, it.1, last-is, count-is t sources (length d.rows) are)) in
    (first-goal-right t d.rows sources h plain.0 (get_or goals k e) right are (wanted-from-one t d h refutes it.0)
    plain.1.0 plain.1.1 back.1.1).goal

pub lifted-allowed : (t : UnitTable) (p : Plan) (steps : List ProofStep) (d : Dqr) → IsPlan t.formula.now t.units.now p
    → AreLifted t p.rows steps → length steps ≤ max_count → d.rows ≡ p.rows → d.items ≡ map derived steps
    → IsDqrOf t.formula.now d
lifted-allowed t p steps d plan lifted few rows items = search (arith, length-map, steps_are_items)

pub lifted-refutes : (t : UnitTable) (p : Plan) (steps : List ProofStep) (d : Dqr) → AreLifted t p.rows steps
    → d.rows ≡ p.rows → d.items ≡ map derived steps → refutation_fault t.formula.now d ≡ None
lifted-refutes t p steps d lifted rows items = search arith
