-- Logs of a true formula that miss one point alone.
use Rattle.std.proofs.Common.{◌≡◌, ◌≢◌, ◌≤◌, List, [], ◌∷◌, refl, subst, arith}
use Rattle.std.specs.List.{Contains}
use Rattle.std.proofs.lemmas.Bool.{false≢true}
use Rattle.dq_lits.specs.Literal.{positive, negative}
use Rattle.hint_log.specs.Entries.{Entry, Named, Given}
use Rattle.hint_log.specs.declared.names.Name.TheVariants.{Selector, Bad}
use Rattle.hint_log.specs.declared.origins.Leaf.TheVariants.{Literal as LeafLiteral}
use Rattle.hint_log.specs.declared.origins.Origin.TheVariants.{Fault}
use Rattle.hint_log.specs.Growth.{Each}
use Rattle.log_laws.specs.Examples.{Point, matching_origins, derived_lemmas, new_lemmas, new_rows, followed_models, single_givens, Meets, MissesAlone, seen_conjunction, faults_given, second_output, second_turn_at_once}
use Rattle.log_laws.proofs.FalseLog.{new_name}
use Rattle.log_laws.proofs.TrueDecided.{faults_selectors}
use Rattle.log_laws.proofs.TrueLog.{Fits, fault_of, faults_fit, faults_logged, faults_matches, faults_derived}
use Rattle.log_laws.proofs.ProductiveTrueLog.{fault_first, faults_new, faults_rows, faults_models, faults_single}

output_others : (other : Point) → other ≢ matching_origins → Meets seen_conjunction second_output other
output_others matching_origins differs = absurd (differs refl)
output_others derived_lemmas differs = (tt, faults_derived)
output_others new_lemmas differs = (tt, faults_new)
output_others new_rows differs = (tt, faults_rows)
output_others followed_models differs = (tt, faults_models)
output_others single_givens differs = search (arith, fault_first, faults_single)

output_missed : Meets seen_conjunction second_output matching_origins → ⊥
output_missed h =
    let o = h.0 in
    let group : 5 ≡ o.group = cc in
    let same : LeafLiteral (positive 2) ≡ LeafLiteral (positive 4) =
    o.one_leaf 3 3 1 1 1 (LeafLiteral (positive 2)) (LeafLiteral (positive 4)) (negative 6 ∷ positive 4 ∷ []) refl
    (subst (λ g. Contains faults_given (Given (Fault 1 1 (LeafLiteral (positive 4)))
    (negative g ∷ negative 6 ∷ positive 4 ∷ []))) group (7, omega arith, refl)) refl refl in
    cc

pub output_misses : MissesAlone seen_conjunction second_output matching_origins
output_misses = search (arith, output_missed, output_others, faults_logged, faults_selectors)

abbrev t1 : List Entry
t1 = Named 9 (Selector 9) ∷ faults_given

abbrev t2 : List Entry
t2 = Named 10 (Bad 9 1) ∷ t1

t2_fit : Each (λ before e. Fits e) t2
t2_fit = ((λ j i leaf c h v own. cc), ((λ j i leaf c h v own. cc), faults_fit))

turn_others : (other : Point) → other ≢ single_givens → Meets seen_conjunction second_turn_at_once other
turn_others matching_origins differs = (
  fault_of t2 t2_fit 9 0 1 10 3 (negative 3) (positive 4 ∷ []) refl refl refl
      ((λ h. absurd (false≢true h)), refl) refl refl,
  (tt, (tt, faults_matches)),
)
turn_others derived_lemmas differs = (tt, (tt, (tt, faults_derived)))
turn_others new_lemmas differs = (tt, (tt, (tt, faults_new)))
turn_others new_rows differs = (tt, (tt, (tt, faults_rows)))
turn_others followed_models differs = (tt, (tt, (tt, faults_models)))
turn_others single_givens differs = absurd (differs refl)

turn_missed : Meets seen_conjunction second_turn_at_once single_givens → ⊥
turn_missed h = let few : 2 ≤ 1 = h.0.groups in omega (arith, few)

pub turn_misses : MissesAlone seen_conjunction second_turn_at_once single_givens
turn_misses = search (arith, turn_missed, turn_others, new_name, faults_logged, faults_selectors)
