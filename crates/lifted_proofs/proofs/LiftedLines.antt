-- A lifted refutation has no fault.
use Rattle.std.proofs.Common.{◌≡◌, ℕ, zero, suc, ◌+◌, ◌-◌, ◌*◌, ◌/◌, ◌%◌, ◌<◌, ◌≤◌, ◌==◌, nat_le, nat_lt, Bool, true, false, inl, inr, List, [], ◌∷◌, ◌++◌, map, length, get_or, slice_get, reverse, Option, Some, None, refl, sym, ◌∙◌, ap, subst, arith}
use Rattle.std.specs.Prelude.{slice_index_or}
use Rattle.std.specs.List.{Contains, list_any, filter_map}
use Rattle.std.proofs.lemmas.Bool.{and_parts, cases_lt, cond-true, cond-false, eqb-true, le-leb, lt-ltb, ltb-true, lt-leb}
use Rattle.std.proofs.lemmas.Option.{slice_get-get_or, get_or_from_slice_get, same_Some}
use Rattle.std.proofs.lemmas.List.{length-map, map-append, get_or_default}
use Rattle.std.proofs.lemmas.List.Elements.{All-map}
use Rattle.std.proofs.lemmas.List.Quantifiers.{position-Some}
use Rattle.list_laws.proofs.Members.{contains_tested}
use Rattle.number_tables.specs.Numbers.{has_number, place_of}
use Rattle.dq_lits.specs.Literal.{Literal, variable_of}
use Rattle.dq_lits.specs.Formula.{Dqbf}
use Rattle.dq_lits.specs.Derivation.{ProofStep, is_tautology}
use Rattle.dq_lits.specs.Expansion.{instance_at, pair_literal, universal_literal_true}
use Rattle.dq_formula.proofs.Subsets.{none_contained}
use Rattle.dq_prep.specs.Simplified.{simplified_formula}
use Rattle.rup_core.specs.Items.{ProofItem, derived, gone, items_fault}
use Rattle.cert_text.specs.Grammar.{AreSteps, AreItems}
use Rattle.cert_text.specs.Numbering.{Numbering, without_all, with_next, numbered_from}
use Rattle.cert_text.specs.Pairs.{is_pair_number}
use Rattle.cert_text.specs.Scan.{first_id}
use Rattle.cert_text.specs.declared.refutations.Dqr.{Dqr}
use Rattle.cert_text.proofs.Numberings.{next_kept}
use Rattle.refutation_checker.specs.Refutation.{normal_step, normal_item}
use Rattle.refutation_checker.proofs.InstanceIds.{no_id}
use Rattle.lifted_proofs.specs.UnitTables.{IsUnitTable}
use Rattle.lifted_proofs.specs.Goals.{left_by, IsGoal, Keeps}
use Rattle.lifted_proofs.specs.Lines.{goal_line, behind_steps, AreDerived, normal_steps}
use Rattle.lifted_proofs.specs.Carried.{lines_of, AreSources, Renumbering, id_at, carried_id, carried_step, IsHinted, AreWanted, IsFirstGoal}
use Rattle.lifted_proofs.specs.Planned.{IsPlanFor}
use Rattle.lifted_proofs.specs.Written.{IsNamed, AreWritten}
use Rattle.lifted_proofs.specs.LiftedRefutations.{kept_matrix, Refutes, AreLifted}
use Rattle.lifted_proofs.specs.declared.goals.Source.{Source}
use Rattle.lifted_proofs.specs.declared.goals.Goal.{Goal}
use Rattle.lifted_proofs.specs.declared.goals.Plan.{Plan}
use Rattle.lifted_proofs.specs.declared.lines.Written.{Written}
use Rattle.lifted_proofs.specs.declared.units.UnitTable.{UnitTable}
use Rattle.lifted_proofs.proofs.CarriedLines.{AreNumbered, AreMoved, EndsEmpty, move-items, items-derived, ends-behind, derived-append, pairs-stay, literals-stay}
use Rattle.lifted_proofs.proofs.GatheredHints.{first-at}
use Rattle.lifted_proofs.proofs.HintedInstances.{AreFrom, hinted-plain, instance-parts, plain-source}
use Rattle.lifted_proofs.proofs.WrittenLines.{steps-append}
use Rattle.refutation_checker.proofs.NormalLines.{normal_lines}

-- the formula that is left
abbrev pub left_formula : UnitTable → Dqbf
left_formula t = simplified_formula t.formula.now (reverse t.units.now)

hinted-later : (s : ProofStep) (ss : List ProofStep) (h : ℕ) → IsHinted ss h → IsHinted (s ∷ ss) h
hinted-later s ss h (t, ((k, below, is), hint)) = (t, ((suc k, omega (arith, below), is), hint))

hinted-first : (s : ProofStep) (ss : List ProofStep) (k d : ℕ) → k < length s.hints
    → IsHinted (s ∷ ss) (get_or s.hints k d)
hinted-first s ss k d below = search (arith, (get_or_default s.hints k (get_or s.hints k d) d below))

numbered-items : (f : Dqbf) (rows : List (List Bool)) (v : ℕ → Bool) (Wanted : ℕ → Type 0) (n : Numbering) (next : ℕ)
    (items : List ProofItem) → n.next ≡ next → AreItems v n items → ((h : ℕ) → IsHinted (lines_of items) h → Wanted h)
    → AreNumbered Wanted next (map (normal_item f rows) items)
numbered-items f rows v Wanted n next [] is are wanted = tt
numbered-items f rows v Wanted n next (derived s ∷ items) is are wanted = (
  are.0.numbered ∙ is,
  (λ k d below. wanted (get_or s.hints k d) (hinted-first s (lines_of items) k d below)),
  numbered-items f rows v Wanted (with_next n) (next + 1) items (ap (λ m. m + 1) is) are.1
      (λ h later. wanted h (hinted-later s (lines_of items) h later)),
)
numbered-items f rows v Wanted n next (gone ids ∷ items) is are wanted =
    numbered-items f rows v Wanted (without_all n ids) next items (next_kept n ids ∙ is) are.1 wanted

from-numbered : (Wanted : ℕ → Type 0) (n m : ℕ) (items : List ProofItem) → m ≤ n → AreNumbered Wanted n items
    → AreFrom m items
from-numbered Wanted n m [] low are = tt
from-numbered Wanted n m (derived s ∷ items) low are = search (arith, (from-numbered Wanted (n + 1) m items))
from-numbered Wanted n m (gone ids ∷ items) low are = from-numbered Wanted n m items low are

lines-normal : (f : Dqbf) (rows : List (List Bool)) (items : List ProofItem)
    → lines_of (map (normal_item f rows) items) ≡ map (normal_step f rows) (lines_of items)
lines-normal f rows [] = refl
lines-normal f rows (derived s ∷ items) = ap (λ ss. normal_step f rows s ∷ ss) (lines-normal f rows items)
lines-normal f rows (gone ids ∷ items) = lines-normal f rows items

hinted-normal : (f : Dqbf) (rows : List (List Bool)) (ss : List ProofStep) (h : ℕ) → IsHinted ss h
    → IsHinted (map (normal_step f rows) ss) h
hinted-normal f rows ss h (s, ((k, below, is), hint)) = (
  normal_step f rows s,
  (
    (
      k,
      omega (arith, below, length-map ss (normal_step f rows)),
      at ss k below is,
    ),
    hint,
  ),
)
  where
    at : (ss : List ProofStep) (k : ℕ) → k < length ss → get_or ss k s ≡ s
        → get_or (map (normal_step f rows) ss) k (normal_step f rows s) ≡ normal_step f rows s
    at [] k below is = absurd (omega (arith, below))
    at (x ∷ xs) zero below is = ap (normal_step f rows) is
    at (x ∷ xs) (suc k) below is = at xs k (omega (arith, below)) is

-- a wanted instance is live and plain
pub wanted-plain : (t : UnitTable) (d : Dqr) (h : ℕ) → Refutes t d → IsHinted (lines_of d.items) h
    → h ≤ length d.rows * length (kept_matrix t)
    → (c : List Literal) × ((instance_at (left_formula t) d.rows h ≡ Some c) × (is_tautology c ≡ false))
wanted-plain t d h refutes hinted low =
    let g = left_formula t in
    let items = map (normal_item g d.rows) d.items in
    let first = length d.rows * length (kept_matrix t) + 1 in
    let numbered = numbered-items g d.rows (is_pair_number g (length d.rows)) (λ i. Unit {0})
    (numbered_from (first_id g (length d.rows))) first d.items refl refutes.allowed.items (λ i hint. tt) in
    hinted-plain false (instance_at g d.rows) first items h refutes.refutes
    (from-numbered (λ i. Unit {0}) first first items (omega arith) numbered)
    (subst (λ ss. IsHinted ss h) (sym (lines-normal g d.rows d.items))
    (hinted-normal g d.rows (lines_of d.items) h hinted))
    (omega (arith, low))

-- lines hint from 1 on
hint-from-one : (v : ℕ → Bool) (n : Numbering) (items : List ProofItem) (h : ℕ) → AreItems v n items
    → IsHinted (lines_of items) h → 1 ≤ h
hint-from-one v n [] h are (s, (inside, hint)) = absurd (omega (arith, inside.1))
hint-from-one v n (gone ids ∷ items) h are hinted = hint-from-one v (without_all n ids) items h are.1 hinted
hint-from-one v n (derived t ∷ items) h are (s, (inside, hint)) =
    by inside (λ later. hint-from-one v (with_next n) items h are.1 (s, (later, hint)))
  where
    by : Contains (t ∷ lines_of items) s → (Contains (lines_of items) s → 1 ≤ h) → 1 ≤ h
    by (zero, below, is) rest =
        let at = subst (λ (x : ProofStep). Contains x.hints h) (sym is) hint in
        subst (λ i. 1 ≤ i) at.2 (are.0.hints_before at.0 h at.1).0
    by (suc k, below, is) rest = rest (k, omega (arith, below), is)

pub wanted-from-one : (t : UnitTable) (d : Dqr) (h : ℕ) → Refutes t d → IsHinted (lines_of d.items) h → 1 ≤ h
wanted-from-one t d h refutes hinted = search (arith, hint-from-one)

-- an instance's goal, and its line under any rows that begin so
pub record IsRightGoal (t : UnitTable) (rows : List (List Bool)) (c : List Literal) (g : Goal) : Type 0 where
  pub goal : IsGoal t.formula.now t.units.now rows g
  pub line : (more : List (List Bool)) → Keeps rows more → goal_line t.formula.now t.units.now more g ≡ c

pub first-goal-right : (t : UnitTable) (rows : List (List Bool)) (sources : List Source) (h : ℕ) (c : List Literal)
    (g : Goal) → IsUnitTable t → AreSources t.formula.now t.units.now (kept_matrix t) sources → 1 ≤ h
    → instance_at (left_formula t) rows h ≡ Some c → is_tautology c ≡ false → IsFirstGoal sources h g
    → IsRightGoal t rows c g
first-goal-right t rows sources h c g right are from-one at plain it =
    let f = t.formula.now in
    let parts = instance-parts (left_formula t) rows h c from-one at in
    let each = are.each ((h - 1) % length sources) g.source it.source in
    let clause-is : parts.clause ≡ left_by f t.units.now g.source =
    same_Some parts.clause (left_by f t.units.now g.source)
    (sym parts.clause_at' ∙ ap (λ n. slice_get (kept_matrix t) ((h - 1) % n)) (sym are.many) ∙ each.1) in
    let row-at : slice_get rows g.row ≡ Some parts.row =
    ap (slice_get rows) (it.row ∙ ap (λ n. (h - 1) / n) are.many) ∙ parts.row_at in
    let none : list_any (universal_literal_true f parts.row) (left_by f t.units.now g.source) ≡ false =
    ap (list_any (universal_literal_true f parts.row)) (sym clause-is) ∙ parts.none_true in
    let line : c ≡ filter_map (pair_literal f rows parts.row) (left_by f t.units.now g.source) =
    parts.is ∙ ap (filter_map (pair_literal f rows parts.row)) clause-is in
    record {
      goal = record {
        source = each.0;
        plain = plain-source f t.units.now rows g.source parts.row right.well each.0 none
            (ap is_tautology (sym line) ∙ plain);
        row = parts.row;
        row_at = row-at;
        none_true = none;
      };
      line = search (arith, get_or_from_slice_get, pairs-stay);
    }

has-place : (xs : List ℕ) (h : ℕ) → has_number xs h ≡ true
    → (k : ℕ) × ((place_of xs h ≡ Some k) × (slice_get xs k ≡ Some h))
has-place xs h there = by (place_of xs h) refl
  where
    by : (o : Option ℕ) → place_of xs h ≡ o → (k : ℕ) × ((place_of xs h ≡ Some k) × (slice_get xs k ≡ Some h))
    by None is = absurd (none_contained xs h is (contains_tested xs h there))
    by (Some k) is =
        let at = position-Some (λ n. n == h) xs k 0 is in
        (k, (is, slice_get-get_or xs k 0 at.0 ∙ ap Some (eqb-true (get_or xs k 0) h at.1)))

-- all that a lifted refutation is made of
pub record Lifting (t : UnitTable) (d : Dqr) (sources : List Source) (wanted : List ℕ) (p : Plan) (w : Written)
    : Type 0 where
  pub right : IsUnitTable t
  pub refutes : Refutes t d
  pub sources_are : AreSources t.formula.now t.units.now (kept_matrix t) sources
  pub wanted_are : AreWanted (lines_of d.items) (length d.rows * length sources) wanted
  pub plan : IsPlanFor d.rows sources wanted p
  pub written : AreWritten t p w
  pub named : (q : ℕ) → IsNamed t p w q

abbrev pub renumber : UnitTable → Dqr → List Source → List ℕ → Plan → Written → Renumbering
renumber t d sources wanted p w = record {
  wanted = wanted;
  ids = w.ids.items;
  old_last = length d.rows * length sources;
  new_last = length p.rows * length t.formula.now.matrix + length w.steps;
}

-- the line of a wanted instance
wanted-line : (t : UnitTable) (d : Dqr) (sources : List Source) (wanted : List ℕ) (p : Plan) (w : Written) (h : ℕ)
    (c : List Literal) → Lifting t d sources wanted p w → IsHinted (lines_of d.items) h
    → h ≤ length d.rows * length sources → instance_at (left_formula t) d.rows h ≡ Some c → is_tautology c ≡ false
    → (behind_steps (instance_at t.formula.now p.rows) (normal_steps t.formula.now p.rows w.steps)
    (carried_id (renumber t d sources wanted p w) h) ≡ Some c)
    × (1 ≤ carried_id (renumber t d sources wanted p w) h)
    × (carried_id (renumber t d sources wanted p w) h
    < length p.rows * length t.formula.now.matrix + length w.steps + 1)
wanted-line t d sources wanted p w h c l hinted low at plain =
    let r = renumber t d sources wanted p w in
    let place = has-place wanted h (l.wanted_are.all h hinted low) in
    let first = first-at sources wanted l.plan.first place.0 h l.plan.goals place.1.1 in
    let right = first-goal-right t d.rows sources h c first.0 l.right l.sources_are
    (wanted-from-one t d h l.refutes hinted) at plain first.1.1 in
    let line = l.named place.0 first.0 (l.plan.goals_kept place.0 first.0 first.1.0) in
    let id-is : carried_id r h ≡ slice_index_or w.ids.items place.0 0 =
    cond-true (nat_le h r.old_last) (id_at r.ids (place_of wanted h)) (h - r.old_last + r.new_last)
    (le-leb h r.old_last low)
    ∙ ap (id_at r.ids) place.1.0 in (
      ap (behind_steps (instance_at t.formula.now p.rows) (normal_steps t.formula.now p.rows w.steps)) id-is ∙ line.is
          ∙ ap Some (right.line p.rows l.plan.rows_kept),
      omega (arith, id-is, line.from_one),
      omega (arith, id-is, line.before),
    )

later-id : (r : Renumbering) (n : ℕ) → r.old_last < n → carried_id r n ≡ n - r.old_last + r.new_last
later-id r n above = search (arith, cond-false, nat_le, lt-leb)

pub count-is : (t : UnitTable) (sources : List Source) (k : ℕ)
    → AreSources t.formula.now t.units.now (kept_matrix t) sources
    → k * length sources ≡ k * length (kept_matrix t)
count-is t sources k are = ap (λ n. k * n) are.many

-- the carried lines are derived
carried-derived : (t : UnitTable) (d : Dqr) (sources : List Source) (wanted : List ℕ) (p : Plan) (w : Written)
    → Lifting t d sources wanted p w
    → AreMoved (carried_id (renumber t d sources wanted p w))
    (lines_of (map (normal_item (left_formula t) d.rows) d.items))
    (normal_steps t.formula.now p.rows (map (carried_step (renumber t d sources wanted p w)) (lines_of d.items)))
    → AreDerived (behind_steps (instance_at t.formula.now p.rows) (normal_steps t.formula.now p.rows w.steps))
    (normal_steps t.formula.now p.rows (map (carried_step (renumber t d sources wanted p w)) (lines_of d.items)))
    × EndsEmpty false
    (normal_steps t.formula.now p.rows (map (carried_step (renumber t d sources wanted p w)) (lines_of d.items)))
carried-derived t d sources wanted p w l moved =
    let g = left_formula t in
    let r = renumber t d sources wanted p w in
    let Wanted : ℕ → Type 0 = IsHinted (lines_of d.items) in
    let count = count-is t sources (length d.rows) l.sources_are in
    let first = length d.rows * length (kept_matrix t) + 1 in
    move-items (carried_id r) Wanted false (instance_at g d.rows)
    (behind_steps (instance_at t.formula.now p.rows) (normal_steps t.formula.now p.rows w.steps)) first
    (r.new_last + 1) (map (normal_item g d.rows) d.items)
    (normal_steps t.formula.now p.rows (map (carried_step r) (lines_of d.items)))
    (λ i. later-id r (first + i) (omega (arith, count)) ∙ omega (arith, count))
    (numbered-items g d.rows (is_pair_number g (length d.rows)) Wanted
    (numbered_from (first_id g (length d.rows))) first d.items refl l.refutes.allowed.items (λ h hinted. hinted))
    moved
    (λ h c hinted at plain. elim (cases_lt (length d.rows * length sources) h) [
      | inr low ↦
          let it = wanted-line t d sources wanted p w h c l hinted low at plain in
          (it.0, omega (arith, it.2))
      | inl high ↦
          absurd (no-clause c (sym (no_id g d.rows h (inr (omega (arith, count, high)))) ∙ at))
    ])
    l.refutes.refutes
  where
    no-clause : (c : List Literal) → None ≡ Some c → ⊥
    no-clause c e = cc

moved-items : (t : UnitTable) (rows more : List (List Bool)) (r : Renumbering) (n : Numbering) (items : List ProofItem)
    → Keeps rows more → AreItems (is_pair_number (left_formula t) (length rows)) n items
    → AreMoved (carried_id r) (lines_of (map (normal_item (left_formula t) rows) items))
    (normal_steps t.formula.now more (map (carried_step r) (lines_of items)))
moved-items t rows more r n [] keeps are = tt
moved-items t rows more r n (derived s ∷ items) keeps are = (
  record {
    id = refl;
    literals = literals-stay t.formula.now rows more s.literals keeps are.0.on_variables;
    hints = refl;
  },
  moved-items t rows more r (with_next n) items keeps are.1,
)
moved-items t rows more r n (gone ids ∷ items) keeps are =
    moved-items t rows more r (without_all n ids) items keeps are.1

-- a pair's number is one also where rows come behind
wider-number : (f : Dqbf) (few many number : ℕ) → few ≤ many → is_pair_number f few number ≡ true
    → is_pair_number f many number ≡ true
wider-number f few many number low is = search (arith, nat_lt, and_parts, lt-ltb, ltb-true)

-- the carried lines are such as the format allows
allowed-items : (t : UnitTable) (r : Renumbering) (few many : ℕ) (n : Numbering) (items : List ProofItem)
    → few ≤ many → r.old_last < n.next → AreItems (is_pair_number (left_formula t) few) n items
    → ((h : ℕ) → IsHinted (lines_of items) h → h ≤ r.old_last → (1 ≤ carried_id r h) × (carried_id r h ≤ r.new_last))
    → AreSteps (is_pair_number t.formula.now many) (n.next - r.old_last + r.new_last)
    (map (carried_step r) (lines_of items))
allowed-items t r few many n [] low above are ids = tt
allowed-items t r few many n (gone gs ∷ items) low above are ids =
    subst (λ m. AreSteps (is_pair_number t.formula.now many) (m - r.old_last + r.new_last)
    (map (carried_step r) (lines_of items))) (next_kept n gs)
    (allowed-items t r few many (without_all n gs) items low
    (subst (λ m. r.old_last < m) (sym (next_kept n gs)) above) are.1 ids)
allowed-items t r few many n (derived s ∷ items) low above are ids =
    let it = are.0 in
    let id-is : carried_id r s.id ≡ n.next - r.old_last + r.new_last =
    ap (carried_id r) it.numbered ∙ later-id r n.next above in (
      record {
        numbered = id-is;
        on_variables = λ k d below. wider-number t.formula.now few many (variable_of (get_or s.literals k d)) low
            (it.on_variables k d below);
        hints_before = All-map (λ h. (1 ≤ h) × (h < n.next - r.old_last + r.new_last)) (carried_id r) s.hints
            (λ k d below.
            let h = get_or s.hints k d in
            let before = it.hints_before k d below in
            elim (cases_lt r.old_last h) [
              | inl later ↦ let is = later-id r h later in
                  (omega (arith, is, later), omega (arith, is, later, before.1))
              | inr early ↦
                  let both = ids h (hinted-first s (lines_of items) k d below) early in
                  (both.0, omega (arith, both.1, above))
            ]);
      },
      subst (λ m. AreSteps (is_pair_number t.formula.now many) m (map (carried_step r) (lines_of items)))
          (omega (arith, above))
          (allowed-items t r few many (with_next n) items low (omega (arith, above)) are.1
          (λ h later. ids h (hinted-later s (lines_of items) h later))),
    )

pub keeps-length : {X : Type 0} (xs ys : List X) → Keeps xs ys → length xs ≤ length ys
keeps-length [] ys keeps = omega arith
keeps-length (x ∷ xs) [] keeps = let none : None ≡ Some x = keeps 0 x refl in cc
keeps-length (x ∷ xs) (y ∷ ys) keeps = omega (arith, keeps-length xs ys (λ k z at. keeps (suc k) z at))

-- all lines together
pub all-lifted : (t : UnitTable) (d : Dqr) (sources : List Source) (wanted : List ℕ) (p : Plan) (w : Written)
    (steps : List ProofStep) → Lifting t d sources wanted p w
    → steps ≡ w.steps ++ map (carried_step (renumber t d sources wanted p w)) (lines_of d.items)
    → AreLifted t p.rows steps
all-lifted t d sources wanted p w steps l is =
    let f = t.formula.now in
    let g = left_formula t in
    let r = renumber t d sources wanted p w in
    let carried = map (carried_step r) (lines_of d.items) in
    let count = count-is t sources (length d.rows) l.sources_are in
    let few = keeps-length d.rows p.rows l.plan.rows_kept in
    let moved = moved-items t d.rows p.rows r (numbered_from (first_id g (length d.rows))) d.items l.plan.rows_kept
    l.refutes.allowed.items in
    let derived-all = carried-derived t d sources wanted p w l moved in
    let allowed = allowed-items t r (length d.rows) (length p.rows) (numbered_from (first_id g (length d.rows))) d.items
    few (omega (arith, count)) l.refutes.allowed.items (λ h hinted low.
    let plain = wanted-plain t d h l.refutes hinted (omega (arith, low, count)) in
    let it = wanted-line t d sources wanted p w h plain.0 l hinted low plain.1.0 plain.1.1 in
    (it.1, omega (arith, it.2))) in
    subst (AreLifted t p.rows) (sym is) (record {
      allowed = steps-append (is_pair_number f (length p.rows)) (first_id f (length p.rows)) w.steps carried
          l.written.lines.allowed
          (subst (λ m. AreSteps (is_pair_number f (length p.rows)) m carried) (omega (arith, count)) allowed);
      refutes =
          ap (items_fault false (instance_at f p.rows)) (normal_lines f p.rows (w.steps ++ carried)
          ∙ ap (map derived) (map-append (normal_step f p.rows) w.steps carried))
          ∙ items-derived false (instance_at f p.rows)
          (normal_steps f p.rows w.steps ++ normal_steps f p.rows carried)
          (derived-append (instance_at f p.rows) (normal_steps f p.rows w.steps) (normal_steps f p.rows carried)
          l.written.lines.derived derived-all.0)
          (ends-behind false (normal_steps f p.rows w.steps) (normal_steps f p.rows carried) derived-all.1);
    })
