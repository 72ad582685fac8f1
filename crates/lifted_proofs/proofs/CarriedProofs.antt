-- The lines of a circuit's proof by other ids and variables, behind lines for what they hint at.
use Rattle.std.proofs.Common.{◌≡◌, ℕ, zero, suc, ◌+◌, ◌-◌, ◌<◌, ◌≤◌, nat_le, Bool, true, false, inl, inr, List, [], ◌∷◌, ◌++◌, map, length, get_or, Option, Some, None, slice_get, refl, sym, ◌∙◌, ap, subst, arith, ◌≢◌}
use Rattle.std.specs.Option.{option_map}
use Rattle.std.proofs.lemmas.Bool.{cases_lt, cond-true, cond-false, le-leb, lt-leb}
use Rattle.std.proofs.lemmas.List.Elements.{All-map}
use Rattle.std.proofs.lemmas.Option.{slice_get_within, get_or_from_slice_get}
use Rattle.dq_lits.proofs.SignedLiterals.{variable_of-on}
use Rattle.dq_lits.specs.Literal.{Literal, variable_of}
use Rattle.dq_lits.specs.Derivation.{LiveClauses, ProofStep}
use Rattle.rup_core.specs.Items.{ProofItem, derived, gone, items_fault}
use Rattle.cert_text.specs.Grammar.{AreSteps, AreItems}
use Rattle.cert_text.specs.Numbering.{Numbering, with_next, without_all, numbered_from}
use Rattle.cert_text.proofs.Numberings.{next_kept}
use Rattle.lifted_proofs.specs.Carried.{lines_of}
use Rattle.lifted_proofs.specs.CarriedProofs.{Carrying, carried_variable, carried_literal, carried_id, carried_line}
use Rattle.lifted_proofs.specs.Lines.{behind_steps, AreDerived}
use Rattle.lifted_proofs.proofs.CarriedLines.{EndsEmpty, AreMoved, AreNumbered, AreThere, move-items, derived-append, ends-behind}
use Rattle.lifted_proofs.proofs.KeptPlaces.{StandsIn}
use Rattle.lifted_proofs.proofs.RenamedLines.{IsOneToOne, renamed, renamed_item, items-renamed}
use Rattle.std.specs.List.{AllPairs}
use Rattle.list_laws.proofs.Quantified.{one_place}
use Rattle.lifted_proofs.proofs.WrittenLines.{steps-append}

-- ---- variables

-- a number of the list, or the other number behind it
data IsIndex (ps : List ℕ) (k d : ℕ) (n : ℕ) : Type 0 where
  inside : slice_get ps k ≡ Some n → IsIndex ps k d n
  outside : length ps ≤ k → n ≡ d → IsIndex ps k d n

index-is : (ps : List ℕ) (k d : ℕ) → IsIndex ps k d (get_or ps k d)
index-is [] k d = outside (omega arith) refl
index-is (p ∷ ps) zero d = inside refl
index-is (p ∷ ps) (suc k) d = search (arith, (index-is ps k d))

pub carried-circuit : (largest clauses : ℕ) (places : List ℕ) (v : ℕ) → v ≤ largest
    → carried_variable largest clauses places v ≡ v
carried-circuit largest clauses places v low = search (arith, cond-true, nat_le, le-leb)

carried-behind : (largest clauses : ℕ) (places : List ℕ) (v : ℕ) → largest < v
    → carried_variable largest clauses places v
    ≡ largest + 1 + get_or places (v - largest - 1) (v - largest - 1 + clauses)
carried-behind largest clauses places v high = search (arith, cond-false, nat_le, lt-leb)

pub carried-clause : (largest clauses : ℕ) (places : List ℕ) (v j p : ℕ) → v ≡ largest + 1 + j
    → slice_get places j ≡ Some p → carried_variable largest clauses places v ≡ largest + 1 + p
carried-clause largest clauses places v j p is at = search (arith, carried-behind, get_or_from_slice_get)

pub carried-once : (largest clauses : ℕ) (places : List ℕ) → AllPairs (λ i j. i ≢ j) places
    → ((p : ℕ) → StandsIn places p → p < clauses) → IsOneToOne (carried_variable largest clauses places)
carried-once largest clauses places distinct within v w same = elim (cases_lt largest v) [
  | inr low-v ↦ search (arith, cases_lt, carried-circuit, carried-behind)
  | inl high-v ↦ elim (cases_lt largest w) [
    | inr low-w ↦ search (arith, carried-circuit, carried-behind)
    | inl high-w ↦
        let k = v - largest - 1 in
        let j = w - largest - 1 in
        let is : get_or places k (k + clauses) ≡ get_or places j (j + clauses) = search (arith, carried-behind) in
        let one : k ≡ j = by k j (get_or places k (k + clauses)) (get_or places j (j + clauses))
        (index-is places k (k + clauses)) (index-is places j (j + clauses)) is in
        omega (arith, one, high-v, high-w)
  ]
]
  where
    by : (k j n m : ℕ) → IsIndex places k (k + clauses) n → IsIndex places j (j + clauses) m → n ≡ m → k ≡ j
    by k j n m (inside at-k) (inside at-j) e = one_place places k j n distinct at-k (at-j ∙ ap Some (sym e))
    by k j n m (inside at-k) (outside past is) e =
        absurd (omega (arith, within n (k, at-k), e, is))
    by k j n m (outside past is) (inside at-j) e =
        absurd (omega (arith, within m (j, at-j), e, is))
    by k j n m (outside past-k is-k) (outside past-j is-j) e = omega (arith, e, is-k, is-j)

-- ---- ids

pub id-gate : (c : Carrying) (id : ℕ) → id ≤ c.gates → carried_id c id ≡ id
id-gate c id low = search (arith, cond-true, nat_le, le-leb)

id-behind : (c : Carrying) (id : ℕ) → c.gates < id
    → carried_id c id ≡ get_or c.ids (id - c.gates - 1) (id - c.gates - 1 - length c.ids + c.some_false)
id-behind c id high = search (arith, cond-false, nat_le, lt-leb)

pub id-literal : (c : Carrying) (id k i : ℕ) → id ≡ c.gates + 1 + k → slice_get c.ids k ≡ Some i → carried_id c id ≡ i
id-literal c id k i is at = search (arith, id-behind, index-is, slice_get_within)

pub id-line : (c : Carrying) (id i : ℕ) → id ≡ c.gates + 1 + length c.ids + i → carried_id c id ≡ c.some_false + i
id-line c id i is = search (arith, id-behind, index-is, slice_get_within)

-- ---- the lines

-- what is known of the lines in front, and of the clauses that a proof may hint at
pub record CanCarryLines (old base : LiveClauses) (c : Carrying) (is_variable : ℕ → Bool) (first next : ℕ)
    (steps : List ProofStep) : Type 0 where
  pub one : IsOneToOne (carried_variable c.largest c.clauses c.places)
  pub ids : (k id : ℕ) → slice_get c.ids k ≡ Some id → (1 ≤ id) × (id < first + length steps)
  pub gates : c.gates < first
  pub next_is : next ≡ c.gates + length c.ids + 2
  pub some_false : c.some_false + 1 ≡ first + length steps
  pub some_from_one : 1 ≤ c.some_false
  pub allowed : AreSteps is_variable first steps
  pub derived : AreDerived base steps
  pub there : (h : ℕ) (clause : List Literal) → old h ≡ Some clause
      → (behind_steps base steps (carried_id c h) ≡ Some (map (carried_literal c) clause))
      × (carried_id c h < first + length steps)

module _ (old base : LiveClauses) (c : Carrying) (is_variable : ℕ → Bool) (first next : ℕ) (steps : List ProofStep)
    (ready : CanCarryLines old base c is_variable first next steps) where
  abbrev number : ℕ → ℕ
  number = carried_variable c.largest c.clauses c.places

  shifted : (i : ℕ) → carried_id c (next + i) ≡ first + length steps + i
  shifted i =
      id-line c (next + i) (i + 1) (omega (arith, ready.next_is))
      ∙ omega (arith, ready.some_false)

  hint-low : (h i : ℕ) → 1 ≤ h → h < next + i
      → (1 ≤ carried_id c h) × (carried_id c h < first + length steps + i)
  hint-low h i from-one before = search (arith, cases_lt, id-gate, index-is, id-literal, id-line)

  lines-allowed : (old_variable : ℕ → Bool) (items : List ProofItem) (at : Numbering) (i : ℕ) → at.next ≡ next + i
      → ((v : ℕ) → old_variable v ≡ true → is_variable (carried_variable c.largest c.clauses c.places v) ≡ true)
      → AreItems old_variable at items
      → AreSteps is_variable (first + length steps + i) (map (carried_line c) (lines_of items))
  lines-allowed old_variable [] at i is on are = tt
  lines-allowed old_variable (gone ids ∷ items) at i is on are =
      lines-allowed old_variable items (without_all at ids) i (next_kept at ids ∙ is) on are.1
  lines-allowed old_variable (derived s ∷ items) at i is on are = (
    record {
      numbered = ap (carried_id c) (are.0.numbered ∙ is) ∙ shifted i;
      on_variables = All-map (λ l. is_variable (variable_of l) ≡ true) (carried_literal c) s.literals
          (λ k d below.
          let l = get_or s.literals k d in
          ap is_variable (variable_of-on (number (variable_of l)) l)
          ∙ on (variable_of l) (are.0.on_variables k d below));
      hints_before = All-map (λ h. (1 ≤ h) × (h < first + length steps + i)) (carried_id c) s.hints
          (λ k d below.
          let h = get_or s.hints k d in
          let low = are.0.hints_before k d below in
          hint-low h i low.0 (omega (arith, low.1, is)));
    },
    subst (λ m. AreSteps is_variable m (map (carried_line c) (lines_of items))) (omega arith)
        (lines-allowed old_variable items (with_next at) (i + 1) (omega (arith, is)) on are.1),
  )

  renamed-numbered : (old_variable : ℕ → Bool) (items : List ProofItem) (at : Numbering) (n : ℕ) → at.next ≡ n
      → AreItems old_variable at items → AreNumbered (λ h. Unit {0}) n (map (renamed_item number) items)
  renamed-numbered old_variable [] at n is are = tt
  renamed-numbered old_variable (gone ids ∷ items) at n is are =
      renamed-numbered old_variable items (without_all at ids) n (next_kept at ids ∙ is) are.1
  renamed-numbered old_variable (derived s ∷ items) at n is are =
      search (arith, (renamed-numbered old_variable items))

  renamed-moved : (items : List ProofItem)
      → AreMoved (carried_id c) (lines_of (map (renamed_item number) items)) (map (carried_line c) (lines_of items))
  renamed-moved [] = tt
  renamed-moved (gone ids ∷ items) = renamed-moved items
  renamed-moved (derived s ∷ items) = (record { id = refl; literals = refl; hints = refl }, renamed-moved items)

  abbrev old_renamed : LiveClauses
  old_renamed id = option_map (map (renamed number)) (old id)

  all-there : AreThere (carried_id c) (λ h. Unit {0}) old_renamed (behind_steps base steps) (first + length steps)
  all-there h clause wanted at plain = by (old h) refl at
    where
      by : (o : Option (List Literal)) → old h ≡ o → option_map (map (renamed number)) o ≡ Some clause
          → (behind_steps base steps (carried_id c h) ≡ Some clause) × (carried_id c h < first + length steps)
      by None e is = cc
      by (Some was) e is =
          let it = ready.there h was e in
          (it.0 ∙ is, it.1)

  pub all-carried : (old_variable : ℕ → Bool) (items : List ProofItem)
      → ((v : ℕ) → old_variable v ≡ true → is_variable (carried_variable c.largest c.clauses c.places v) ≡ true)
      → AreItems old_variable (numbered_from next) items → items_fault false old items ≡ None
      → AreDerived base (steps ++ map (carried_line c) (lines_of items))
      × EndsEmpty false (steps ++ map (carried_line c) (lines_of items))
      × AreSteps is_variable first (steps ++ map (carried_line c) (lines_of items))
  all-carried old_variable items on are sound =
      let news = map (carried_line c) (lines_of items) in
      let again : items_fault false old_renamed (map (renamed_item number) items) ≡ None =
      items-renamed number ready.one false old old_renamed items (λ id. refl) ∙ sound in
      let moved = move-items (carried_id c) (λ h. Unit {0}) false old_renamed (behind_steps base steps) next
      (first + length steps) (map (renamed_item number) items) news shifted
      (renamed-numbered old_variable items (numbered_from next) next refl are) (renamed-moved items) all-there again in (
        derived-append base steps news ready.derived moved.0,
        ends-behind false steps news moved.1,
        steps-append is_variable first steps news ready.allowed
            (subst (λ m. AreSteps is_variable m news) (omega arith)
            (lines-allowed old_variable items (numbered_from next) 0 (omega arith) on are)),
      )
