-- A circuit's proof, lifted as a whole.
use Rattle.std.proofs.Common.{◌≡◌, ℕ, suc, ◌+◌, ◌-◌, ◌*◌, ◌<◌, ◌≤◌, nat_le, ◌&&◌, Bool, true, false, inl, inr, List, [], ◌∷◌, ◌++◌, map, length, get_or, Some, None, slice_get, refl, sym, ◌∙◌, ap, subst, arith, length-append, is_some}
use Rattle.std.specs.List.{All, AllZip, sum_by, range_with_len}
use Rattle.std.proofs.lemmas.Bool.{and_parts, leb-true, le-leb, cases_lt, cases_Bool, true≢false}
use Rattle.std.proofs.lemmas.Option.{slice_get_within, slice_get-get_or}
use Rattle.std.proofs.lemmas.List.Elements.{All-cons, All-push}
use Rattle.dq_lits.specs.Literal.{Literal, positive, variable_of}
use Rattle.dq_lits.specs.Formula.{Dqbf}
use Rattle.dq_lits.specs.Derivation.{LiveClauses, IsDerived, ProofStep}
use Rattle.rup_core.specs.Items.{ProofItem, derived, items_fault}
use Rattle.cert_text.specs.CircuitProof.{first_proof_id, is_proof_variable}
use Rattle.cert_text.specs.Grammar.{AreSteps, AreItems, IsStep}
use Rattle.cert_text.specs.Numbering.{numbered_from}
use Rattle.cert_text.proofs.NegatedClauses.{falsity_counted}
use Rattle.dq_prep.specs.declared.traces.Taken.{Taken}
use Rattle.skolem_checker.specs.Checks.{Candidate}
use Rattle.proof_checker.specs.CircuitProof.{negated_candidate}
use Rattle.lifted_proofs.specs.Carried.{lines_of}
use Rattle.lifted_proofs.specs.CarriedProofs.{Carrying, carried_variable, carried_literal, carried_id, carried_line}
use Rattle.lifted_proofs.specs.KeptPlaces.{kept_places, dropped_places, kept_at}
use Rattle.lifted_proofs.specs.Liftables.{IsLiftable, lifted_base, lifted_literal, left_falsities, AreLiftedNames, is_false, some_false_line, carrying_of}
use Rattle.lifted_proofs.specs.Lines.{behind_steps}
use Rattle.lifted_proofs.specs.NamedIds.{IsTrueBy}
use Rattle.lifted_proofs.proofs.CarriedLines.{items-derived}
use Rattle.lifted_proofs.proofs.CarriedProofs.{CanCarryLines, all-carried, carried-circuit, carried-clause, carried-once, id-gate, id-literal, id-line}
use Rattle.lifted_proofs.proofs.KeptPlaces.{as-many, place-in, places-distinct, place-there}
use Rattle.lifted_proofs.proofs.LiftedClauses.{base-last, gate-there, literal-there, last-there, none-behind, last-carried}
use Rattle.lifted_proofs.proofs.NamedIds.{behind-same, line-more, line-clause}
use Rattle.lifted_proofs.proofs.SomeFalse.{some-false}

zip-weaker : {X Y : Type 0} (P Q : X → Y → Type 0) (xs : List X) (ys : List Y) → ((x : X) (y : Y) → P x y → Q x y)
    → AllZip P xs ys → AllZip Q xs ys
zip-weaker P Q [] [] to all = tt
zip-weaker P Q [] (y ∷ ys) to all = absurd all
zip-weaker P Q (x ∷ xs) [] to all = absurd all
zip-weaker P Q (x ∷ xs) (y ∷ ys) to all = (to x y all.0, zip-weaker P Q xs ys to all.1)

zip-right : {X Y : Type 0} (P : X → Y → Type 0) (Q : Y → Type 0) (xs : List X) (ys : List Y)
    → ((x : X) (y : Y) → P x y → Q y) → AllZip P xs ys → All Q ys
zip-right P Q [] [] to all k d below = absurd (omega (arith, below))
zip-right P Q [] (y ∷ ys) to all k d below = absurd all
zip-right P Q (x ∷ xs) [] to all k d below = absurd all
zip-right P Q (x ∷ xs) (y ∷ ys) to all k d below = search (arith, All-cons, (zip-right P Q xs ys to all.1))

within-up : (variables v : ℕ) → 1 ≤ v → v ≤ variables → (nat_le 1 v && nat_le v variables) ≡ true
within-up variables v low high = search (arith, nat_le, le-leb)

module _ (f : Dqbf) (units : List Taken) (c : Candidate) (can : IsLiftable f units c) (ids hints : List ℕ)
    (steps : List ProofStep) (named : AreLiftedNames f units c (left_falsities c c.formula.matrix) ids steps)
    (gone : AllZip
    (IsTrueBy (lifted_base f units c) (c.circuit.netlist.max_var + 1) (first_proof_id f c.circuit.netlist))
    (dropped_places f units) hints) where
  abbrev first : ℕ
  first = first_proof_id f c.circuit.netlist

  abbrev base : LiveClauses
  base = lifted_base f units c

  abbrev kept : List ℕ
  kept = kept_places f units

  abbrev line : ProofStep
  line = some_false_line f units c hints steps

  abbrev front : List ProofStep
  front = steps ++ line ∷ []

  abbrev carrying : Carrying
  carrying = carrying_of f units c ids steps

  abbrev variable : ℕ → Bool
  variable = is_proof_variable f c.circuit.netlist

  kept-within : (j p : ℕ) → slice_get kept j ≡ Some p → p < length f.matrix
  kept-within j p at = (place-in f units true (length f.matrix) j p at).0

  many-kept : length kept ≡ length c.formula.matrix
  many-kept = as-many f units ∙ sym (ap (λ (g : Dqbf). length g.matrix) can.left)

  place-variables : (ps : List ℕ) → ((j p : ℕ) → slice_get ps j ≡ Some p → p < length f.matrix)
      → All (λ l. variable (variable_of l) ≡ true) (map (is_false (c.circuit.netlist.max_var + 1)) ps)
  place-variables [] within k d below = absurd (omega (arith, below))
  place-variables (p ∷ ps) within k d below =
      All-cons (λ l. variable (variable_of l) ≡ true) (is_false (c.circuit.netlist.max_var + 1) p)
      (map (is_false (c.circuit.netlist.max_var + 1)) ps)
      (within-up (c.circuit.netlist.max_var + length f.matrix) (c.circuit.netlist.max_var + 1 + p) (omega arith)
      (omega (arith, within 0 p refl)))
      (place-variables ps (λ j q at. within (suc j) q at)) k d below

  line-allowed : IsStep variable (first + length steps) line
  line-allowed = record {
    numbered = refl;
    on_variables = place-variables kept kept-within;
    hints_before = All-push (λ h. (1 ≤ h) × (h < first + length steps)) hints (first - 1)
        (zip-right (IsTrueBy base (c.circuit.netlist.max_var + 1) first) (λ h. (1 ≤ h) × (h < first + length steps))
        (dropped_places f units) hints
        (λ p id it. (it.from_one, omega (arith, it.before))) gone)
        (omega arith, omega arith);
  }

  line-derived : IsDerived (behind_steps base steps) line.literals line.hints
  line-derived =
      let live = behind_steps base steps in
      let number = c.circuit.netlist.max_var + 1 in
      some-false live number first (first - 1) (length f.matrix) kept
      (dropped_places f units) hints (places-distinct f units false (length f.matrix))
      (zip-weaker (IsTrueBy base number first) (IsTrueBy live number first) (dropped_places f units) hints
      (λ p id it. record {
        from_one = it.from_one;
        before = it.before;
        is = behind-same base variable first steps id named.allowed it.before ∙ it.is;
      }) gone)
      (λ p below. elim (cases_Bool (is_some (kept_at f units p))) [
        | inl some ↦ inl (place-there f units true (length f.matrix) p below some)
        | inr none ↦ inr (place-there f units false (length f.matrix) p below none)
      ])
      (λ p a b. true≢false (sym (place-in f units true (length f.matrix) a.0 p a.1).1
      ∙ (place-in f units false (length f.matrix) b.0 p b.1).1))
      (behind-same base variable first steps (first - 1) named.allowed (omega arith)
      ∙ base-last f units c can (first - 1) (omega arith))

  front-named : AreLiftedNames f units c (left_falsities c c.formula.matrix) ids front
  front-named = search (arith, line-more, line-allowed, line-derived)

  long : length front ≡ length steps + 1
  long = length-append steps (line ∷ [])

  many-ids : length ids ≡ sum_by length c.formula.matrix
  many-ids = search (arith, falsity_counted)

  there : (h : ℕ) (clause : List Literal) → negated_candidate c h ≡ Some clause
      → (behind_steps base front (carried_id carrying h) ≡ Some (map (carried_literal carrying) clause))
      × (carried_id carrying h < first + length front)
  there h clause at = elim (cases_lt (3 * length c.circuit.netlist.gates) h) [
    | inr low ↦
        let same = id-gate carrying h low in
        let below : h < first = omega (arith, low) in (
          ap (behind_steps base front) same ∙ behind-same base variable first front h front-named.allowed below
              ∙ gate-there f units c can h clause low at,
          omega (arith, same, below),
        )
    | inl high ↦ elim (cases_lt h (3 * length c.circuit.netlist.gates + sum_by length c.formula.matrix + 1)) [
      | inl literal ↦
          let k = h - 3 * length c.circuit.netlist.gates - 1 in
          let is : h ≡ 3 * length c.circuit.netlist.gates + k + 1 = omega (arith, high) in
          let it = literal-there f units c can h k clause is (omega (arith, is, literal)) at in
          let id = get_or ids k 0 in
          let id-at : slice_get ids k ≡ Some id =
          slice_get-get_or ids k 0 (omega (arith, is, literal, many-ids)) in
          let has = front-named.each k id it.0 id-at it.1 in
          let same = id-literal carrying h k id (omega (arith, is)) id-at in (
            ap (behind_steps base front) same ∙ has.names clause it.2,
            omega (arith, same, has.before),
          )
      | inr behind ↦ elim (cases_lt (3 * length c.circuit.netlist.gates + sum_by length c.formula.matrix + 1) h) [
        | inl past ↦ absurd (none-behind f units c can h clause past at)
        | inr last ↦
            let is : h ≡ 3 * length c.circuit.netlist.gates + sum_by length c.formula.matrix + 1 =
            omega (arith, behind, last) in
            let same : carried_id carrying h ≡ first + length steps =
            id-line carrying h 0 (omega (arith, is, many-ids)) ∙ omega arith in
            let clause-is = last-there f units c can h clause is at in (
              ap (behind_steps base front) same ∙ line-clause variable first (lifted_literal f units c) base steps line
                  ∙ ap Some (sym (ap (map (lifted_literal f units c)) (clause-is
                  ∙ ap (λ n. map positive (range_with_len (c.circuit.netlist.max_var + 1) n)) (sym many-kept))
                  ∙ last-carried f units c can)),
              omega (arith, same, long),
            )
      ]
    ]
  ]

  ready : CanCarryLines (negated_candidate c) base carrying variable first (first_proof_id c.formula c.circuit.netlist) front
  ready = record {
    one = carried-once c.circuit.netlist.max_var (length f.matrix) kept (places-distinct f units true (length f.matrix))
        (λ p it. kept-within it.0 p it.1);
    ids = λ k id at.
        let falsities = left_falsities c c.formula.matrix in
        let xs = get_or falsities k [] in
        let has = front-named.each k id xs at (slice_get-get_or falsities k [] (omega (arith, slice_get_within ids k id at, named.many))) in
        (has.from_one, has.before);
    gates = omega arith;
    next_is = omega (arith, many-ids);
    some_false = omega (arith, long);
    some_from_one = omega arith;
    allowed = front-named.allowed;
    derived = front-named.derived;
    there = there;
  }

  on-variables : (v : ℕ) → is_proof_variable c.formula c.circuit.netlist v ≡ true
      → variable (carried_variable c.circuit.netlist.max_var (length f.matrix) kept v) ≡ true
  on-variables v is =
      search (
        arith,
        and_parts,
        nat_le,
        leb-true,
        cases_lt,
        carried-circuit,
        within-up,
        slice_get-get_or,
        many-kept,
        carried-clause,
        kept-within,
      )

  -- all lines
  pub lifted-lines : (items : List ProofItem)
      → AreItems (is_proof_variable c.formula c.circuit.netlist)
      (numbered_from (first_proof_id c.formula c.circuit.netlist)) items
      → items_fault false (negated_candidate c) items ≡ None → (all : List ProofStep)
      → all ≡ (steps ++ some_false_line f units c hints steps ∷ [])
      ++ map (carried_line (carrying_of f units c ids steps)) (lines_of items)
      → (items_fault false (lifted_base f units c) (map derived all) ≡ None)
      × AreSteps (is_proof_variable f c.circuit.netlist) (first_proof_id f c.circuit.netlist) all
  lifted-lines items are sound all all-are =
      let news = map (carried_line carrying) (lines_of items) in
      let it = all-carried (negated_candidate c) base carrying variable first
      (first_proof_id c.formula c.circuit.netlist) front ready (is_proof_variable c.formula c.circuit.netlist) items
      on-variables are sound in (
        ap (λ xs. items_fault false base (map derived xs)) all-are
            ∙ items-derived false base (front ++ news) it.0 it.1,
        subst (AreSteps variable first) (sym all-are) it.2,
      )
