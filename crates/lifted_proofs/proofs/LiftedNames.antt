-- How a lifting's ids are named.
use Rattle.std.proofs.Common.{◌≡◌, ℕ, zero, suc, ◌+◌, ◌*◌, ◌<◌, ◌≤◌, nat_le, ◌&&◌, Bool, true, false, List, [], ◌∷◌, ◌++◌, take, length, get_or, Option, Some, None, slice_get, refl, sym, ◌∙◌, ap, subst, arith, length-append}
use Rattle.std.specs.Prelude.{slice_index}
use Rattle.std.specs.List.{All, Contains, sum_by}
use Rattle.std.proofs.lemmas.Bool.{true≢false, le-leb}
use Rattle.std.proofs.lemmas.Option.{slice_get-get_or, slice_get_within, same_Some}
use Rattle.std.proofs.lemmas.List.{append-nil, get_or_default, length-map, take_all, take_more}
use Rattle.dq_lits.specs.Literal.{Literal, positive, negative, variable_of, same_literal}
use Rattle.dq_lits.specs.Formula.{Dqbf}
use Rattle.dq_lits.specs.Derivation.{LiveClauses, holds}
use Rattle.dq_lits.proofs.Truth.{same_literal-sound}
use Rattle.dq_lits.proofs.SignedLiterals.{same_literal-refl}
use Rattle.dq_lits.proofs.HeldLiterals.{held-at}
use Rattle.dq_formula.specs.Prefix.{existential_variables}
use Rattle.cert_text.specs.CircuitProof.{first_proof_id, is_proof_variable}
use Rattle.cert_text.specs.Grammar.{IsStep}
use Rattle.cert_text.specs.NegatedMatrix.{falsity_clauses, opposite_of, as_literal}
use Rattle.circuit_plain.specs.Netlist.{Netlist}
use Rattle.dq_prep.specs.Units.{taken_literals}
use Rattle.skolem_checker.specs.Checks.{Candidate}
use Rattle.skolem_checker.specs.Mapping.{Mapping}
use Rattle.skolem_checker.specs.Tables.{IsMapping}
use Rattle.proof_checker.specs.CircuitProof.{circuit_literal}
use Rattle.lifted_proofs.specs.Goals.{clause_at}
use Rattle.lifted_proofs.specs.KeptPlaces.{dropped_places}
use Rattle.lifted_proofs.specs.Liftables.{falsity, left_falsities, lifted_base, lifted_literal, weaker_line}
use Rattle.lifted_proofs.specs.Liftings.{IsLifting, HasOutput, IsSettledFrom, IsNameable, AreNamedIn, AreFirstNamed, IsNaming, AreTrueIds, formula_of, units_of, left_at, place_at, IsNextLeft, IsNamedBy, NamesMore}
use Rattle.lifted_proofs.specs.Lines.{behind_steps}
use Rattle.lifted_proofs.specs.NamedIds.{IsTrueBy}
use Rattle.lifted_proofs.specs.UnitTables.{first_literals, IsUnitTable}
use Rattle.lifted_proofs.specs.declared.liftings.Lifting.{Lifting}
use Rattle.lifted_proofs.specs.declared.names.Named.{Named}
use Rattle.lifted_proofs.specs.declared.units.UnitTable.{UnitTable}
use Rattle.lifted_proofs.proofs.KeptSources.{all-literals}
use Rattle.lifted_proofs.proofs.LiftedClauses.{base-true, base-names, weaker-names}
use Rattle.lifted_proofs.proofs.NamedClauses.{IsLeftAt, left-place, gone-place, falsities-more, falsity-more, part-found, part-passed, part-whole}
use Rattle.lifted_proofs.proofs.NamedIds.{behind-same, name-more, line-more, line-clause, weaker-derived, two-plain}
use Rattle.lifted_proofs.proofs.NegatedIds.{literal-fits, opposite-fits, free-variable}
use Rattle.lifted_proofs.proofs.PairedLiterals.{existential-range}
use Rattle.lifted_proofs.proofs.SettledOutputs.{unit-output, literal-in-range}
use Rattle.std.proofs.lemmas.List.Elements.{All-nil, All-cons, AllZip-push}

-- ---- places

pub kept-place : (l : Lifting) (j : ℕ) → IsLifting l → j < length l.kept.items
    → IsLeftAt (formula_of l) (units_of l) l.bench.now j (slice_index l.kept.items j)
kept-place l j it below = search (arith, left-place)

-- by a value that stands there
pub kept-in : (l : Lifting) (j x : ℕ) → IsLifting l → j < length l.kept.items → x ≡ get_or l.kept.items j x
    → (x ≡ slice_index l.kept.items j) × (x < length (formula_of l).matrix)
kept-in l j x it below is = search (arith, (get_or_default l.kept.items j x 0 below), (kept-place l j it below))

pub left-in : (l : Lifting) (j : ℕ) → IsLifting l → j < length l.kept.items → j < length l.bench.now.formula.matrix
left-in l j it below = (kept-place l j it below).left_within

-- outputs stand for existentials
pub output-range : (t : UnitTable) (net : Netlist) (mapping : Mapping) (outs : List ℕ) (i : ℕ) → IsUnitTable t
    → IsMapping t.formula.now net mapping → outs ≡ mapping.outputs → i < length net.outputs
    → (1 ≤ get_or outs i 0) × (get_or outs i 0 < 4611686018427387904)
output-range t net mapping outs i right mapped is below =
    let f = t.formula.now in
    let all-long = length-map f.existentials (λ y. y.variable) in
    let long : length mapping.outputs ≡ length (existential_variables f) = mapped.outputs.same_length in
    let sized : length outs ≡ length mapping.outputs = ap (λ (xs : List ℕ). length xs) is in
    let all : All (Contains (existential_variables f)) outs =
    subst (All (Contains (existential_variables f))) (sym is) mapped.outputs.declared_alone in
    let range = existential-range f (get_or outs i 0) right.well
    (all i 0 (omega (arith, below, sized, long, all-long, mapped.outputs_length))) in
    (range.0, omega (arith, range.1, right.lawful.few_variables))

pub outputs-enough : (t : UnitTable) (net : Netlist) (mapping : Mapping) (i : ℕ)
    → IsMapping t.formula.now net mapping → i < length net.outputs → i < length mapping.outputs
outputs-enough t net mapping i mapped below = search (arith, length-map)

pub taken-output : (l : Lifting) (literal : Literal) (b : Bool) → IsLifting l
    → b ≡ holds (first_literals l.table.now.units.now (length l.table.now.units.now)) literal → b ≡ true
    → HasOutput l.bench.now (variable_of literal)
taken-output l literal b it is taken =
    unit-output (formula_of l) (units_of l) l.bench.now literal it.can.well it.can.units_are it.can.mapped
    (ap (λ ls. holds ls literal) (sym (all-literals l.table.now.units.now)) ∙ sym is ∙ taken)

-- ---- names

module _ (l : Lifting) (it : IsLifting l) where
  abbrev f : Dqbf
  f = formula_of l

  abbrev c : Candidate
  c = l.bench.now

  abbrev first : ℕ
  first = first_proof_id (formula_of l) l.bench.now.circuit.netlist

  abbrev variable : ℕ → Bool
  variable = is_proof_variable (formula_of l) l.bench.now.circuit.netlist

  abbrev base : LiveClauses
  base = lifted_base (formula_of l) (units_of l) l.bench.now

  abbrev to : Literal → Literal
  to = lifted_literal (formula_of l) (units_of l) l.bench.now

  -- the id is the formula's own
  pub name-known : (j : ℕ) (literal : Literal) (id : ℕ) (old new : Named) → IsNameable l j literal id
      → IsSettledFrom l literal None → new ≡ record old { ids = new.ids } → new.ids.items ≡ old.ids.items ++ id ∷ []
      → NamesMore l j literal old new
  name-known j literal id old new n kind same more falsities named =
      let steps = old.steps in
      rw (ap (λ w. w.steps) same, more)
      (name-more variable first to base falsities old.ids.items steps
      (falsity (circuit_literal c.circuit) (c.circuit.netlist.max_var + 1 + j) literal) id named (record {
        from_one = omega (arith, n.is.is);
        before = omega (arith, n.before);
        names = λ clause is.
            behind-same base variable first steps id named.allowed n.before
            ∙ base-names f (units_of l) c it.can j n.place literal id clause n.at n.is n.none_false kind is;
      }))

  -- or that of a line
  pub name-weak : (j : ℕ) (literal : Literal) (id was : ℕ) (old new : Named) → j < length l.kept.items
      → IsNameable l j literal id → IsSettledFrom l literal (Some was) → IsNamedBy l j was id old new
      → NamesMore l j literal old new
  name-weak j literal id was old new below n kind by-line falsities named =
      let left = kept-place l j it below in
      let at = left.place_at in
      let place = slice_index l.kept.items j in
      let ids = old.ids.items in
      let steps = old.steps in
      let largest = c.circuit.netlist.max_var in
      let line = weaker_line f c place was id steps in
      let other = as_literal (opposite_of was) in
      let fits : was ≤ 2 * largest + 1 =
      subst (λ x. x ≤ 2 * largest + 1) (sym kind.0) (literal-in-range c.circuit literal it.can.lawful) in
      let low : variable_of other ≤ largest =
      literal-fits (opposite_of was) largest (opposite-fits was largest fits) in
      let free : 1 ≤ variable_of other = free-variable was kind.1 in
      let own : n.place ≡ place = same-place n.at at in
      let hinted : base id ≡ Some (negative (largest + 1 + place) ∷ []) =
      base-true f (units_of l) c it.can n.place literal id n.is kind.2
      ∙ ap (λ p. Some (negative (largest + 1 + p) ∷ [])) own in
      let step : IsStep variable (first + length steps) line = search (arith, two-all, All-cons, All-nil) in
      let plain = two-plain (negative (largest + 1 + place)) other (λ same. absurd (omega (arith, same, low))) in
      let more = line-more variable first to base falsities ids steps line named step
      (weaker-derived (behind_steps base steps) (negative (largest + 1 + place)) other id
      (behind-same base variable first steps id named.allowed n.before ∙ hinted) plain) in
      rw (by-line.steps, by-line.ids, it.base.first)
      (name-more variable first to base falsities ids (steps ++ line ∷ [])
      (falsity (circuit_literal c.circuit) (largest + 1 + j) literal) (first + length steps) more (record {
        from_one = omega arith;
        before = omega (arith, length-append steps (line ∷ []));
        names = λ clause is.
            line-clause variable first to base steps line
            ∙ ap Some (weaker-names f (units_of l) c it.can j place literal was clause at kind.0 kind.1 is);
      }))
    where
      same-place : {o : Option ℕ} {a b : ℕ} → o ≡ Some a → o ≡ Some b → a ≡ b
      same-place {o} {a} {b} p q = same_Some a b (sym p ∙ q)

      up : (variables v : ℕ) → 1 ≤ v → v ≤ variables → (nat_le 1 v && nat_le v variables) ≡ true
      up variables v low high = ap (λ b. b && nat_le v variables) (le-leb 1 v low) ∙ le-leb v variables high

      two-all : {X : Type 0} (P : X → Type 0) (x y : X) → P x → P y → All P (x ∷ y ∷ [])
      two-all P x y a b zero d below = a
      two-all P x y a b (suc zero) d below = b
      two-all P x y a b (suc (suc k)) d below = absurd (omega (arith, below))

  -- a literal that is left has an id
  pub nameable : (j q id : ℕ) (found : ℕ) (literal : Literal) → j < length l.kept.items
      → slice_get (left_at l j) found ≡ Some literal
      → slice_get (clause_at (formula_of l) (slice_index l.kept.items j)) q ≡ Some literal
      → id ≡ 3 * length l.bench.now.circuit.netlist.gates
      + (sum_by length (take (slice_index l.kept.items j) (formula_of l).matrix) + q) + 1
      → id < l.base.first → IsNameable l j literal id
  nameable j q id found literal below at-left at is before = search (arith, kept-place, held-at)

  pub naming-passed : (j found q : ℕ) (w : Named) (literal : Literal) (b : Bool) → IsNaming l j found q w
      → slice_get (clause_at (formula_of l) (place_at l j)) q ≡ Some literal → IsNextLeft l j found literal b
      → b ≡ false → IsNaming l j found (q + 1) w
  naming-passed j found q w literal true n at next no-is = absurd (true≢false no-is)
  naming-passed j found q w literal false n at apart no-is = search (arith, part-passed)

  pub next-left : (j found : ℕ) (literal : Literal) (b : Bool) → IsNextLeft l j found literal b → b ≡ true
      → slice_get (left_at l j) found ≡ Some literal
  next-left j found literal true at yes-is = at
  next-left j found literal false at yes-is = absurd (true≢false (sym yes-is))

  pub naming-found : (j found q : ℕ) (old new : Named) (literal : Literal) → IsNaming l j found q old
      → slice_get (left_at l j) found ≡ Some literal
      → slice_get (clause_at (formula_of l) (place_at l j)) q ≡ Some literal → NamesMore l j literal old new
      → IsNaming l j (found + 1) (q + 1) new
  naming-found j found q old new literal n at-left at more =
      search (arith, falsity-more, part-found, slice_get_within)

  pub naming-begun : (j : ℕ) (w : Named) → j < length l.kept.items → AreFirstNamed l j w → IsNaming l j 0 0 w
  naming-begun j w below named = search (arith, append-nil, kept-place)

  pub naming-done : (j found q : ℕ) (w : Named) → j < length l.kept.items → IsNaming l j found q w
      → length (clause_at (formula_of l) (place_at l j)) ≤ q → AreFirstNamed l (j + 1) w
  naming-done j found q w below n past =
      let left = left_at l j in
      let whole = part-whole left (clause_at f (place_at l j)) found q n.rest past in
      let all : take found left ≡ left = take_all found left whole in
      let lit = circuit_literal c.circuit in
      let bad = c.circuit.netlist.max_var + 1 + j in
      let front = left_falsities c (take j c.formula.matrix) in
      subst (λ fs. AreNamedIn l fs w)
      (ap (λ ls. front ++ falsity_clauses lit bad ls) all
      ∙ sym (falsities-more c j left (left-in l j it below) refl)) n.named

  -- ---- true literals

  pub true-more : (dropped : List ℕ) (k id place : ℕ) (ids new : List ℕ)
      → dropped ≡ dropped_places (formula_of l) (units_of l) → k < length dropped
      → place < length (clause_at (formula_of l) (slice_index dropped k))
      → ((literal : Literal) → slice_get (clause_at (formula_of l) (slice_index dropped k)) place ≡ Some literal
      → holds (taken_literals (units_of l)) literal ≡ true)
      → id ≡ 3 * length l.bench.now.circuit.netlist.gates
      + (sum_by length (take (slice_index dropped k) (formula_of l).matrix) + place) + 1
      → id < l.base.first → AreTrueIds l (take k dropped) ids → new ≡ ids ++ id ∷ []
      → AreTrueIds l (take (k + 1) dropped) new
  true-more dropped k id place ids new is below within held id-is before all more =
      let p = slice_index dropped k in
      let gone = gone-place f (units_of l) dropped k is below in
      let clause = clause_at f p in
      let literal = get_or clause place (positive 0) in
      let at : slice_get clause place ≡ Some literal = slice_get-get_or clause place (positive 0) within in
      let clause-is : slice_get f.matrix p ≡ Some clause = slice_get-get_or f.matrix p [] gone.within in
      let own : IsTrueBy base (c.circuit.netlist.max_var + 1) first p id = record {
        from_one = omega (arith, id-is);
        before = omega (arith, before, it.base.first);
        is = base-true f (units_of l) c it.can p literal id
            (record { clause = clause; clause_at = clause-is; place = place; at = at; is = id-is }) (held literal at);
      } in
      subst (λ ps. AreTrueIds l ps new) (sym (take_more dropped k 0 below))
      (subst (AreTrueIds l (take k dropped ++ p ∷ [])) (sym more)
      (AllZip-push (IsTrueBy base (c.circuit.netlist.max_var + 1) first) (take k dropped) ids p id all own))

-- whether a literal that is read is the next one that is left
pub next-by : (l : Lifting) (j found : ℕ) (k literal : Literal) (b : Bool) → found < length (left_at l j)
    → k ≡ get_or (left_at l j) found k → b ≡ same_literal k literal → IsNextLeft l j found literal b
next-by l j found k literal true within at same = search (arith, slice_get-get_or, same_literal-sound)
next-by l j found k literal false within at other = search (arith, slice_get-get_or, true≢false, same_literal-refl)

pub none-next : (l : Lifting) (j found : ℕ) (literal : Literal) → length (left_at l j) ≤ found
    → IsNextLeft l j found literal false
none-next l j found literal past = λ m there. absurd (omega (arith, past, slice_get_within (left_at l j) found m there))
