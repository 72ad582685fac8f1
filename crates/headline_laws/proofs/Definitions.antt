-- Definitions that are right to the reader are right on the page.
use Rattle.std.proofs.Common.{◌≡◌, ◌≢◌, ℕ, suc, ◌+◌, ◌<◌, ◌==◌, inl, inr, Bool, true, false, cond, List, [], ◌∷◌, length, map, codes, drop, Option, Some, Result, Ok, Err, refl, sym, ◌∙◌, ap, subst, arith}
use Rattle.std.specs.List.{AllByRecursion, AllPairs, AllZip, Contains, find, position_or_len}
use Rattle.std.proofs.lemmas.Bool.{eqb-false, eqb-true}
use Rattle.std.proofs.lemmas.List.{length-map}
use Rattle.std.proofs.lemmas.List.Elements.{All-contains_itself, All-weaker, recursion_from_All}
use Rattle.std.proofs.lemmas.List.Recursion.{is_position_or_len}
use Rattle.list_laws.proofs.Members.{contains_cases, contains_first, contains_later, contains_map}
use Rattle.list_laws.proofs.Options.{some_same}
use Rattle.dq_lits.specs.Formula.{Dqbf, existential_of}
use Rattle.dq_lits.specs.Formula.{Existential as ReadExistential}
use Rattle.dq_lits.proofs.Followers.{find_own}
use Rattle.dq_formula.specs.Prefix.{existential_variables}
use Rattle.definition_order.specs.Order.{IsShared, RanksBefore}
use Rattle.cert_text.specs.AllowedDefinitions.{AreBlocksOf, IsDefinitionOf}
use Rattle.cert_text.specs.DefinitionBlocks.{Definition, DefinitionBlock, FreePair, defined, free}
use Rattle.cert_text.specs.Kind.{certificate_kind}
use Rattle.cert_text.specs.declared.faults.CertRefusal.{CertRefusal}
use Rattle.cert_text.specs.declared.kinds.Kind.{Kind}
use Rattle.cert_text.specs.declared.kinds.Kind.TheVariants.{Circuit as CircuitText, BinaryCircuit as BinaryText, Refutation, Definitions}
use Rattle.cert_text.proofs.SpelledKinds.{kind_spelled}
use Rattle.defined_checker.specs.DefinitionReads.{MayDefine}
use Rattle.defined_checker.specs.Forced.{AreRight, IsForced, IsRight, definition_value}
use Rattle.defined_checker.specs.Judging.{counts_of, no_counts}
use Rattle.defined_checker.specs.declared.checks.DefinedCounts.{DefinedCounts}
use Rattle.cert_judge.specs.Judgement.{HoldsRightDefinitions, SpellsBlocks}
use Rattle.headline.specs.Headline.{AreDefined, Existential, Formula, HoldsDefinition, IsDefined, MayRead, Spells, existentials_of, gate_row, natural, standing_before, up_to, word, words}
use Rattle.headline_laws.specs.Formulas.{IsOnPage, read_existential}
use Rattle.headline_laws.proofs.Circuits.{page_gate}
use Rattle.headline_laws.proofs.DefinitionBlocks.{HasBlock, HaveBlocks, blocks_there, definition_circuit, definition_is_circuit, value_is}

-- ---- places

-- where a variable's existential stands
abbrev place : ℕ → List ReadExistential → ℕ
place v [] = 0
place v (y ∷ ys) = cond (y.variable == v) 0 (1 + place v ys)

place_is : (v : ℕ) (ys : List ReadExistential) →
    place v ys ≡ position_or_len (λ (y : ReadExistential). y.variable == v) ys
place_is v ys = is_position_or_len (place v) (λ (y : ReadExistential). y.variable == v) refl (λ y rest. refl) ys

abbrev named : ℕ → List Existential → Option ReadExistential
named v zs = find (λ (u : ReadExistential). u.variable == v) (map read_existential zs)

abbrev page_existential : ReadExistential → Existential
page_existential y = record { variable = y.variable; sees = y.sees }

same_existential : (x z : Existential) → read_existential x ≡ read_existential z → x ≡ z
same_existential x z is = ap page_existential is

-- what is found by its variable
record IsThere (zs : List Existential) (v : ℕ) (w : ReadExistential) : Type 0 where
  pub z : Existential
  pub there : Contains zs z
  pub is : read_existential z ≡ w
  pub has : z.variable ≡ v

found_there : (zs : List Existential) (v : ℕ) (w : ReadExistential) → named v zs ≡ Some w → IsThere zs v w
found_there [] v w found = cc
found_there (z ∷ zs) v w found =
    search (arith, (found_there zs v w), contains_first, some_same, eqb-true, contains_later)

-- one that has a lower place stands before
stands : (y z : Existential) (zs : List Existential) → named z.variable zs ≡ Some (read_existential z) →
    place z.variable (map read_existential zs) < place y.variable (map read_existential zs) →
    Contains (standing_before y zs) z
stands y z [] found less = absurd (omega (arith, less))
stands y z (x ∷ zs) found less =
    by (x.variable == y.variable) (x.variable == z.variable) (stands y z zs) found less
  where
    by : (b c : Bool) → (named z.variable zs ≡ Some (read_existential z) →
        place z.variable (map read_existential zs) < place y.variable (map read_existential zs) →
        Contains (standing_before y zs) z) →
        cond c (Some (read_existential x)) (named z.variable zs) ≡ Some (read_existential z) →
        cond c 0 (1 + place z.variable (map read_existential zs)) < cond b 0 (1 + place y.variable (map read_existential zs)) →
        Contains (cond b [] (x ∷ standing_before y zs)) z
    by true c later found less = absurd (omega (arith, less))
    by false true later found less =
        let same = same_existential x z (some_same (read_existential x) (read_existential z) found) in
        subst (Contains (x ∷ standing_before y zs)) same (contains_first x (standing_before y zs))
    by false false later found less = contains_later x z (standing_before y zs) (later found (omega (arith, less)))

none_there : (z : Existential) → Contains [] z → ⊥
none_there z there = let below = there.1 in omega (arith, below)

-- and one that stands before has a lower place
earlier : (y z : Existential) (zs : List Existential) → Contains (standing_before y zs) z →
    place z.variable (map read_existential zs) < place y.variable (map read_existential zs)
earlier y z [] there = absurd (none_there z there)
earlier y z (x ∷ zs) there =
    by (x.variable == y.variable) (x.variable == z.variable) refl (earlier y z zs) there
  where
    by : (b c : Bool) → (x.variable == z.variable) ≡ c → (Contains (standing_before y zs) z →
        place z.variable (map read_existential zs) < place y.variable (map read_existential zs)) →
        Contains (cond b [] (x ∷ standing_before y zs)) z →
        cond c 0 (1 + place z.variable (map read_existential zs)) < cond b 0 (1 + place y.variable (map read_existential zs))
    by true c is later there = absurd (none_there z there)
    by false true is later there = omega arith
    by false false other later there = elim (contains_cases x z (standing_before y zs) there) [
      | inl same ↦ absurd (eqb-false x.variable z.variable other (ap (λ (e : Existential). e.variable) same))
      | inr more ↦ let less = later more in omega (arith, less)
    ]

standing_there : (y z : Existential) (zs : List Existential) → Contains (standing_before y zs) z → Contains zs z
standing_there y z [] there = there
standing_there y z (x ∷ zs) there =
    search (arith, (standing_there y z zs), none_there, contains_cases, contains_first, contains_later)

-- no ranks are told
by_place : (p q : ℕ) → RanksBefore [] p q → p < q
by_place p q (inl less) = absurd (omega (arith, less))
by_place p q (inr both) = both.1

-- ---- counts

abbrev defined_count : List DefinitionBlock → ℕ
defined_count [] = 0
defined_count (defined d ∷ blocks) = suc (defined_count blocks)
defined_count (free p ∷ blocks) = defined_count blocks

abbrev free_count : List DefinitionBlock → ℕ
free_count [] = 0
free_count (defined d ∷ blocks) = free_count blocks
free_count (free p ∷ blocks) = suc (free_count blocks)

counts_are : (blocks : List DefinitionBlock) (c : DefinedCounts) →
    ((counts_of c blocks).defined ≡ c.defined + defined_count blocks)
    × ((counts_of c blocks).free ≡ c.free + free_count blocks)
counts_are [] c = (omega arith, omega arith)
counts_are (defined d ∷ blocks) c = search (arith, (counts_are blocks))
counts_are (free p ∷ blocks) c = search (arith, (counts_are blocks))

variables_same : (zs : List Existential) →
    map (λ (w : ReadExistential). w.variable) (map read_existential zs) ≡ map (λ (z : Existential). z.variable) zs
variables_same [] = refl
variables_same (z ∷ zs) = ap (λ vs. z.variable ∷ vs) (variables_same zs)

-- ---- what definitions say

module _ (text : List ℕ) (read : Dqbf) (f : Formula) (on : IsOnPage text read f)
    (once : AllPairs (λ v w. v ≢ w) (map (λ (w : ReadExistential). w.variable) read.existentials)) where
  abbrev all : List Existential
  all = existentials_of f

  abbrev IsKnown : Existential → Type 0
  IsKnown z = existential_of read z.variable ≡ Some (read_existential z)

  known : (z : Existential) → Contains all z → IsKnown z
  known z there =
      let mapped = subst (λ rs. Contains rs (read_existential z)) on.existentials (contains_map read_existential all z there) in
      subst (λ (w : ReadExistential). find (λ (u : ReadExistential). u.variable == w.variable) read.existentials ≡ Some w)
      mapped.2 (find_own read.existentials mapped.0 (read_existential z) mapped.1 once)

  named_there : (v : ℕ) (w : ReadExistential) → existential_of read v ≡ Some w → named v all ≡ Some w
  named_there v w found = search arith

  place_there : (v : ℕ) →
      position_or_len (λ (u : ReadExistential). u.variable == v) read.existentials ≡ place v (map read_existential all)
  place_there v = ap (position_or_len (λ (u : ReadExistential). u.variable == v)) (sym on.existentials)
      ∙ sym (place_is v (map read_existential all))

  to_page : (y : Existential) (v : ℕ) → MayDefine read (read_existential y) v → MayRead f y v
  to_page y v (inl seen) = inl seen
  to_page y v (inr (w, found, shared)) =
      let one = found_there all v w (named_there v w found) in
      let s = subst (IsShared read [] (read_existential y)) (sym one.is) shared in
      inr (
        one.z,
        one.has,
        s.sees_no_more,
        elim s.before [
          | inl fewer ↦ inl (one.there, fewer)
          | inr both ↦ inr (standing one.z one.there (by_place _ _ both.1), both.0)
        ],
      )
    where
      standing : (z : Existential) → Contains all z →
          position_or_len (λ (u : ReadExistential). u.variable == z.variable) read.existentials
          < position_or_len (λ (u : ReadExistential). u.variable == y.variable) read.existentials →
          Contains (standing_before y all) z
      standing z there less =
          let here = place_there z.variable in
          let behind = place_there y.variable in
          stands y z all (named_there z.variable (read_existential z) (known z there)) (omega (arith, less, here, behind))

  to_reader : (y : Existential) (v : ℕ) → MayRead f y v → MayDefine read (read_existential y) v
  to_reader y v (inl seen) = inl seen
  to_reader y v (inr (z, has, sees, inl (there, fewer))) = inr (
    read_existential z,
    subst (λ u. existential_of read u ≡ Some (read_existential z)) has (known z there),
    record { before = inl fewer; sees_no_more = sees },
  )
  to_reader y v (inr (z, has, sees, inr (standing, same))) =
      let less = earlier y z all standing in
      let here = place_there z.variable in
      let behind = place_there y.variable in
      inr (
        read_existential z,
        subst (λ u. existential_of read u ≡ Some (read_existential z)) has (known z (standing_there y z all standing)),
        record { before = inr (same, inr (refl, omega (arith, less, here, behind))); sees_no_more = sees },
      )

  is_defined : (y : Existential) (d : Definition) → IsKnown y → d.existential ≡ y.variable → IsForced read d → IsDefined f y
  is_defined y d known_y same forced = record {
    value = definition_value d;
    reads = λ m n alike. forced.depends (read_existential y) (ap (existential_of read) same ∙ known_y) m n
        (λ v may. alike v (to_page y v may));
    is = λ m holds. ap m (sym same) ∙ forced.value m (on.holds_there m holds);
  }

  is_free : (y : Existential) (p : FreePair) → IsKnown y → p.existential ≡ y.variable → IsRight read (free p) →
      IsDefined f y → ⊥
  is_free y p known_y same right x =
      right (read_existential y) (ap (existential_of read) same ∙ known_y) x.value
      (λ m n alike. x.reads m n (λ v may. alike v (to_reader y v may)))
      (λ m holds. ap m same ∙ x.is m (on.holds m holds))

  -- where the certificate has the definition's lines
  held : (certificate : List ℕ) (y : Existential) (d : Definition) → IsKnown y → d.existential ≡ y.variable → IsDefinitionOf read d →
      IsForced read d → HasBlock certificate d → HoldsDefinition f certificate y
  unfolding is_defined
  held certificate y d known_y same own forced has = record {
    c = definition_circuit read.variables d;
    output = d.output;
    steps = length d.steps;
    before = has.before;
    block = has.block;
    behind = has.behind;
    lines_are = has.lines_are;
    block_is = block_spelled;
    circuit = definition_is_circuit read d own;
    ends = (ap up_to (sym on.variables), refl);
    defined = is_defined y d known_y same forced;
    value = λ m bits fits. value_is read d m bits own fits;
  }
    where
      block_spelled : AllZip (λ line row. AllZip Spells (words line) row) has.block
          ((word (codes "t") ∷ map natural (y.variable ∷ d.output ∷ length (map page_gate d.gates) ∷ length d.steps ∷ []))
          ∷ map gate_row (map page_gate d.gates))
      block_spelled = search (arith, codes, length-map)

  each : (certificate : List ℕ) (zs : List Existential) (blocks : List DefinitionBlock) → AllByRecursion IsKnown zs →
      AreBlocksOf read (map (λ (z : Existential). z.variable) zs) blocks → AreRight read blocks → HaveBlocks certificate blocks →
      AreDefined f certificate zs (defined_count blocks) (free_count blocks)
  each certificate [] [] known are right there = (refl, refl)
  each certificate [] (block ∷ blocks) known are right there = absurd are
  each certificate (z ∷ zs) [] known are right there = absurd are
  each certificate (z ∷ zs) (defined d ∷ blocks) known are right there = inl (
    held certificate z d known.0 are.0.0 are.0.1 right.0 there.0,
    (defined_count blocks, refl, each certificate zs blocks known.1 are.1 right.1 there.1),
  )
  each certificate (z ∷ zs) (free p ∷ blocks) known are right there = inr (
    is_free z p known.0 are.0.0 right.0,
    (free_count blocks, refl, each certificate zs blocks known.1 are.1 right.1 there),
  )

  blocks_defined : (certificate : List ℕ) (blocks : List DefinitionBlock) (counts : DefinedCounts) →
      AreBlocksOf read (existential_variables read) blocks → AreRight read blocks → counts ≡ counts_of no_counts blocks →
      HaveBlocks certificate blocks → AreDefined f certificate all counts.defined counts.free
  blocks_defined certificate blocks counts are right counted_so there =
      let own = ap (map (λ (w : ReadExistential). w.variable)) (sym on.existentials) ∙ variables_same all in
      let said = each certificate all blocks
      (recursion_from_All IsKnown all (All-weaker (Contains all) IsKnown known all (All-contains_itself all)))
      (subst (λ vs. AreBlocksOf read vs blocks) own are) right there in
      let sums = counts_are blocks no_counts in
      let d : defined_count blocks ≡ counts.defined =
      (let whole = sums.0 in let e = ap (λ (c : DefinedCounts). c.defined) counted_so in omega (arith, whole, e)) in
      let r : free_count blocks ≡ counts.free =
      (let whole = sums.1 in let e = ap (λ (c : DefinedCounts). c.free) counted_so in omega (arith, whole, e)) in
      subst (λ n. AreDefined f certificate all n counts.free) d (subst (λ n. AreDefined f certificate all (defined_count blocks) n) r said)

  -- no verdict stands before definitions
  begun_at : (certificate : List ℕ) (at h : ℕ) → certificate_kind certificate ≡ Ok (Definitions at h) → drop at certificate ≡ certificate
  begun_at certificate at h is = search (arith, kind_spelled)

  by_kind : (certificate : List ℕ) (counts : DefinedCounts) (kind : Result Kind CertRefusal) → certificate_kind certificate ≡ kind →
      (blocks : List DefinitionBlock) →
      SpellsBlocks read certificate kind blocks → AreRight read blocks → counts ≡ counts_of no_counts blocks →
      AreDefined f certificate all counts.defined counts.free
  by_kind certificate counts (Ok (Definitions at h)) is blocks s right counted_so =
      blocks_defined certificate blocks counts s.allowed right counted_so
      (subst (λ text. HaveBlocks text blocks) (begun_at certificate at h is) (blocks_there (drop at certificate) read blocks s))
  by_kind certificate counts (Ok (CircuitText at h)) is blocks s right counted_so = absurd s
  by_kind certificate counts (Ok (BinaryText at h)) is blocks s right counted_so = absurd s
  by_kind certificate counts (Ok (Refutation at h)) is blocks s right counted_so = absurd s
  by_kind certificate counts (Err refusal) is blocks s right counted_so = absurd s

  pub held_definitions : (certificate : List ℕ) (counts : DefinedCounts) → HoldsRightDefinitions read certificate counts →
      AreDefined f certificate all counts.defined counts.free
  held_definitions certificate counts h =
      by_kind certificate counts (certificate_kind certificate) refl h.blocks h.spelled h.right h.counted
