-- A node with the points' bits at the pairs of a dependency set is a candidate.
use Rattle.std.proofs.Common.{◌≡◌, ℕ, suc, ◌+◌, ◌-◌, ◌*◌, ◌<◌, Bool, true, false, not, ◌&&◌, ◌||◌, List, [], ◌∷◌, map, length, get_or, slice_get, slice_index, Some, refl, sym, ◌∙◌, ap, subst, inl, inr, arith}
use Rattle.std.specs.List.{All, Contains, list_any, position_or_len}
use Rattle.std.proofs.lemmas.Bool.{and_parts, cases_lt}
use Rattle.std.proofs.lemmas.List.{get_or_past}
use Rattle.std.proofs.lemmas.List.Elements.{All-contains, All-head, All-tail}
use Rattle.std.proofs.lemmas.Option.{slice_get_within, get_or_from_slice_get}
use Rattle.list_laws.proofs.Members.{mapped_from, all_from_contains, one_mapped, one_passes}
use Rattle.list_laws.proofs.Truths.{both_true}
use Rattle.dq_lits.specs.Literal.{Assignment}
use Rattle.dq_lits.specs.Formula.{Existential, Dqbf}
use Rattle.dq_lits.specs.Henkin.{same_bit, same_bits, restriction}
use Rattle.dq_lits.specs.Row.{bit_of}
use Rattle.dq_lits.specs.Expansion.{row_assignment, pair_number}
use Rattle.dq_formula.specs.declared.rules.Rule.{Rule}
use Rattle.dq_formula.specs.Prefix.{IsLawful}
use Rattle.dq_formula.proofs.Places.{place, place-get_or, has-contains}
use Rattle.dq_formula.proofs.Subsets.{distinct_universals}
use Rattle.dq_formula.proofs.Sorted.{get_or-place}
use Rattle.dq_formula.proofs.Restrictions.{assignment_of-place}
use Rattle.aig_graph.specs.Graph.{AigGraph, node_value, node_support}
use Rattle.aig_graph.specs.Outputs.{node_output}
use Rattle.aig_graph.proofs.Supported.{node_same}
use Rattle.aig_graph.specs.declared.nodes.Node.{Node}
use Rattle.expansion.specs.Table.{PointBits, ArePoints}
use Rattle.candidate_functions.specs.Candidates.{SeesRow, AgreesAtPairs, FollowsRules}
use Rattle.candidate_functions.specs.Pairs.{universal_places, has_bit, at_pair, IsPair, IsReadByPair, IsPatched, IsByRules, IsCandidate}
use Rattle.row_pairs.specs.Pairs.{agrees}
use Rattle.candidate_functions.specs.Differing.{HasOwnPoint, HasPairOf, IsCovered}
use Rattle.candidate_functions.specs.declared.cubes.Pair.{Pair}
use Rattle.candidate_functions.proofs.DeclaredPlaces.{all_mapped}
use Rattle.candidate_functions.proofs.DefinedPoints.{same_bits_seen, none_at_zero}

same_from : (a b : Bool) → same_bit a b ≡ true → b ≡ a
same_from true b h = h
same_from false true h = cc
same_from false false h = refl

same_to : (a b : Bool) → b ≡ a → same_bit a b ≡ true
same_to true b h = h
same_to false true h = cc
same_to false false h = refl

cons_same : (a b : Bool) (as' bs : List Bool) → (a ∷ as') ≡ (b ∷ bs) → (a ≡ b) × (as' ≡ bs)
cons_same a b as' bs h = (cc, cc)

module _ (f : Dqbf) (row : List Bool) (whole : length row ≡ length f.universals) (inputs : ℕ → Bool) (m : Assignment)
    (at : (x : ℕ) → Contains f.universals x → inputs (place f.universals x) ≡ m x) where
  bit_is : (x : ℕ) → bit_of row (place f.universals x) ≡ row_assignment f row x
  bit_is x = assignment_of-place f.universals row x whole

  -- where the inputs agree with a row at the places of some universals, these have the row's bits
  pub agreeing : (xs : List ℕ) → All (Contains f.universals) xs → agrees (universal_places f xs) row inputs ≡ true →
      map m xs ≡ map (row_assignment f row) xs
  agreeing [] among h = refl
  agreeing (x ∷ xs) among h =
      let parts = and_parts (same_bit (bit_of row (place f.universals x)) (inputs (place f.universals x)))
      (agrees (universal_places f xs) row inputs) h in
      let here : m x ≡ row_assignment f row x =
      sym (at x (All-head (Contains f.universals) x xs among)) ∙ same_from (bit_of row (place f.universals x))
      (inputs (place f.universals x)) parts.0 ∙ bit_is x in
      let rest = agreeing xs (All-tail (Contains f.universals) x xs among) parts.1 in
      ap (λ b. b ∷ map m xs) here ∙ ap (λ bs. row_assignment f row x ∷ bs) rest

  pub agreed : (xs : List ℕ) → All (Contains f.universals) xs → map m xs ≡ map (row_assignment f row) xs →
      agrees (universal_places f xs) row inputs ≡ true
  agreed [] among h = refl
  agreed (x ∷ xs) among h =
      let parts = cons_same (m x) (row_assignment f row x) (map m xs) (map (row_assignment f row) xs) h in
      let here = at x (All-head (Contains f.universals) x xs among) ∙ parts.0 ∙ sym (bit_is x) in
      both_true (same_bit (bit_of row (place f.universals x)) (inputs (place f.universals x)))
      (agrees (universal_places f xs) row inputs)
      (same_to (bit_of row (place f.universals x)) (inputs (place f.universals x)) here)
      (agreed xs (All-tail (Contains f.universals) x xs among) parts.1)

-- an existential has one point at all rows that give it the same bits to see
pub same_point : (f : Dqbf) (rows : List (List Bool)) (points : PointBits) → ArePoints f rows points →
    (p : ℕ) (y : Existential) → slice_get f.existentials p ≡ Some y
    → (j k : ℕ) (r s : List Bool) → slice_get rows j ≡ Some r → slice_get rows k ≡ Some s →
    restriction y (row_assignment f r) ≡ restriction y (row_assignment f s)
    → points (j + 1) y.variable ≡ points (k + 1) y.variable
same_point f rows points are p y own j k r s at_j at_k same =
    let among : Contains f.existentials y = search (arith, slice_get_within, get_or_from_slice_get) in
    let first = All-contains (λ z. points (j + 1) z.variable ≡ are.model (pair_number f rows r z)) f.existentials y
    (are.bits j r at_j) among in
    let second = All-contains (λ z. points (k + 1) z.variable ≡ are.model (pair_number f rows s z)) f.existentials y
    (are.bits k s at_k) among in
    first ∙ ap (λ bits. are.model (position_or_len (λ row. same_bits bits (restriction y (row_assignment f row))) rows *
    f.variables + y.variable)) same ∙ sym second

none_pass : {X : Type 0} (p : X → Bool) (xs : List X) → ((x : X) → Contains xs x → p x ≡ false) → list_any p xs ≡ false
none_pass p [] each = refl
none_pass p (x ∷ xs) each =
    ap (λ b. b || list_any p xs) (each x (0, omega arith, refl))
    ∙ none_pass p xs (λ z among. each z (let (k, below, is) = among in (suc k, omega (arith, below), is)))

and_none : (a b : Bool) → (b ≡ true → a ≡ false) → (a && b) ≡ false
and_none a true h = ap (λ c. c && true) (h refl)
and_none true false h = refl
and_none false false h = refl

other_bit : (a : Bool) → same_bit (not a) a ≡ false
other_bit true = refl
other_bit false = refl

patched_one : (b o : Bool) (ones zeros : Bool) → (b ≡ true → ones ≡ true) → (b ≡ false → ones ≡ false) →
    (b ≡ false → zeros ≡ true) → (ones || (o && not zeros)) ≡ b
patched_one true o ones zeros h k l = ap (λ c. c || (o && not zeros)) (h refl)
patched_one false o ones zeros h k l = search arith

patched_right : (b o ones zeros : Bool) → o ≡ b → (b ≡ true → zeros ≡ false) → (b ≡ false → ones ≡ false) →
    (ones || (o && not zeros)) ≡ b
patched_right true o true zeros is h k = refl
patched_right true o false zeros is h k = ap (λ c. c && not zeros) is ∙ ap not (h refl)
patched_right false o ones zeros is h k = ap (λ c. c || (o && not zeros)) (k refl) ∙ ap (λ c. c && not zeros) is

patched_none : (o ones zeros : Bool) → ones ≡ false → zeros ≡ false → (ones || (o && not zeros)) ≡ o
patched_none o ones zeros h k = search arith

-- what stays the same while an existential is looked at
pub record AtExistential (f : Dqbf) (rows : List (List Bool)) (points : PointBits) (y : Existential) : Type 0 where
  pub among : All (Contains f.universals) y.sees
  pub whole : All (λ row. length row ≡ length f.universals) rows
  pub same : (j k : ℕ) (r s : List Bool) → slice_get rows j ≡ Some r → slice_get rows k ≡ Some s →
      restriction y (row_assignment f r) ≡ restriction y (row_assignment f s)
      → points (j + 1) y.variable ≡ points (k + 1) y.variable

module _ (f : Dqbf) (rows : List (List Bool)) (points : PointBits) (y : Existential) (g : AigGraph)
    (t : AtExistential f rows points y)
    (pairs : List Pair) (each : All (IsPair rows g (universal_places f y.sees)) pairs) (m : Assignment) where
  abbrev inputs : ℕ → Bool
  inputs i = m (slice_index f.universals i)

  input_at : (x : ℕ) → Contains f.universals x → inputs (place f.universals x) ≡ m x
  input_at x among = ap m (get_or-place f.universals x 0 (has-contains f.universals x among))

  row_length : (k : ℕ) (row : List Bool) → slice_get rows k ≡ Some row → length row ≡ length f.universals
  row_length k row at = ap length (sym (get_or_from_slice_get rows k row row at)) ∙ t.whole k row
      (slice_get_within rows k row at)

  pair_of : (q : Pair) → Contains pairs q → IsPair rows g (universal_places f y.sees) q
  pair_of q among = All-contains (IsPair rows g (universal_places f y.sees)) pairs q each among

  -- a pair whose cube is true is one of a row that the existential sees
  seen_by : (q : Pair) (among : Contains pairs q) → node_value g inputs q.cube ≡ true →
      SeesRow f y (pair_of q among).row m
  seen_by q among holds =
      let p = pair_of q among in
      agreeing f p.row (row_length p.place p.row p.at) inputs m input_at y.sees t.among
      (sym (p.cube.value inputs) ∙ holds)

  bit_by : (q : Pair) (among : Contains pairs q) (k : ℕ) (row : List Bool) → slice_get rows k ≡ Some row →
      SeesRow f y row m → node_value g inputs q.cube ≡ true
      → points q.round y.variable ≡ points (k + 1) y.variable
  bit_by q among k row at sees holds =
      let p = pair_of q among in
      ap (λ r. points r y.variable) p.round ∙ t.same p.place k p.row row p.at at (sym (seen_by q among holds) ∙ sees)

  module _ (k : ℕ) (row : List Bool) (at : slice_get rows k ≡ Some row) (sees : SeesRow f y row m) where
    bit_absent : (b : Bool) → points (k + 1) y.variable ≡ b →
        at_pair g (has_bit (not b) points y.variable) pairs inputs ≡ false
    bit_absent b is = search (arith, none_pass, bit_by, other_bit)

    module _ (other : Node) (covered : IsCovered rows points g
        (universal_places f y.sees) y.variable other pairs row) where
      first_length : length covered.first ≡ length f.universals
      first_length = row_length covered.place covered.first covered.at

      first_seen : SeesRow f y covered.first m
      first_seen = sees ∙ agreeing f covered.first first_length (bit_of row) (row_assignment f row)
          (λ x among. assignment_of-place f.universals row x (row_length k row at)) y.sees t.among covered.same

      first_bit : points (covered.place + 1) y.variable ≡ points (k + 1) y.variable
      first_bit = t.same covered.place k covered.first row covered.at at (sym first_seen ∙ sees)

      pair_holds : (h : HasPairOf pairs (covered.place + 1)) → node_value g inputs h.pair.cube ≡ true
      pair_holds h =
          let p = pair_of h.pair h.among in
          let one : p.place ≡ covered.place = (let a = p.round in let b = h.is in omega arith) in
          let is : Some p.row ≡ Some covered.first = sym p.at ∙ ap (slice_get rows) one ∙ covered.at in
          let row_is : p.row ≡ covered.first = cc in
          p.cube.value inputs ∙ ap (λ r. agrees (universal_places f y.sees) r inputs) row_is
          ∙ agreed f covered.first first_length inputs m input_at y.sees t.among first_seen

      bit_there : HasPairOf pairs (covered.place + 1) → (b : Bool) → points (k + 1) y.variable ≡ b →
          at_pair g (has_bit b points y.variable) pairs inputs ≡ true
      bit_there h b is =
          one_passes (λ q. has_bit b points y.variable q.round && node_value g inputs q.cube) pairs h.pair h.among
          (both_true (has_bit b points y.variable h.pair.round) (node_value g inputs h.pair.cube)
          (same_to b (points h.pair.round y.variable) (ap (λ r. points r y.variable) h.is ∙ first_bit ∙ is))
          (pair_holds h))

      -- where the first row has the point, a node that reads what is seen has it
      own_value : IsLawful f → All (Contains y.sees) (node_output f g other).support →
          HasOwnPoint rows points g y.variable other (covered.place + 1)
          → node_value g inputs other ≡ points (k + 1) y.variable
      own_value lawful reads right =
          let at_round : slice_get rows ((covered.place + 1) - 1) ≡ Some covered.first =
          subst (λ j. slice_get rows j ≡ Some covered.first) (omega arith) covered.at in
          sym (node_same (bit_of covered.first) inputs g other
          (all_from_contains (λ j. bit_of covered.first j ≡ inputs j) (node_support g other) (λ j read.
          let x = slice_index f.universals j in
          let own = one_mapped (Contains y.sees) (slice_index f.universals) (node_support g other) j reads read in
          let among = All-contains (Contains f.universals) y.sees x t.among own in
          let below : j < length f.universals = search (arith, cases_lt, none_at_zero, get_or_past) in
          let there : place f.universals x ≡ j = place-get_or f.universals j 0
          (distinct_universals f lawful.prefix) below in
          sym (ap (bit_of covered.first) there) ∙ assignment_of-place f.universals covered.first x first_length
          ∙ sym (same_bits_seen m (row_assignment f covered.first) y.sees x first_seen own))))
          ∙ right covered.first at_round ∙ first_bit

  nothing_there : All (λ row. SeesRow f y row m → ⊥) rows → (b : Bool) →
      at_pair g (has_bit b points y.variable) pairs inputs ≡ false
  nothing_there away b =
      none_pass (λ q. has_bit b points y.variable q.round && node_value g inputs q.cube) pairs (λ q among.
      and_none (has_bit b points y.variable q.round) (node_value g inputs q.cube) (λ holds.
      let p = pair_of q among in
      absurd (subst (λ r. SeesRow f y r m → ⊥) (get_or_from_slice_get rows p.place p.row p.row p.at)
      (away p.place p.row (slice_get_within rows p.place p.row p.at)) (seen_by q among holds))))

module _ (f : Dqbf) (rows : List (List Bool)) (points : PointBits) (rules : List Rule) (y : Existential)
    (old new : AigGraph) (pairs : List Pair) (other node : Node)
    (lawful : IsLawful f) (t : AtExistential f rows points y)
    (each : All (IsPair rows old (universal_places f y.sees)) pairs) (by : IsByRules f old rules y other)
    (covered : (k : ℕ) (row : List Bool) → slice_get rows k ≡ Some row →
    IsCovered rows points old (universal_places f y.sees) y.variable other pairs row)
    (is : IsPatched old new points y.variable pairs other node) where
  at_pairs : AgreesAtPairs f rows points y (node_output f new node)
  at_pairs k row m at sees =
      let i : ℕ → Bool = λ p. m (slice_index f.universals p) in
      let b = points (k + 1) y.variable in
      let here = covered k row at in
      let ones = at_pair old (has_bit true points y.variable) pairs i in
      let zeros = at_pair old (has_bit false points y.variable) pairs i in
      is.value i ∙ (elim here.state [
        | inl pair ↦ patched_one b (node_value old i other) ones zeros
            (bit_there f rows points y old t pairs each m k row at sees other here pair true)
            (bit_absent f rows points y old t pairs each m k row at sees false)
            (bit_there f rows points y old t pairs each m k row at sees other here pair false)
        | inr right ↦ patched_right b (node_value old i other) ones zeros
            (own_value f rows points y old t pairs each m k row at sees other here lawful by.reads right)
            (bit_absent f rows points y old t pairs each m k row at sees true)
            (bit_absent f rows points y old t pairs each m k row at sees false)
      ])

  follows : FollowsRules f rows rules y (node_output f new node)
  follows m bit away first =
      let i : ℕ → Bool = λ p. m (slice_index f.universals p) in
      is.value i ∙ patched_none (node_value old i other) (at_pair old (has_bit true points y.variable) pairs i)
      (at_pair old (has_bit false points y.variable) pairs i)
      (nothing_there f rows points y old t pairs each m away true)
      (nothing_there f rows points y old t pairs each m away false)
      ∙ by.value m bit first

  read_by_pair : (i : ℕ) → IsReadByPair old pairs i → Contains y.sees (slice_index f.universals i)
  read_by_pair i r =
      let p = All-contains (IsPair rows old (universal_places f y.sees)) pairs r.pair each r.among in
      let from = mapped_from (place f.universals) y.sees i (p.cube.reads i r.reads) in
      let x = from.0 in
      let among = All-contains (Contains f.universals) y.sees x t.among from.1 in
      let there : get_or f.universals i 0 ≡ x = ap (λ q. get_or f.universals q 0) (sym from.2)
      ∙ get_or-place f.universals x 0 (has-contains f.universals x among) in
      subst (Contains y.sees) (sym there) from.1

  pub patched_is_candidate : IsCandidate f rows points rules new y node
  patched_is_candidate = record {
    is_node = is.is_node;
    reads = all_mapped (Contains y.sees) (slice_index f.universals) (node_support new node)
        (λ i has. elim (is.reads i has) [
          | inl o ↦ one_mapped (Contains y.sees) (slice_index f.universals) (node_support old other) i by.reads o
          | inr r ↦ read_by_pair i r
        ]);
    at_pairs = at_pairs;
    by_rules = follows;
  }
