-- What is exported of an answer that decides that a formula is true: its faults' leaves, and the
-- gates that these and the proof rest on.
use Rattle.std.proofs.Common.{◌≡◌, ℕ, zero, suc, ◌+◌, ◌≤◌, ◌<◌, ◌==◌, ◌&&◌, Bool, true, false, cond, List, [], ◌∷◌, ◌++◌, length, get_or, Option, None, Some, IsSome, is_some, refl, sym, ◌∙◌, ap, subst, arith}
use Rattle.std.specs.List.{All, Contains}
use Rattle.std.specs.Prelude.{slice_index_or}
use Rattle.std.specs.Option.{option_map, option_and_then}
use Rattle.std.proofs.lemmas.Bool.{eqb-true}
use Rattle.std.proofs.lemmas.List.Elements.{All-head, All-tail, All-contains, Contains-append_right}
use Rattle.dq_lits.specs.Formula.{Dqbf, Existential}
use Rattle.dq_lits.specs.Literal.{Literal, variable_of, negative}
use Rattle.hint_log.specs.Conditions.{MayFollow, is_circuit_name}
use Rattle.hint_log.specs.Deciding.{ReachesGiven, ReadsInput, itself, left, right, LeafReads, IsFaultLeaf}
use Rattle.hint_log.specs.Entries.{Entry, Given, Answer, has_id, count, last_id, numbered, clause_of, hints_of, origin_of, hints_at, origin_at, name_of}
use Rattle.hint_log.specs.Growth.{Each}
use Rattle.hint_log.specs.Origins.{matrix_literal, IsOriginsClause, IsFaultRest, IsLeafOf, IsGateRest}
use Rattle.hint_log.specs.Reached.{Reaches, itself as reaches_itself, by_hint}
use Rattle.hint_log.specs.declared.names.Name.TheVariants.{And}
use Rattle.hint_log.specs.declared.origins.Leaf.{Leaf}
use Rattle.hint_log.specs.declared.origins.Leaf.TheVariants.{Constant, Literal as LeafLiteral}
use Rattle.hint_log.specs.declared.origins.Origin.{Origin}
use Rattle.hint_log.specs.declared.origins.Origin.TheVariants.{Gate, Fault}
use Rattle.log_laws.proofs.Found.{split_at}
use Rattle.log_laws.proofs.LeafFunctions.{circuit_stays}
use Rattle.log_laws.proofs.ReachedClauses.{name_stays, numbered_kept}
use Rattle.number_tables.specs.Numbers.{place_of}
use Rattle.cert_export.specs.CircuitPart.{CircuitPart, IsCircuitPart, IsLeafInFile}
use Rattle.cert_export.specs.ExportedCircuit.{IsExportedPart}
use Rattle.cert_export.specs.FaultLeaves.{LeafTable, leaf_of, or_false, output_leaf, IsLeafAmong, AreLeavesAmong, HasLeavesAmong, HaveLiterals, AreOfGroup}
use Rattle.cert_export.specs.Given.{IsGivenRightly}
use Rattle.cert_export.specs.Needed.{IsGateAmong, IsLeafAmongGates, AreNeededGates}
use Rattle.cert_export.specs.Parts.{AreDecided}
use Rattle.cert_export.proofs.Answers.{answer_there, reached_here}
use Rattle.cert_export.proofs.GivenNames.{given_of}

-- an id is at most the last
within : (es : List Entry) (id : ℕ) (e : Entry) → numbered has_id es id ≡ Some e → id ≤ last_id es
within [] id e h = cc
within (x ∷ es) id e h = by_bits (has_id x) (id == count has_id es + 1) refl (within es id e) h where
  by_bits : (b c : Bool) → (id == count has_id es + 1) ≡ c → (numbered has_id es id ≡ Some e → id ≤ count has_id es) →
      cond (b && c) (Some x) (numbered has_id es id) ≡ Some e → id ≤ cond b (count has_id es + 1) (count has_id es)
  by_bits true true is later h = omega (arith, eqb-true id (count has_id es + 1) is)
  by_bits true false is later h = omega (arith, later h)
  by_bits false c is later h = later h

newer : (f : Dqbf) (es : List Entry) (g v j i k m : ℕ) (out other : Leaf) (c d : List Literal) →
    IsOriginsClause f es (Fault j i out) (negative g ∷ c) → Contains es (Given (Fault k m other) (negative g ∷ d)) →
    option_map variable_of (matrix_literal f j i) ≡ Some v → option_map variable_of (matrix_literal f k m) ≡ Some v →
    out ≡ other
newer f es g v j i k m out other c d o inside own own' =
    let both : negative g ∷ c ≡ negative o.group ∷ o.rest = o.clause_is in
    let same : g ≡ o.group = cc in
    o.one_leaf v j i k m out other d refl (subst (λ h. Contains es (Given (Fault k m other) (negative h ∷ d))) same
    inside) own own'

-- what is right in a log is right in its older part
given_before : (f : Dqbf) (e : Entry) (es : List Entry) (origin : Origin) (c : List Literal) →
    IsGivenRightly f (e ∷ es) origin c → IsGivenRightly f es origin c
given_before f e es origin c rightly more before is = rightly (e ∷ more) before (ap (λ xs. e ∷ xs) is)

-- in one group a variable has one leaf
pub same_leaf : (f : Dqbf) (es : List Entry) (g v j i k m : ℕ) (out other : Leaf) (c d : List Literal) →
    IsGivenRightly f es (Fault j i out) (negative g ∷ c) → IsGivenRightly f es (Fault k m other) (negative g ∷ d) →
    Contains es (Given (Fault j i out) (negative g ∷ c)) → Contains es (Given (Fault k m other) (negative g ∷ d)) →
    option_map variable_of (matrix_literal f j i) ≡ Some v → option_map variable_of (matrix_literal f k m) ≡ Some v →
    out ≡ other
same_leaf f [] g v j i k m out other c d mine theirs (p, below, is) there own own' = absurd (omega arith)
same_leaf f (e ∷ es) g v j i k m out other c d mine theirs (zero, below, is) (zero, below', is') own own' =
    let both : Given (Fault j i out) (negative g ∷ c) ≡ Given (Fault k m other) (negative g ∷ d) = sym is ∙ is' in cc
same_leaf f (e ∷ es) g v j i k m out other c d mine theirs (zero, below, is) (suc q, below', is') own own' =
    let inside : Contains es (Given (Fault k m other) (negative g ∷ d)) =
    (q, (let b : q < length es = omega arith in b), is') in
    newer f es g v j i k m out other c d (mine [] es (ap (λ x. x ∷ es) is)) inside own own'
same_leaf f (e ∷ es) g v j i k m out other c d mine theirs (suc p, below, is) (zero, below', is') own own' =
    let inside : Contains es (Given (Fault j i out) (negative g ∷ c)) =
    (p, (let b : p < length es = omega arith in b), is) in
    sym (newer f es g v k m j i other out d c (theirs [] es (ap (λ x. x ∷ es) is')) inside own' own)
same_leaf f (e ∷ es) g v j i k m out other c d mine theirs (suc p, below, is) (suc q, below', is') own own' =
    same_leaf f es g v j i k m out other c d (given_before f e es (Fault j i out) (negative g ∷ c) mine)
    (given_before f e es (Fault k m other) (negative g ∷ d) theirs)
    (p, (let b : p < length es = omega arith in b), is) (q, (let b : q < length es = omega arith in b), is') own own'

-- a leaf of a table is listed, or constant false
listed_leaf : (P : Leaf → Type 0) (leaves : List Leaf) (place : ℕ) → All P leaves → P (Constant false) →
    P (slice_index_or leaves place (Constant false))
listed_leaf P [] place all default = default
listed_leaf P (x ∷ xs) zero all default = All-head P x xs all
listed_leaf P (x ∷ xs) (suc place) all default = listed_leaf P xs place (All-tail P x xs all) default

pub leaf_listed : (P : Leaf → Type 0) (t : LeafTable) (v : ℕ) (leaf : Leaf) → All P t.leaves → P (Constant false) →
    leaf_of t v ≡ Some leaf → P leaf
leaf_listed P t v leaf all default is = by_option (place_of t.variables v) is where
  by_option : (o : Option ℕ) → option_map (λ place. slice_index_or t.leaves place (Constant false)) o ≡ Some leaf
      → P leaf
  by_option None h = cc
  by_option (Some place) h = let same : slice_index_or t.leaves place (Constant false) ≡ leaf = cc in
      subst P same (listed_leaf P t.leaves place all default)

-- what a leaf reads with an answer behind it reads without it
module _ (clause : List Literal) (hints : List ℕ) (earlier : List Entry) where
  reads_before : (l : Literal) (x : ℕ) → ReadsInput (Answer clause hints ∷ earlier) l x → ReadsInput earlier l x
  reads_before l x (itself _ _ named) = itself l x named
  reads_before l x (left _ a b _ named reads) = left l a b x named (reads_before a x reads)
  reads_before l x (right _ a b _ named reads) = right l a b x named (reads_before b x reads)

  pub leaf_reads_before : (leaf : Leaf) (x : ℕ) → LeafReads (Answer clause hints ∷ earlier) leaf x →
      LeafReads earlier leaf x
  leaf_reads_before (Constant b) x reads = absurd reads
  leaf_reads_before (LeafLiteral l) x reads = reads_before l x reads

-- what hints reach is reached from the answer
module _ (earlier : List Entry) (clause : List Literal) (hints : List ℕ)
    (lawful : Each MayFollow (Answer clause hints ∷ earlier)) where
  abbrev all : List Entry
  all = Answer clause hints ∷ earlier

  abbrev last : ℕ
  last = last_id all

  hints_there : (at : ℕ) (hs : List ℕ) → hints_at earlier at ≡ Some hs → hints_at all at ≡ Some hs
  hints_there at hs is = by_entry (numbered has_id earlier at) refl is where
    by_entry : (o : Option Entry) → numbered has_id earlier at ≡ o →
        option_and_then (λ e. Some (hints_of e)) o ≡ Some hs → hints_at all at ≡ Some hs
    by_entry None e h = cc
    by_entry (Some x) e h = ap (option_and_then (λ y. Some (hints_of y)))
        (numbered_kept (Answer clause hints ∷ []) earlier at (within earlier at x e) ∙ e) ∙ h

  from_hint : (hint h : ℕ) → Contains hints hint → Reaches earlier hint h → Reaches all last h
  from_hint hint h inside reaches_itself = by_hint last hint hints reaches_itself
      (ap (option_and_then (λ e. Some (hints_of e))) (answer_there earlier clause hints lawful)) inside
  from_hint hint h inside (by_hint at _ hs rest is among) = by_hint at h hs (from_hint hint at inside rest)
      (hints_there at hs is) among

  pub given_reached : (origin : Origin) (c : List Literal) (r : ReachesGiven earlier hints origin c) →
      Reaches all last r.id × (numbered has_id all r.id ≡ Some (Given origin c))
  given_reached origin c r = (
    from_hint r.hint r.id r.hinted r.reached,
    numbered_kept (Answer clause hints ∷ []) earlier r.id (within earlier r.id (Given origin c) r.is_given)
        ∙ r.is_given,
  )

module _ (f : Dqbf) (entries : List Entry) (id : ℕ) (ids : List ℕ) (d : AreDecided f entries id ids) where
  abbrev answered : List Entry
  answered = Answer d.decided.clause d.decided.hints ∷ d.decided.earlier

  abbrev lawful : Each MayFollow entries
  lawful = d.logged

  lawful' : Each MayFollow answered
  lawful' = subst (Each MayFollow) d.decided.answered lawful

  id_is : id ≡ last_id answered
  id_is = d.decided.last ∙ ap last_id d.decided.answered

  -- a given clause among the ids is reached by the answer's hints
  reached_of : (h : ℕ) (origin : Origin) (c : List Literal) → Contains ids h →
      numbered has_id entries h ≡ Some (Given origin c) → ReachesGiven d.decided.earlier d.decided.hints origin c
  reached_of h origin c inside at =
      reached_here entries d.decided.earlier d.decided.clause d.decided.hints id lawful d.decided.answered d.decided.last
      h origin c (d.reached.sound h inside) at

  -- and the other way round
  among_of : (origin : Origin) (c : List Literal) (r : ReachesGiven d.decided.earlier d.decided.hints origin c) →
      Contains ids r.id × (numbered has_id entries r.id ≡ Some (Given origin c))
  among_of origin c r =
      let there = given_reached d.decided.earlier d.decided.clause d.decided.hints lawful' origin c r in
      let reached : Reaches entries id r.id = subst (λ xs. Reaches xs id r.id) (sym d.decided.answered)
      (subst (λ n. Reaches answered n r.id) (sym id_is) there.0) in
      (d.reached.complete r.id reached, ap (λ xs. numbered has_id xs r.id) d.decided.answered ∙ there.1)

  -- what its origin says of a given clause
  record IsAt (h : ℕ) (origin : Origin) (c : List Literal) : Type 0 where
    pub more : List Entry
    pub earlier : List Entry
    pub is : entries ≡ more ++ Given origin c ∷ earlier
    pub matches : IsOriginsClause f earlier origin c

  at_of : (h : ℕ) (origin : Origin) (c : List Literal) → Contains ids h →
      numbered has_id entries h ≡ Some (Given origin c) → IsAt h origin c
  at_of h origin c inside at =
      let place = split_at entries h (Given origin c) at in
      record {
        more = place.0;
        earlier = place.1;
        is = place.2;
        matches =
            d.givens h origin c (d.reached.sound h inside) at place.0 place.1 place.2;
      }

  -- the group
  pub groups : (group : ℕ) × AreOfGroup entries ids group
  groups = (
    d.decided.decides.rests.group,
    λ h j i out inside at.
        let g = given_of entries h (Fault j i out) at in
        let mine = d.decided.decides.rests.circuit (Fault j i out) g.0 (reached_of h (Fault j i out) g.0 inside g.1) in
        (mine.0, ap (option_and_then clause_of) g.1 ∙ ap Some mine.1),
  )

  -- faults of clauses have literals of the matrix
  fault_rest : (h j i : ℕ) (out : Leaf) (c : List Literal) → 1 ≤ j → (at : IsAt h (Fault j i out) c) →
      IsFaultRest f at.earlier at.matches.group j i out at.matches.rest
  fault_rest h zero i out c one at = absurd (omega (arith, one))
  fault_rest h (suc j) i out c one at = at.matches.rest_is

  pub have_literals : HaveLiterals f entries ids
  have_literals h inside j i out one at =
      let g = given_of entries h (Fault j i out) at in
      let rest = fault_rest h j i out g.0 one (at_of h (Fault j i out) g.0 inside g.1) in
      ap is_some rest.literal_is

  own_from_one : (j i v : ℕ) → option_map variable_of (matrix_literal f j i) ≡ Some v → 1 ≤ j
  own_from_one zero i v own = cc
  own_from_one (suc j) i v own = omega arith

  module _ (group : ℕ) (t : LeafTable) (gates : List ℕ) (of_group : AreOfGroup entries ids group)
      (sound : AreLeavesAmong f entries ids t) (whole : HasLeavesAmong f entries ids t)
      (needed : AreNeededGates entries ids t.leaves gates) where
    abbrev part : CircuitPart
    part = record { group = group; gates = gates; leaf = output_leaf t }

    -- a fault among the ids, in the log
    in_log : (v : ℕ) (out : Leaf) (a : IsLeafAmong f entries ids v out) →
        (c : List Literal) × Contains entries (Given (Fault a.at.j a.at.i out)
        (negative d.decided.decides.rests.group ∷ c))
        × IsGivenRightly f entries (Fault a.at.j a.at.i out) (negative d.decided.decides.rests.group ∷ c)
    in_log v out a =
        let g = given_of entries a.id (Fault a.at.j a.at.i out) a.at.is_fault in
        let mine = d.decided.decides.rests.circuit (Fault a.at.j a.at.i out) g.0
        (reached_of a.id (Fault a.at.j a.at.i out) g.0 a.among g.1) in
        let place = split_at entries a.id (Given (Fault a.at.j a.at.i out) g.0) g.1 in
        let inside : Contains entries (Given (Fault a.at.j a.at.i out) g.0) =
        subst (λ es. Contains es (Given (Fault a.at.j a.at.i out) g.0)) (sym place.2)
        (Contains-append_right place.0 (Given (Fault a.at.j a.at.i out) g.0 ∷ place.1)
        (Given (Fault a.at.j a.at.i out) g.0) (0, omega arith, refl)) in (
          mine.0,
          subst (λ c. Contains entries (Given (Fault a.at.j a.at.i out) c)) mine.1 inside,
          subst (IsGivenRightly f entries (Fault a.at.j a.at.i out)) mine.1
              (d.givens a.id (Fault a.at.j a.at.i out) g.0 (d.reached.sound a.id a.among) g.1),
        )

    one_leaf : (v : ℕ) (out other : Leaf) → IsLeafAmong f entries ids v out → IsLeafAmong f entries ids v other →
        out ≡ other
    one_leaf v out other a b =
        let p = in_log v out a in
        let q = in_log v other b in
        same_leaf f entries d.decided.decides.rests.group v a.at.j a.at.i b.at.j b.at.i out other p.0 q.0 p.2 q.2 p.1
        q.1 a.at.own b.at.own

    out_is : (y : Existential) (out : Leaf) → IsFaultLeaf f d.decided.earlier d.decided.hints y out →
        out ≡ output_leaf t y
    out_is y out own =
        let there = among_of (Fault own.j own.i out) own.clause own.reached in
        let a : IsLeafAmong f entries ids y.variable out = record {
          id = own.reached.id;
          among = there.0;
          at = record
              { j = own.j; i = own.i; is_fault = ap (option_and_then origin_of) there.1; own = own.own };
        } in
        by_option a (leaf_of t y.variable) refl (whole y.variable out a) where
          by_option : IsLeafAmong f entries ids y.variable out → (o : Option Leaf) → leaf_of t y.variable ≡ o →
              IsSome o → out ≡ or_false (leaf_of t y.variable)
          by_option a None e h = cc
          by_option a (Some leaf) e h = one_leaf y.variable out leaf a (sound y.variable leaf e) ∙ sym (ap or_false e)

    read : (y : Existential) (x : ℕ) → ((leaf : Leaf) → IsFaultLeaf f d.decided.earlier d.decided.hints y leaf →
        (z : ℕ) → LeafReads d.decided.earlier leaf z → Contains y.sees z) → LeafReads entries (output_leaf t y) x →
        Contains y.sees x
    read y x seen reads = by_option (leaf_of t y.variable) refl reads where
      by_option : (o : Option Leaf) → leaf_of t y.variable ≡ o → LeafReads entries (or_false o) x → Contains y.sees x
      by_option None e h = absurd h
      by_option (Some leaf) e h =
          let a = sound y.variable leaf e in
          let g = given_of entries a.id (Fault a.at.j a.at.i leaf) a.at.is_fault in
          let own : IsFaultLeaf f d.decided.earlier d.decided.hints y leaf =
          record {
            j = a.at.j;
            i = a.at.i;
            clause = g.0;
            reached =
                reached_of a.id (Fault a.at.j a.at.i leaf) g.0 a.among g.1;
            own = a.at.own;
          } in
          seen leaf own x (leaf_reads_before d.decided.clause d.decided.hints d.decided.earlier leaf x
          (subst (λ es. LeafReads es leaf x) d.decided.answered h))

    leaf_in_file : (y : Existential) → IsLeafInFile entries gates (output_leaf t y)
    leaf_in_file y = by_option (leaf_of t y.variable) refl where
      of_circuit : (l : Literal) → IsLeafAmong f entries ids y.variable (LeafLiteral l) →
          is_circuit_name (name_of entries (variable_of l)) ≡ true
      of_circuit l a =
          let g = given_of entries a.id (Fault a.at.j a.at.i (LeafLiteral l)) a.at.is_fault in
          let at = at_of a.id (Fault a.at.j a.at.i (LeafLiteral l)) g.0 a.among g.1 in
          let rest = fault_rest a.id a.at.j a.at.i (LeafLiteral l) g.0
          (own_from_one a.at.j a.at.i y.variable a.at.own) at in
          let leaf : IsLeafOf f at.earlier (variable_of rest.literal) (LeafLiteral l) = rest.leaf_is in
          let e = Given (Fault a.at.j a.at.i (LeafLiteral l)) g.0 in
          subst (λ es. is_circuit_name (name_of es (variable_of l)) ≡ true) (sym at.is)
          (circuit_stays (e ∷ at.earlier) at.more (subst (Each MayFollow) at.is lawful) (variable_of l)
          (name_of at.earlier (variable_of l)) refl leaf.1)

      by_option : (o : Option Leaf) → leaf_of t y.variable ≡ o → IsLeafInFile entries gates (or_false o)
      by_option None e = tt
      by_option (Some (Constant b)) e = tt
      by_option (Some (LeafLiteral l)) e = (
        of_circuit l (sound y.variable (LeafLiteral l) e),
        leaf_listed (IsLeafAmongGates entries gates) t y.variable (LeafLiteral l) needed.leaves_there tt e,
      )

    used : (h v i : ℕ) (c : List Literal) → Reaches entries id h →
        numbered has_id entries h ≡ Some (Given (Gate v i) c) → Contains gates v
    used h v i c reached at =
        let place = at_of h (Gate v i) c (d.reached.complete h reached) at in
        let rest : IsGateRest place.earlier v i place.matches.rest = place.matches.rest_is in
        let named = name_stays place.more (Given (Gate v i) c ∷ place.earlier) v (And rest.left rest.right)
        (subst (Each MayFollow) place.is lawful) rest.named in
        All-contains (λ id. (w j : ℕ) → origin_at entries id ≡ Some (Gate w j) → IsGateAmong entries gates w) ids h
        needed.ids_there (d.reached.complete h reached) v i (ap (option_and_then origin_of) at) rest.left rest.right
        (ap (λ es. name_of es v) place.is ∙ named)

    circuit_part : IsCircuitPart f entries part
    circuit_part = record {
      named = needed.named;
      distinct = needed.distinct;
      sides = needed.sides;
      leaves = λ k e below. leaf_in_file (get_or f.existentials k e);
    }

    pub exported : IsExportedPart f entries id part
    exported = record {
      decided = d.decided;
      group = λ h j i out c reached at.
          let mine = of_group h j i out (d.reached.complete h reached) (ap (option_and_then origin_of) at) in
          let both : Some c ≡ Some (negative group ∷ mine.0) = sym (ap (option_and_then clause_of) at) ∙ mine.1 in
          let same : c ≡ negative group ∷ mine.0 = cc in
          (mine.0, same);
      outs = λ k e below out own. out_is (get_or f.existentials k e) out own;
      reads = λ k e below x reads. read (get_or f.existentials k e) x (d.decided.decides.reads k e below) reads;
      part = circuit_part;
      used = used;
    }
