-- Places of names in a log: a variable has one, and a gate's sides have earlier ones.
use Rattle.std.proofs.Common.{◌≡◌, ℕ, zero, suc, ◌+◌, ◌≤◌, ◌<◌, ◌⊎◌, inl, inr, true, true≢false, List, [], ◌∷◌, length, slice_get, Option, None, Some, refl, sym, ◌∙◌, ap, subst, arith}
use Rattle.std.specs.List.{All, AllPairs}
use Rattle.std.proofs.lemmas.Bool.{cond-true, eq-eqb}
use Rattle.std.proofs.lemmas.List.Elements.{All-head, All-tail}
use Rattle.list_laws.proofs.Elements.{old_or_last, place_within}
use Rattle.dq_lits.specs.Literal.{Literal, variable_of}
use Rattle.hint_log.specs.Conditions.{is_circuit_name, HasSides, MayFollow}
use Rattle.hint_log.specs.Entries.{Entry, Named, count, name_of, names_of}
use Rattle.hint_log.specs.Growth.{Each}
use Rattle.hint_log.specs.declared.names.Name.{Name}
use Rattle.hint_log.specs.declared.names.Name.TheVariants.{And}
use Rattle.log_laws.proofs.ReachedClauses.{name_stays}
use Rattle.log_laws.proofs.Solved.{sides}
use Rattle.cert_export.specs.ExportedCircuit.{is_gate_name}
use Rattle.cert_export.specs.Needed.{is_and, IsGatePlace}

-- a name that is a gate's
pub gate_sides : (n : Name) → is_and n ≡ true → (a : Literal) × (b : Literal) × (n ≡ And a b)
gate_sides (And a b) h = (a, b, refl)
gate_sides _ h = cc

pub same_pair : (v w : ℕ) (n m : Name) → ◌≡◌ {A = Option (ℕ × Name)} (Some (v, n)) (Some (w, m)) →
    (v ≡ w) × (n ≡ m)
same_pair v w n m same =
    let pair : ◌≡◌ {A = ℕ × Name} (v, n) (w, m) = cc in (ap (λ x. x.0) pair, ap (λ x. x.1) pair)

pub named_at : (es : List Entry) (p v : ℕ) (n : Name) → Each MayFollow es → slice_get (names_of es) p ≡ Some (v, n) →
    name_of es v ≡ Some n
named_at [] p v n lawful at = cc
named_at (Named w m ∷ es) p v n lawful at =
    search (arith, old_or_last, name_stays, (named_at es p v n lawful.1), cond-true, eq-eqb)
named_at (_ ∷ es) p v n lawful at = named_at es p v n lawful.1 at

-- a variable that is named now had no place
none_before : (w : ℕ) (m : Name) (es : List Entry) (p v : ℕ) (n : Name) → Each MayFollow (Named w m ∷ es) →
    slice_get (names_of es) p ≡ Some (v, n) → w ≡ v → ⊥
none_before w m es p v n lawful at same =
    let named : name_of es v ≡ Some n = named_at es p v n lawful.1 at in
    let none : name_of es v ≡ None = ap (name_of es) (sym same) ∙ lawful.0.unnamed in
    cc

pub one_place : (es : List Entry) (p q v : ℕ) (n m : Name) → Each MayFollow es →
    slice_get (names_of es) p ≡ Some (v, n) → slice_get (names_of es) q ≡ Some (v, m) → p ≡ q
one_place [] p q v n m lawful at other = cc
one_place (Named w k ∷ es) p q v n m lawful at other = elim (old_or_last (names_of es) (w, k) (v, n) p at) [
  | inl before ↦ elim (old_or_last (names_of es) (w, k) (v, m) q other) [
    | inl earlier ↦ one_place es p q v n m lawful.1 before earlier
    | inr last ↦ absurd (none_before w k es p v n lawful before (ap (λ x. x.0) last.1))
  ]
  | inr here ↦ elim (old_or_last (names_of es) (w, k) (v, m) q other) [
    | inl earlier ↦ absurd (none_before w k es q v m lawful earlier (ap (λ x. x.0) here.1))
    | inr last ↦ here.0 ∙ sym last.0
  ]
]
one_place (_ ∷ es) p q v n m lawful at other = one_place es p q v n m lawful.1 at other

-- the literal is a side of the gate
abbrev pub IsSide : Literal → Literal → Literal → Type 0
IsSide a b l = (l ≡ a) ⊎ (l ≡ b)

-- a variable that is named now is no side of an earlier gate
no_side : (w : ℕ) (m : Name) (es : List Entry) (a b l : Literal) → Each MayFollow (Named w m ∷ es) →
    (is_circuit_name (name_of es (variable_of a)) ≡ true) × (is_circuit_name (name_of es (variable_of b)) ≡ true) →
    IsSide a b l → w ≡ variable_of l → ⊥
no_side w m es a b l lawful named side same = search (arith, true≢false)

pub side_before : (es : List Entry) (p q v : ℕ) (a b l : Literal) (m : Name) → Each MayFollow es →
    slice_get (names_of es) p ≡ Some (v, And a b) → IsSide a b l → slice_get (names_of es) q ≡ Some (variable_of l, m) →
    q < p
side_before [] p q v a b l m lawful at side other = cc
side_before (Named w k ∷ es) p q v a b l m lawful at side other =
    elim (old_or_last (names_of es) (w, k) (v, And a b) p at) [
      | inl before ↦ elim (old_or_last (names_of es) (w, k) (variable_of l, m) q other) [
        | inl earlier ↦ side_before es p q v a b l m lawful.1 before side earlier
        | inr last ↦ absurd (no_side w k es a b l lawful
            (sides es v a b lawful.1 (named_at es p v (And a b) lawful.1 before)) side (ap (λ x. x.0) last.1))
      ]
      | inr here ↦ elim (old_or_last (names_of es) (w, k) (variable_of l, m) q other) [
        | inl earlier ↦ (
            let last = here.0 in
            omega (arith, place_within (names_of es) q (variable_of l, m) earlier, last))
        | inr last ↦ absurd (no_side w k es a b l lawful
            (subst (HasSides es) (ap (λ x. x.1) here.1) lawful.0.sides) side (ap (λ x. x.0) last.1))
      ]
    ]
side_before (_ ∷ es) p q v a b l m lawful at side other = side_before es p q v a b l m lawful.1 at side other

-- descending places of gates are no more than the gates
gate_name : (w : ℕ) (m : Name) → is_and m ≡ true → is_gate_name (Named w m) ≡ true
gate_name w m h = let g = gate_sides m h in ap (λ n. is_gate_name (Named w n)) g.2

older_gate : (w : ℕ) (m : Name) (es : List Entry) (q : ℕ) → q < length (names_of es) →
    IsGatePlace (Named w m ∷ es) q → IsGatePlace es q
older_gate w m es q below (v, (n, at, is)) = search (arith, old_or_last)

older_gates : (w : ℕ) (m : Name) (es : List Entry) (qs : List ℕ) → All (λ q. q < length (names_of es)) qs →
    All (IsGatePlace (Named w m ∷ es)) qs → All (IsGatePlace es) qs
older_gates w m es qs below gates k d less = older_gate w m es _ (below k d less) (gates k d less)

more_gates : (e : Entry) (es : List Entry) → count is_gate_name es ≤ count is_gate_name (e ∷ es)
more_gates e es = search arith

pub few_places : (es : List Entry) (places : List ℕ) → AllPairs (λ p q. q < p) places → All (IsGatePlace es) places →
    length places ≤ count is_gate_name es
few_places es [] descending gates = omega arith
few_places [] (p ∷ ps) descending gates = let g = All-head (IsGatePlace []) p ps gates in let at = g.1.1 in cc
few_places (Named w m ∷ es) (p ∷ ps) descending gates =
    let g = All-head (IsGatePlace (Named w m ∷ es)) p ps gates in
    elim (old_or_last (names_of es) (w, m) (g.0, g.1.0) p g.1.1) [
      | inl before ↦ (
          let below = place_within (names_of es) p (g.0, g.1.0) before in
          let all : All (λ q. q < length (names_of es)) (p ∷ ps) = all_below below in
          let r = few_places es (p ∷ ps) descending (older_gates w m es (p ∷ ps) all gates) in
          omega (arith, r, more_gates (Named w m) es))
      | inr last ↦ (
          let is : is_and m ≡ true = ap (λ x. is_and x.1) last.1 ∙ g.1.2 in
          let counted : count is_gate_name (Named w m ∷ es) ≡ count is_gate_name es + 1 =
          cond-true (is_gate_name (Named w m)) (count is_gate_name es + 1) (count is_gate_name es) (gate_name w m is) in
          let here = last.0 in
          let r = few_places es ps
          (λ i j d less k. descending (suc i) (suc j) d (omega (arith, less)) (omega (arith, k)))
          (older_gates w m es ps (rest_below here) (All-tail (IsGatePlace (Named w m ∷ es)) p ps gates)) in
          omega (arith, r, counted))
    ] where
      rest_below : p ≡ length (names_of es) → All (λ q. q < length (names_of es)) ps
      rest_below here k d less =
          omega (arith, descending 0 (suc k) d (omega arith) (omega (arith, less)), here)

      all_below : p < length (names_of es) → All (λ q. q < length (names_of es)) (p ∷ ps)
      all_below below zero d less = below
      all_below below (suc k) d less =
          omega (arith, descending 0 (suc k) d (omega arith) less, below)
few_places (_ ∷ es) (p ∷ ps) descending gates = few_places es (p ∷ ps) descending gates
