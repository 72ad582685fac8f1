-- What is asked at a row: an existential's copy with the other bit, and the copies of what it sees
-- with the row's bits.
use Rattle.std.proofs.Common.{◌≡◌, ◌≢◌, ◌⊎◌, ℕ, zero, suc, Bool, true, false, true≢false, not, inl, inr, List, [], ◌∷◌, map, get_or, slice_get, Option, Some, refl, sym, ◌∙◌, ap, arith}
use Rattle.std.specs.List.{Contains}
use Rattle.std.proofs.lemmas.Bool.{cases_Bool, or_right}
use Rattle.std.proofs.lemmas.Option.{slice_get_within, slice_get-get_or}
use Rattle.list_laws.proofs.Elements.{kept_there}
use Rattle.list_laws.proofs.Truths.{not-not}
use Rattle.dq_lits.specs.Derivation.{holds, is_tautology}
use Rattle.dq_lits.specs.Expansion.{row_assignment}
use Rattle.dq_lits.specs.Formula.{Dqbf, Existential, HasLawfulPrefix}
use Rattle.dq_lits.specs.Literal.{Literal, positive, variable_of, opposite, same_literal}
use Rattle.dq_lits.proofs.HeldLiterals.{any_gives, all_held, holds_cases, holds_here}
use Rattle.dq_formula.specs.Prefix.{existential_variables}
use Rattle.hint_log.specs.Entries.{Entry, name_of}
use Rattle.hint_log.specs.Naming.{NamedLiteral, named_literal, name_literal}
use Rattle.hint_log.specs.declared.names.Name.{Name}
use Rattle.hint_log.specs.declared.names.Name.TheVariants.{Copy as CopyOf}
use Rattle.log_laws.proofs.Found.{named_variable}
use Rattle.definability.specs.Copies.{AreCopies, IsCopied, is_copied_at}
use Rattle.definability.specs.Ruling.{AreFirstCopies, signed_literal, row_copies}
use Rattle.definability.specs.Seeing.{AreCopiedPlaces}
use Rattle.definability.specs.declared.copies.MatrixCopy.{MatrixCopy}
use Rattle.definability.proofs.KeptPlaces.{bit_at, copied_there}
use Rattle.definition_order.proofs.Firsts.{universals_apart}

-- the copy of the existential, which is true where the bit is false
abbrev pub IsOwn : List Entry → Existential → Bool → Literal → Type 0
IsOwn es y bit l = name_literal es l ≡ Some (named_literal (CopyOf 1 y.variable) bit)

-- the copy of a universal that it sees, which is true where the universal has the row's bit
abbrev pub IsAtRow : Dqbf → List Entry → List Bool → ℕ → Literal → Type 0
IsAtRow f es row x l = name_literal es l ≡ Some (named_literal (CopyOf 1 x) (not (row_assignment f row x)))

pub record AreAsked (f : Dqbf) (es : List Entry) (y : Existential) (row : List Bool) (bit : Bool)
    (lits : List Literal) : Type 0 where
  pub each : (l : Literal) → holds lits l ≡ true → IsOwn es y bit l ⊎
      ((x : ℕ) × Contains y.sees x × IsAtRow f es row x l)
  pub own : (l : Literal) × (holds lits l ≡ true) × IsOwn es y bit l

-- what it sees is asked for where it has a copy
abbrev pub IsSeenAsked : Dqbf → List Entry → List Bool → List Bool → List Literal → ℕ → Type 0
IsSeenAsked f es flags row lits x =
    (IsCopied f flags x × ((l : Literal) × (holds lits l ≡ true) × IsAtRow f es row x l))
    ⊎ ((p : ℕ) × (slice_get f.universals p ≡ Some x) × (is_copied_at flags p ≡ false))

-- the negation of a named literal
pub opposite_named : (es : List Entry) (l : Literal) (n : Name) (b : Bool) →
    name_literal es l ≡ Some (named_literal n b) → name_literal es (opposite l) ≡ Some (named_literal n (not b))
opposite_named es l n b is = search (arith, named_variable)

pub signed_name : (es : List Entry) (l : Literal) (n : Name) (b : Bool) →
    name_literal es l ≡ Some (named_literal n false) → name_literal es (signed_literal l b) ≡ Some
    (named_literal n (not b))
signed_name es l n true is = is
signed_name es l n false is = opposite_named es l n false is

pub own_name : (es : List Entry) (y : Existential) (l : Literal) (bit : Bool) →
    name_literal es l ≡ Some (named_literal (CopyOf 1 y.variable) false) → IsOwn es y bit (signed_literal l (not bit))
own_name es y l bit is = search (arith, signed_name, not-not)

held_mapped : (g : ℕ → Literal) (ps : List ℕ) (l : Literal) → holds (map g ps) l ≡ true →
    (p : ℕ) × Contains ps p × (l ≡ g p)
held_mapped g [] l h = cc
held_mapped g (p ∷ ps) l h = elim (holds_cases (g p) (map g ps) l h) [
  | inl here ↦ (p, (0, omega arith, refl), here)
  | inr later ↦ (let r = held_mapped g ps l later in (
    r.0,
    (
      suc r.1.0,
      (let b = r.1.1 in omega (arith, b)),
      r.1.2,
    ),
    r.2,
  ))
]

mapped_held : (g : ℕ → Literal) (ps : List ℕ) (p : ℕ) → Contains ps p → holds (map g ps) (g p) ≡ true
mapped_held g [] p (k, lt, at) = absurd (omega (arith, lt))
mapped_held g (q ∷ ps) p (zero, lt, at) = ap (λ k. holds (map g (q ∷ ps)) (g k)) (sym at) ∙ holds_here (g q) (map g ps)
mapped_held g (q ∷ ps) p (suc k, lt, at) = search (arith, or_right, (mapped_held g ps p))

module _ (f : Dqbf) (lawful : HasLawfulPrefix f) (es : List Entry) (y : Existential) (copy : MatrixCopy)
    (flags row : List Bool) (bit : Bool) (places : List ℕ) (own : Literal)
    (copies : AreCopies es 1 flags f.universals copy.universals.items)
    (are : AreCopiedPlaces f.universals (Contains y.sees) flags places) (own_is : IsOwn es y bit own) where
  abbrev at_place : ℕ → Literal
  at_place p = signed_literal (get_or copy.universals.items p (positive 0)) (get_or row p false)

  place_name : (p x : ℕ) → is_copied_at flags p ≡ true → slice_get f.universals p ≡ Some x →
      IsAtRow f es row x (at_place p)
  place_name p x flag at =
      let lits = copy.universals.items in
      let lt = slice_get_within f.universals p x at in
      let long = copies.long in
      let is = copies.named p x (get_or lits p (positive 0)) flag at
      (slice_get-get_or lits p (positive 0) (omega (arith, lt, long))) in
      signed_name es (get_or lits p (positive 0)) (CopyOf 1 x) (get_or row p false) is
      ∙ ap (λ b. Some (named_literal (CopyOf 1 x) (not b))) (sym
      (bit_at f.universals row p x (universals_apart f lawful) at))

  pub are_asked : AreAsked f es y row bit (own ∷ row_copies copy row places)
  are_asked = record {
    each = λ l h. elim (holds_cases own (map at_place places) l h) [
      | inl here ↦ inl (ap (name_literal es) here ∙ own_is)
      | inr later ↦ (
          let r = held_mapped at_place places l later in
          let x = are.sound r.0 r.1 in
          inr (x.0, x.2, ap (name_literal es) r.2 ∙ place_name r.0 x.0 (are.copied r.0 r.1) x.1))
    ];
    own = (own, holds_here own (map at_place places), own_is);
  }

  pub seen_asked : (x : ℕ) → Contains y.sees x → IsSeenAsked f es flags row (own ∷ row_copies copy row places) x
  seen_asked x among =
      let p = are.complete x among in
      elim p.2 [
        | inl inside ↦ (
            let flag = are.copied p.0 inside in
            inl (
              copied_there f flags p.0 x lawful.declared_once
                  (kept_there f.universals (existential_variables f) p.0 x p.1) flag,
              (
                at_place p.0,
                or_right (same_literal (at_place p.0) own) (holds (map at_place places) (at_place p.0))
                    (mapped_held at_place places p.0 inside),
                place_name p.0 x flag p.1,
              ),
            ))
        | inr none ↦ inr (p.0, p.1, none)
      ]

same_names : (o : Option NamedLiteral) (a b : ℕ) (s t : Bool) → o ≡ Some (named_literal (CopyOf 1 a) s) →
    o ≡ Some (named_literal (CopyOf 1 b) t) → (a ≡ b) × (s ≡ t)
same_names o a b s t first second = search arith

pub no_negation : (b : Bool) → b ≡ not b → ⊥
no_negation true e = true≢false e
no_negation false e = true≢false (sym e)

module _ (f : Dqbf) (es : List Entry) (y : Existential) (row : List Bool) (bit : Bool) (lits : List Literal)
    (are : AreAsked f es y row bit lits)
    (unseen : (x : ℕ) → Contains y.sees x → x ≢ y.variable) where
  no_pair : (l : Literal) → holds lits l ≡ true → holds lits (opposite l) ≡ true → ⊥
  no_pair l h k = search (arith, opposite_named, no_negation, same_names)

  pub asked_apart : is_tautology lits ≡ false
  asked_apart = elim (cases_Bool (is_tautology lits)) [
    | inl some ↦ (let w = any_gives (λ l. holds lits (opposite l)) lits some in absurd (no_pair w.0 w.1 w.2))
    | inr none ↦ none
  ]

  pub asked_copies : AreFirstCopies es lits
  asked_copies = all_held (λ l. (v : ℕ) × (name_of es (variable_of l) ≡ Some (CopyOf 1 v))) lits
      (λ l h. elim (are.each l h) [
        | inl own ↦ search (arith, named_variable)
        | inr seen ↦ search (arith, named_variable)
      ])
