-- A clause's existential literals on the variables of their pairs.
use Rattle.std.proofs.Common.{◌≡◌, ℕ, zero, suc, ◌+◌, ◌<◌, ◌≤◌, ◌==◌, Bool, true, false, cond, List, [], ◌∷◌, ◌++◌, map, take, length, get_or, position, Option, Some, None, refl, sym, ◌∙◌, ap, arith}
use Rattle.std.specs.List.{find, position_or_len, filter_map, cons_option}
use Rattle.std.specs.Option.{option_map}
use Rattle.std.proofs.lemmas.List.{length-map, get_or-map, map-append, append-nil, take_all, take_more}
use Rattle.std.proofs.lemmas.List.Elements.{filter_map-append}
use Rattle.std.proofs.lemmas.List.Quantifiers.{position-Some}
use Rattle.std.proofs.lemmas.Option.{slice_get-get_or}
use Rattle.dq_lits.specs.Literal.{Literal, variable_of, is_negative}
use Rattle.dq_lits.specs.Formula.{Dqbf, Existential, existential_of}
use Rattle.dq_formula.proofs.Places.{place-absent}
use Rattle.hint_log.specs.Entries.{Entry, name_of}
use Rattle.hint_log.specs.Naming.{NamedLiteral, named_literal, name_literal, AreNamedAs, arbiter, on_arbiter}
use Rattle.log_laws.proofs.Found.{variable}
use Rattle.expansion.specs.Table.{AreArbiters}
use Rattle.expansion.specs.Adding.{signed}
use Rattle.expansion.proofs.NamedArbiters.{nobody, named_at}

find_at : (ys : List Existential) (w i : ℕ) (d : Existential) → i < length ys →
    ((k : ℕ) → k < i → ((get_or ys k d).variable == w) ≡ false) → ((get_or ys i d).variable == w) ≡ true
    → find (λ y. y.variable == w) ys ≡ Some (get_or ys i d)
find_at [] w i d below before here = absurd (omega (arith, below))
find_at (y ∷ ys) w zero d below before here = ap (λ b. cond b (Some y) (find (λ z. z.variable == w) ys)) here
find_at (y ∷ ys) w (suc i) d below before here =
    ap (λ b. cond b (Some y) (find (λ z. z.variable == w) ys)) (before zero (omega arith))
    ∙ find_at ys w i d (omega (arith, below)) (λ k lt. before (suc k) (omega (arith, lt))) here

find_none : (ys : List Existential) (w : ℕ) → position_or_len (λ v. v == w) (map variable ys) ≡ length (map variable ys)
    → find (λ y. y.variable == w) ys ≡ None
find_none [] w past = refl
find_none (y ∷ ys) w past = search (arith, (find_none ys w))

-- the existential at the place that was found
pub found_existential : (f : Dqbf) (w i : ℕ) → position (λ v. v == w) (map variable f.existentials) ≡ Some i
    → (i < length f.existentials) × (existential_of f w ≡ Some (get_or f.existentials i nobody))
found_existential f w i found =
    let ys = f.existentials in
    let h = position-Some (λ v. v == w) (map variable ys) i 0 found in
    let below : i < length ys = let many = length-map ys variable in let lt = h.0 in omega (arith, many, lt) in (
      below,
      find_at ys w i nobody below
          (λ k lt. ap (λ v. v == w) (sym (get_or-map variable ys k nobody 0 (omega (arith, lt, below)))) ∙ h.2 k lt)
          (ap (λ v. v == w) (sym (get_or-map variable ys i nobody 0 below)) ∙ h.1),
    )

pub no_existential : (f : Dqbf) (w : ℕ) → position (λ v. v == w) (map variable f.existentials) ≡ None →
    existential_of f w ≡ None
no_existential f w none = find_none f.existentials w (place-absent (λ v. v == w) (map variable f.existentials) none)

signed_parts : (b : Bool) (v : ℕ) → (variable_of (signed b v) ≡ v) × (is_negative (signed b v) ≡ b)
signed_parts true v = (refl, refl)
signed_parts false v = (refl, refl)

-- a literal of a pair's variable
named_signed : (own : List Entry) (b : Bool) (v : ℕ) (f : Dqbf) (rows : List (List Bool)) (row : List Bool)
    (y : Existential) → name_of own v ≡ Some (arbiter f rows row y)
    → name_literal own (signed b v) ≡ Some (named_literal (arbiter f rows row y) b)
named_signed own b v f rows row y named = search (arith, signed_parts)

module _ (f : Dqbf) (own : List Entry) (rows : List (List Bool)) (row : List Bool) (clause : List Literal) (i : ℕ)
    (l : Literal) (lits : List Literal)
    (below : i < length clause) (l_is : l ≡ get_or clause i l)
    (so_far : AreNamedAs own lits (filter_map (on_arbiter f rows row) (take i clause))) where
  abbrev on : Literal → Option NamedLiteral
  on = on_arbiter f rows row

  next : (o : Option NamedLiteral) → on l ≡ o → filter_map on (take (i + 1) clause) ≡ filter_map on
      (take i clause) ++ cons_option o []
  next o is =
      ap (filter_map on) (take_more clause i l below) ∙ filter_map-append on (take i clause) (get_or clause i l ∷ [])
      ∙ ap (λ p. filter_map on (take i clause) ++ cons_option p []) (ap on (sym l_is) ∙ is)

  pub literal_more : (v place : ℕ) (variables : List ℕ) → AreArbiters f own rows row variables →
      position (λ x. x == variable_of l) (map variable f.existentials) ≡ Some place → v ≡ get_or variables place 0
      → AreNamedAs own (lits ++ signed (is_negative l) v ∷ []) (filter_map on (take (i + 1) clause))
  literal_more v place variables are found v_is =
      let y = get_or f.existentials place nobody in
      let at = found_existential f (variable_of l) place found in
      let named : name_of own v ≡ Some (arbiter f rows row y) =
      ap (name_of own) v_is ∙ named_at own (arbiter f rows row) variables f.existentials place 0 y are
      (slice_get-get_or f.existentials place nobody at.0) in
      let literal = named_signed own (is_negative l) v f rows row y named in
      let it : NamedLiteral = named_literal (arbiter f rows row y) (is_negative l) in
      let on_it : on l ≡ Some it = ap (option_map (λ z. named_literal (arbiter f rows row z) (is_negative l))) at.1 in
      map-append (name_literal own) lits (signed (is_negative l) v ∷ [])
      ∙ ap (λ ns. ns ++ name_literal own (signed (is_negative l) v) ∷ []) so_far
      ∙ ap (λ n. map Some (filter_map on (take i clause)) ++ n ∷ []) literal
      ∙ sym (map-append Some (filter_map on (take i clause)) (it ∷ []))
      ∙ sym (ap (map Some) (next (Some it) on_it))

  pub literal_passed : position (λ x. x == variable_of l) (map variable f.existentials) ≡ None →
      AreNamedAs own lits (filter_map on (take (i + 1) clause))
  literal_passed none =
      let off : on l ≡ None = ap (option_map (λ z. named_literal (arbiter f rows row z) (is_negative l)))
      (no_existential f (variable_of l) none) in
      so_far ∙ sym (ap (map Some) (next None off ∙ append-nil (filter_map on (take i clause))))

pub all_literals : (f : Dqbf) (own : List Entry) (rows : List (List Bool)) (row : List Bool) (clause : List Literal)
    (i : ℕ) (lits : List Literal) → length clause ≤ i
    → AreNamedAs own lits (filter_map (on_arbiter f rows row) (take i clause)) →
    AreNamedAs own lits (filter_map (on_arbiter f rows row) clause)
all_literals f own rows row clause i lits past so_far = search (arith, take_all)
