-- Driven inputs that are declared one by one.
use Rattle.std.proofs.Common.{◌≡◌, ℕ, zero, suc, ◌+◌, ◌-◌, ◌*◌, ◌<◌, ◌≤◌, ◌^◌, ◌==◌, nat_lt, Bool, true, false, List, [], ◌∷◌, ◌++◌, map, length, get_or, drop, refl, sym, ◌∙◌, ap, subst, arith}
use Rattle.std.specs.List.{All, list_any, filter, range_with_len}
use Rattle.std.proofs.lemmas.Bool.{ne_eqb, eq-eqb, cond-true, cond-false, le-ltb}
use Rattle.std.proofs.lemmas.List.{append-nil, get_or_default, get_or-drop, length-drop}
use Rattle.std.proofs.lemmas.List.Folds.{list_any-append}
use Rattle.std.proofs.lemmas.List.FromFn.{get_or-range_with_len, length-range_with_len}
use Rattle.dq_lits.specs.Formula.{Existential, Dqbf, declared, is_universal}
use Rattle.dq_formula.specs.Dependencies.{listed_universals}
use Rattle.circuit_plain.specs.Netlist.{literal_variable}
use Rattle.number_tables.specs.Numbers.{has_number}
use Rattle.pec_front.specs.Boxes.{PartialDesign, AreBoxes, IsFurtherInput, driven, inputs_of}
use Rattle.pec_front.specs.Copies.{numbers_in, AreCopies, IsKnownOut}
use Rattle.pec_front.specs.Encoding.{signals_of, driven_of, first_copy, first_driven, first_specified, implemented_input, driven_existential, design_universals}
use Rattle.pec_front.specs.declared.copies.Span.{Span}
use Rattle.pec_front.proofs.DeclaredRanges.{range-misses}
use Rattle.pec_front.proofs.Numbers.{map-join, driven-numbers, copies-inside, copies-seen}
use Rattle.pec_front.proofs.Values.{any-contained}
use Rattle.dqdimacs_reader.proofs.SpelledClauses.{in_range_listed}
use Rattle.list_laws.proofs.Numbers.{range_append}

-- a filter that passes nothing, and one that passes all
filter-none : (p : ℕ → Bool) (a n : ℕ) → ((v : ℕ) → a ≤ v → v < a + n → p v ≡ false)
    → filter p (range_with_len a n) ≡ []
filter-none p a zero none = refl
filter-none p a (suc n) none = search (arith, cond-false, (filter-none p (a + 1) n))

filter-all : (p : ℕ → Bool) (a n : ℕ) → ((v : ℕ) → a ≤ v → v < a + n → p v ≡ true)
    → filter p (range_with_len a n) ≡ range_with_len a n
filter-all p a zero all = refl
filter-all p a (suc n) all = search (arith, cond-true, (filter-all p (a + 1) n))

filter-join : (p : ℕ → Bool) (xs ys : List ℕ) → filter p (xs ++ ys) ≡ filter p xs ++ filter p ys
filter-join p [] ys = refl
filter-join p (x ∷ xs) ys = search (arith, (filter-join p xs ys))

before-range : (a n v : ℕ) → v < a → list_any (λ x. x == v) (range_with_len a n) ≡ false
before-range a zero v low = refl
before-range a (suc n) v low = search (arith, ne_eqb, (before-range (a + 1) n v))

-- universals in a range, in order
listed-range : (s n a k : ℕ) → s ≤ a → a + k ≤ s + n
    → listed_universals (range_with_len s n) (range_with_len a k) ≡ range_with_len a k
listed-range s n a k low high =
    let p = λ (u : ℕ). list_any (λ x. x == u) (range_with_len a k) in
    let before = range_with_len s (a - s) in
    let middle = range_with_len a k in
    let behind = range_with_len (a + k) (s + n - (a + k)) in
    let start : s + (a - s) ≡ a = omega (arith, low) in
    let whole : range_with_len s n ≡ before ++ (middle ++ behind) = search (arith, range_append) in
    ap (filter p) whole
    ∙ filter-join p before (middle ++ behind)
    ∙ ap (λ vs. vs ++ filter p (middle ++ behind))
    (filter-none p s (a - s) (λ v from to. before-range a k v (omega (arith, to, low))))
    ∙ filter-join p middle behind
    ∙ ap (λ vs. vs ++ filter p behind) (filter-all p a k (λ v from to. in_range_listed k a v from to))
    ∙ ap (λ vs. middle ++ vs)
    (filter-none p (a + k) (s + n - (a + k)) (λ v from to. range-misses a k v from))
    ∙ append-nil middle

-- no universal is listed
listed-none : (s n : ℕ) → listed_universals (range_with_len s n) [] ≡ []
listed-none s n = filter-none (λ u. false) s n (λ v from to. refl)

-- what a driven input sees stands in order already
pub seen-in-order : (d : PartialDesign) (i : ℕ) (span : Span)
    → numbers_in span ≡ (driven_existential d i).sees
    → listed_universals (design_universals d) (numbers_in span) ≡ (driven_existential d i).sees
seen-in-order d i span is =
    search (
      arith,
      (length-range_with_len span.start span.count),
      (copies-inside d.boxes),
      (get_or-range_with_len span.start span.count),
      (listed-none 1),
      (listed-range 1),
    )

-- the numbers of a driven input's copies are small
pub copies-small : (d : PartialDesign) (i : ℕ) (span : Span) → first_driven d < 2 ^ 32
    → numbers_in span ≡ (driven_existential d i).sees → All (λ n. n < 2 ^ 32) (numbers_in span)
copies-small d i span few is = search (arith, copies-inside)

-- and they are universals
pub copies-universal : (d : PartialDesign) (i : ℕ) (f : Dqbf) (vs : List ℕ) → f.universals ≡ design_universals d
    → vs ≡ (driven_existential d i).sees → All (λ x. is_universal f x ≡ true) vs
copies-universal d i f vs are is =
    subst (λ (ws : List ℕ). All (λ x. is_universal f x ≡ true) ws) (sym is)
    (λ k e below. let c = copies-seen d i k e below in
    let v = get_or (driven_existential d i).sees k e in
    ap (λ us. list_any (λ x. x == v) us) are
    ∙ any-contained (λ x. x == v) (design_universals d) c.0 v c.1 c.2 (eq-eqb v v refl))

abbrev pub driven-part : PartialDesign → ℕ → List Existential
driven-part d k = map (driven_existential d) (range_with_len (inputs_of d) k)

-- one more
pub driven-more : (d : PartialDesign) (f old new : Dqbf) (i k : ℕ) (vs : List ℕ) (number : ℕ)
    → i ≡ inputs_of d + k → number ≡ first_driven d + k
    → f.universals ≡ design_universals d
    → old ≡ record f { existentials = driven-part d k }
    → listed_universals (design_universals d) vs ≡ (driven_existential d i).sees
    → new ≡ record old {
      existentials = old.existentials
          ++ record { variable = number; sees = listed_universals old.universals vs } ∷ [];
    }
    → new ≡ record f { existentials = driven-part d (k + 1) }
driven-more d f old new i k vs number place is are so_far sees added =
    let late : implemented_input d i ≡ number = search (arith, cond-false, nat_lt, le-ltb) in
    added
    ∙ ap (λ (g : Dqbf). record g
    { existentials = g.existentials ++ record { variable = number; sees = listed_universals g.universals vs } ∷ [] })
    so_far
    ∙ ap (λ us. record f
    { existentials = driven-part d k ++ record { variable = number; sees = listed_universals us vs } ∷ [] }) are
    ∙ ap (λ ws. record f { existentials = driven-part d k ++ record { variable = number; sees = ws } ∷ [] }) sees
    ∙ ap (λ n. record f
    { existentials = driven-part d k ++ record { variable = n; sees = (driven_existential d i).sees } ∷ [] })
    (sym late)
    ∙ ap (λ j. record f { existentials = driven-part d k ++ driven_existential d j ∷ [] }) place
    ∙ ap (λ es. record f { existentials = es })
    (sym (map-join (driven_existential d) (range_with_len (inputs_of d) k) ((inputs_of d + k) ∷ [])))
    ∙ ap (λ js. record f { existentials = map (driven_existential d) js }) (range_append (inputs_of d) k 1)

-- it wasn't declared
pub driven-new : (d : PartialDesign) (f old : Dqbf) (k number : ℕ) → f.universals ≡ design_universals d
    → old ≡ record f { existentials = driven-part d k } → number ≡ first_driven d + k
    → list_any (λ x. x == number) (declared old) ≡ false
driven-new d f old k number are so_far is = search (arith, driven-numbers, list_any-append, range-misses)

-- what boxes drive are further inputs, by their positive literals
pub known-outs : (d : PartialDesign) (further : List ℕ) → AreBoxes d
    → further ≡ drop (inputs_of d) d.implementation.inputs → All (IsKnownOut further) (driven d.boxes)
known-outs d further boxes is k e below =
    let f : IsFurtherInput d (get_or (driven d.boxes) k e) = boxes.further k e below in
    let out = get_or (driven d.boxes) k e in
    let inputs = d.implementation.inputs in
    let i = f.0 in
    let v = get_or inputs i 0 in
    let low : inputs_of d ≤ i = f.1 in
    let high : i < length inputs = f.2 in
    let double : out ≡ 2 * v = f.3 in
    let half : v ≡ literal_variable out = omega (arith, double) in
    let long = length-drop (inputs_of d) inputs in
    let inside : i - inputs_of d < length (drop (inputs_of d) inputs) = omega (arith, low, high, long) in
    let there : get_or (drop (inputs_of d) inputs) (i - inputs_of d) (literal_variable out) ≡ literal_variable out =
    search (arith, get_or-drop, get_or_default) in (
      omega (arith, double),
      ap (λ vs. has_number vs (literal_variable out)) is
          ∙ any-contained (λ x. x == literal_variable out) (drop (inputs_of d) inputs) (i - inputs_of d)
          (literal_variable out) inside there (eq-eqb (literal_variable out) (literal_variable out) refl),
    )

-- the range that is found is what the input sees
pub span-seen : (d : PartialDesign) (copies : ℕ → Span) (inputs : List ℕ) (i : ℕ) (span : Span)
    → AreCopies (first_copy d) d.boxes copies → span ≡ copies (get_or inputs i 0) → inputs ≡ d.implementation.inputs
    → numbers_in span ≡ (driven_existential d i).sees
span-seen d copies inputs i span are is same = search arith

-- what is declared before the variables that see all
pub declared-further : (d : PartialDesign) (f : Dqbf) (n : ℕ) → f.universals ≡ design_universals d
    → f.existentials ≡ driven-part d (driven_of d) → n ≡ first_specified d → declared f ≡ range_with_len 1 (n - 1)
declared-further d f n are drives is =
    let p = inputs_of d in
    let q = signals_of d in
    let r = driven_of d in
    let fd = first_driven d in
    let after : 1 + (p + q) ≡ fd = omega arith in
    ap (λ us. us ++ map (λ (y : Existential). y.variable) f.existentials) are
    ∙ ap (λ (es : List Existential). design_universals d ++ map (λ (y : Existential). y.variable) es) drives
    ∙ ap (λ vs. design_universals d ++ vs)
    (driven-numbers d r p fd (omega arith) (let e : fd ≡ fd + (p - p) = omega arith in e))
    ∙ ap (λ a. design_universals d ++ range_with_len a r) (sym after)
    ∙ range_append 1 (p + q) r
    ∙ ap (range_with_len 1) (let e : p + q + r ≡ n - 1 = omega (arith, is) in e)
