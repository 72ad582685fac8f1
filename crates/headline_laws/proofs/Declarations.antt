-- The parts of a prefix declare on the page what they declare to the reader.
use Rattle.std.proofs.Common.{◌≡◌, ◌≢◌, ℕ, suc, length, get_or, ◌<◌, ◌≤◌, ◌==◌, Bool, true, false, ◌||◌, List, [], ◌∷◌, ◌++◌, map, refl, sym, ◌∙◌, ap, subst, arith, append_assoc}
use Rattle.std.specs.List.{AllPairs, AllByRecursion, Contains, filter, flat_map, fold}
use Rattle.std.proofs.lemmas.List.{append-nil, map-append}
use Rattle.std.proofs.lemmas.List.Elements.{All-from_recursion}
use Rattle.std.proofs.lemmas.List.Folds.{list_any-append}
use Rattle.std.proofs.lemmas.List.Kept.{AllPairs-cons}
use Rattle.list_laws.proofs.Members.{contains_tested}
use Rattle.dq_lits.specs.Formula.{Dqbf}
use Rattle.dq_lits.specs.Formula.{Existential as ReadExistential}
use Rattle.dq_formula.specs.Prefix.{is_declared}
use Rattle.dqdimacs_reader.specs.Building.{add_universal, add_existential, add_first, add_listed}
use Rattle.dqdimacs_reader.specs.Grammar.{IsNew, AreNew, IsSeen, IsLawfulPart, AreLawfulParts, declare}
use Rattle.dqdimacs_reader.specs.Grammar.{PrefixPart as ReadPart, universals as read_universals, existentials as read_existentials, dependent as read_dependent}
use Rattle.headline_laws.specs.Formulas.{read_existential}
use Rattle.headline.specs.Headline.{PrefixPart, universals, existentials, dependent, AreListed, among, declared_in, existentials_from, seeing, universals_in}
use Rattle.list_laws.proofs.Truths.{unequal, or_second, or_assoc_left}
use Rattle.dqdimacs_reader.proofs.CanonicalFormula.{each as rec_each}
use Rattle.list_laws.proofs.Quantified.{rec_append}

abbrev pub page_part : ReadPart → PrefixPart
page_part (read_universals vs) = universals vs
page_part (read_existentials ys) = existentials ys
page_part (read_dependent y xs) = dependent y xs

abbrev pub page_parts : List ReadPart → List PrefixPart
page_parts parts = map page_part parts

abbrev pub variables_in : List ReadPart → List ℕ
variables_in parts = flat_map declared_in (page_parts parts)

-- pairwise different, by recursion
abbrev pub Apart : List ℕ → Type 0
Apart [] = Unit {0}
Apart (x ∷ xs) = AllByRecursion (λ y. x ≢ y) xs × Apart xs

pub apart_pairs : (xs : List ℕ) → Apart xs → AllPairs (λ v w. v ≢ w) xs
apart_pairs [] all = λ i j d less below. absurd (omega (arith, below))
apart_pairs (x ∷ xs) all = search (arith, AllPairs-cons, All-from_recursion, (apart_pairs xs all.1))

pub pairs_rec : (xs : List ℕ) → AllPairs (λ v w. v ≢ w) xs → Apart xs
pairs_rec [] pairs = tt
pairs_rec (x ∷ xs) pairs = (
  heads xs (λ j d below. pairs 0 (suc j) d (omega arith) (omega (arith, below))),
  pairs_rec xs (λ i j d less below. pairs (suc i) (suc j) d (omega (arith, less)) (omega (arith, below))),
)
  where
    heads : (ys : List ℕ) → ((j d : ℕ) → j < length ys → x ≢ get_or ys j d) → AllByRecursion (λ y. x ≢ y) ys
    heads [] each = tt
    heads (y ∷ ys) each = (each 0 0 (omega arith), heads ys (λ j d below. each (suc j) d (omega (arith, below))))

pub apart_append : (xs ys : List ℕ) → Apart xs → Apart ys → AllByRecursion (λ x. AllByRecursion (λ y. x ≢ y) ys) xs →
    Apart (xs ++ ys)
apart_append [] ys one other cross = other
apart_append (x ∷ xs) ys one other cross = search (arith, rec_append, (apart_append xs ys one.1 other cross.1))

-- tests
pub or_false : (a b : Bool) → (a || b) ≡ false → a ≡ false
or_false false b h = refl
or_false true b h = h

or_moved : (a b c : Bool) → ((a || (b || false)) || c) ≡ ((a || c) || b)
or_moved false false false = refl
or_moved false false true = refl
or_moved false true c = search arith
or_moved true b c = refl

or_last : (a b c : Bool) → (a || (c || (b || false))) ≡ ((a || c) || b)
or_last false false false = refl
or_last false false true = refl
or_last false true false = refl
or_last false true true = refl
or_last true b c = refl

-- a call that declares one variable
record Declares (add : Dqbf → ℕ → Dqbf) : Type 0 where
  pub one : (f : Dqbf) (v w : ℕ) → is_declared (add f v) w ≡ (is_declared f w || (v == w))
  pub range : (f : Dqbf) (v : ℕ) → (add f v).variables ≡ f.variables

variable_list : List ReadExistential → List ℕ
variable_list ys = map (λ y. y.variable) ys

declares_universal : Declares add_universal
declares_universal = search (arith, list_any-append, or_moved)

declares_existential : (sees : Dqbf → List ℕ) → Declares (λ f y. add_existential f y (sees f))
declares_existential sees = search (arith, map-append, list_any-append, or_last)

module _ (add : Dqbf → ℕ → Dqbf) (declares : Declares add) where
  -- what is new behind one more was new
  earlier : (f : Dqbf) (v w : ℕ) → IsNew (add f v) w → IsNew f w
  earlier f v w new = record {
    from_one = new.from_one;
    in_range = subst (λ n. w ≤ n) (declares.range f v) new.in_range;
    undeclared = or_false (is_declared f w) (v == w) (sym (declares.one f v w) ∙ new.undeclared);
  }

  set_new : (f : Dqbf) (vs : List ℕ) → AreNew add f vs → AllByRecursion (IsNew f) vs
  set_new f [] new = tt
  set_new f (v ∷ vs) new = (new.0, rec_each (IsNew (add f v)) (IsNew f) (earlier f v) vs (set_new (add f v) vs new.1))

  set_apart : (f : Dqbf) (vs : List ℕ) → AreNew add f vs → Apart vs
  set_apart f [] new = tt
  set_apart f (v ∷ vs) new = (
    rec_each (IsNew (add f v)) (λ w. v ≢ w)
        (λ w is. unequal v w (or_second (is_declared f w) (v == w) (sym (declares.one f v w) ∙ is.undeclared)))
        vs (set_new (add f v) vs new.1),
    set_apart (add f v) vs new.1,
  )

  set_declares : (f : Dqbf) (vs : List ℕ) (w : ℕ) → is_declared (fold add f vs) w ≡ (is_declared f w || among vs w)
  set_declares f [] w = search arith
  set_declares f (v ∷ vs) w =
      set_declares (add f v) vs w
      ∙ (ap (λ b. b || among vs w) (declares.one f v w)
      ∙ or_assoc_left (is_declared f w) (v == w) (among vs w))

  set_range : (f : Dqbf) (vs : List ℕ) → (fold add f vs).variables ≡ f.variables
  set_range f [] = refl
  set_range f (v ∷ vs) = set_range (add f v) vs ∙ declares.range f v

part_new : (f : Dqbf) (part : ReadPart) → IsLawfulPart f part → AllByRecursion (IsNew f) (declared_in (page_part part))
part_new f (read_universals vs) lawful = set_new add_universal declares_universal f vs lawful
part_new f (read_existentials ys) lawful = set_new add_first (declares_existential (λ g. g.universals)) f ys lawful
part_new f (read_dependent y xs) lawful = (lawful.0, tt)

part_apart : (f : Dqbf) (part : ReadPart) → IsLawfulPart f part → Apart (declared_in (page_part part))
part_apart f (read_universals vs) lawful = set_apart add_universal declares_universal f vs lawful
part_apart f (read_existentials ys) lawful = set_apart add_first (declares_existential (λ g. g.universals)) f ys lawful
part_apart f (read_dependent y xs) lawful = (tt, tt)

part_declares : (f : Dqbf) (part : ReadPart) (w : ℕ) →
    is_declared (declare f part) w ≡ (is_declared f w || among (declared_in (page_part part)) w)
part_declares f (read_universals vs) w = set_declares add_universal declares_universal f vs w
part_declares f (read_existentials ys) w = set_declares add_first (declares_existential (λ g. g.universals)) f ys w
part_declares f (read_dependent y xs) w =
    set_declares (λ g v. add_existential g v (filter (among xs) g.universals))
    (declares_existential (λ g. filter (among xs) g.universals)) f (y ∷ []) w

part_range : (f : Dqbf) (part : ReadPart) → (declare f part).variables ≡ f.variables
part_range f (read_universals vs) = set_range add_universal declares_universal f vs
part_range f (read_existentials ys) = set_range add_first (declares_existential (λ g. g.universals)) f ys
part_range f (read_dependent y xs) = refl

cross : (xs ys : List ℕ) → AllByRecursion (λ y. among xs y ≡ false) ys →
    AllByRecursion (λ x. AllByRecursion (λ y. x ≢ y) ys) xs
cross [] ys none = tt
cross (x ∷ xs) ys none = (
  rec_each (λ y. among (x ∷ xs) y ≡ false) (λ y. x ≢ y) (λ y absent. unequal x y (or_false (x == y) (among xs y) absent)) ys none,
  cross xs ys (rec_each (λ y. among (x ∷ xs) y ≡ false) (λ y. among xs y ≡ false)
      (λ y absent. or_second (x == y) (among xs y) absent) ys none),
)

-- what the parts ahead declare
all_new : (f : Dqbf) (parts : List ReadPart) → AreLawfulParts f parts → AllByRecursion (IsNew f) (variables_in parts)
all_new f [] lawful = tt
all_new f (part ∷ parts) lawful =
    rec_append (IsNew f) (declared_in (page_part part)) (variables_in parts) (part_new f part lawful.0)
    (rec_each (IsNew (declare f part)) (IsNew f) before (variables_in parts) (all_new (declare f part) parts lawful.1))
  where
    before : (w : ℕ) → IsNew (declare f part) w → IsNew f w
    before w new = record {
      from_one = new.from_one;
      in_range = subst (λ n. w ≤ n) (part_range f part) new.in_range;
      undeclared = or_false (is_declared f w) (among (declared_in (page_part part)) w)
          (sym (part_declares f part w) ∙ new.undeclared);
    }

pub all_apart : (f : Dqbf) (parts : List ReadPart) → AreLawfulParts f parts → Apart (variables_in parts)
all_apart f [] lawful = tt
all_apart f (part ∷ parts) lawful =
    apart_append (declared_in (page_part part)) (variables_in parts) (part_apart f part lawful.0)
    (all_apart (declare f part) parts lawful.1)
    (cross (declared_in (page_part part)) (variables_in parts)
    (rec_each (IsNew (declare f part)) (λ w. among (declared_in (page_part part)) w ≡ false)
    (λ w new. or_second (is_declared f w) (among (declared_in (page_part part)) w) (sym (part_declares f part w) ∙ new.undeclared))
    (variables_in parts) (all_new (declare f part) parts lawful.1)))

pub all_in_range : (f : Dqbf) (parts : List ReadPart) → AreLawfulParts f parts →
    AllByRecursion (λ v. (1 ≤ v) × (v ≤ f.variables)) (variables_in parts)
all_in_range f parts lawful = search (arith, rec_each, all_new)

among_append : (xs ys : List ℕ) (w : ℕ) → among (xs ++ ys) w ≡ (among xs w || among ys w)
among_append xs ys w = list_any-append (λ x. x == w) xs ys

pub all_declared : (f : Dqbf) (parts : List ReadPart) (w : ℕ) →
    is_declared (fold declare f parts) w ≡ (is_declared f w || among (variables_in parts) w)
all_declared f [] w = search arith
all_declared f (part ∷ parts) w =
    all_declared (declare f part) parts w
    ∙ (ap (λ b. b || among (variables_in parts) w) (part_declares f part w)
    ∙ (or_assoc_left (is_declared f w) (among (declared_in (page_part part)) w) (among (variables_in parts) w)
    ∙ ap (λ b. is_declared f w || b) (sym (among_append (declared_in (page_part part)) (variables_in parts) w))))

pub all_range : (f : Dqbf) (parts : List ReadPart) → (fold declare f parts).variables ≡ f.variables
all_range f [] = refl
all_range f (part ∷ parts) = all_range (declare f part) parts ∙ part_range f part

-- the universals and the existentials, in order
universals_set : (f : Dqbf) (vs : List ℕ) → ((fold add_universal f vs).universals ≡ f.universals ++ vs)
    × ((fold add_universal f vs).existentials ≡ f.existentials)
universals_set f [] = (sym (append-nil f.universals), refl)
universals_set f (v ∷ vs) =
    let rest = universals_set (add_universal f v) vs in
    (rest.0 ∙ append_assoc f.universals (v ∷ []) vs, rest.1)

existentials_set : (f : Dqbf) (ys : List ℕ) → ((fold add_first f ys).universals ≡ f.universals)
    × ((fold add_first f ys).existentials ≡ f.existentials ++ map read_existential (map (seeing f.universals) ys))
existentials_set f [] = (refl, sym (append-nil f.existentials))
existentials_set f (y ∷ ys) =
    let rest = existentials_set (add_first f y) ys in (
      rest.0,
      rest.1 ∙ append_assoc f.existentials (record { variable = y; sees = f.universals } ∷ [])
          (map read_existential (map (seeing f.universals) ys)),
    )

pub all_universals : (f : Dqbf) (parts : List ReadPart) →
    (fold declare f parts).universals ≡ f.universals ++ flat_map universals_in (page_parts parts)
all_universals f [] = sym (append-nil f.universals)
all_universals f (read_universals vs ∷ parts) =
    all_universals (fold add_universal f vs) parts
    ∙ (ap (λ us. us ++ flat_map universals_in (page_parts parts)) (universals_set f vs).0
    ∙ append_assoc f.universals vs (flat_map universals_in (page_parts parts)))
all_universals f (read_existentials ys ∷ parts) =
    all_universals (fold add_first f ys) parts
    ∙ ap (λ us. us ++ flat_map universals_in (page_parts parts)) (existentials_set f ys).0
all_universals f (read_dependent y xs ∷ parts) = all_universals (add_listed f y xs) parts

pub all_existentials : (f : Dqbf) (parts : List ReadPart) → (fold declare f parts).existentials
    ≡ f.existentials ++ map read_existential (existentials_from f.universals (page_parts parts))
all_existentials f [] = sym (append-nil f.existentials)
all_existentials f (read_universals vs ∷ parts) =
    let set = universals_set f vs in
    all_existentials (fold add_universal f vs) parts
    ∙ (ap (λ ys. ys ++ map read_existential (existentials_from (fold add_universal f vs).universals (page_parts parts))) set.1
    ∙ ap (λ us. f.existentials ++ map read_existential (existentials_from us (page_parts parts))) set.0)
all_existentials f (read_existentials ys ∷ parts) =
    let set = existentials_set f ys in
    let here = map (seeing f.universals) ys in
    let later = existentials_from f.universals (page_parts parts) in
    all_existentials (fold add_first f ys) parts
    ∙ (ap (λ us. (fold add_first f ys).existentials ++ map read_existential (existentials_from us (page_parts parts))) set.0
    ∙ (ap (λ zs. zs ++ map read_existential later) set.1
    ∙ (append_assoc f.existentials (map read_existential here) (map read_existential later)
    ∙ ap (λ zs. f.existentials ++ zs) (sym (map-append read_existential here later)))))
all_existentials f (read_dependent y xs ∷ parts) =
    all_existentials (add_listed f y xs) parts
    ∙ append_assoc f.existentials (record { variable = y; sees = filter (among xs) f.universals } ∷ [])
    (map read_existential (existentials_from f.universals (page_parts parts)))

-- what a `d` line lists was declared before
seen_among : (f : Dqbf) (xs : List ℕ) → AllByRecursion (IsSeen f) xs → AllByRecursion (Contains f.universals) xs
seen_among f xs all = rec_each (IsSeen f) (Contains f.universals)
    (λ x seen. contains_tested f.universals x seen.2) xs all

pub all_listed : (f : Dqbf) (parts : List ReadPart) → AreLawfulParts f parts → AreListed f.universals (page_parts parts)
all_listed f [] lawful = tt
all_listed f (read_universals vs ∷ parts) lawful =
    subst (λ us. AreListed us (page_parts parts)) (universals_set f vs).0 (all_listed (fold add_universal f vs) parts lawful.1)
all_listed f (read_existentials ys ∷ parts) lawful =
    subst (λ us. AreListed us (page_parts parts)) (existentials_set f ys).0 (all_listed (fold add_first f ys) parts lawful.1)
all_listed f (read_dependent y xs ∷ parts) lawful =
    (All-from_recursion (Contains f.universals) xs (seen_among f xs lawful.0.1), all_listed (add_listed f y xs) parts lawful.1)
