-- A text spells one formula: its tokens one list of symbols, and these one formula.
use Rattle.std.proofs.Common.{◌≡◌, ℕ, ◌≤◌, ◌==◌, ◌⊎◌, inl, inr, Bool, true, false, not, ◌&&◌, List, [], ◌∷◌, ◌++◌, map, refl, sym, ◌∙◌, ap, subst, arith, append_assoc}
use Rattle.std.specs.Char.{is_ascii_digit}
use Rattle.std.specs.List.{All, AllByRecursion, AllZip, Contains, flat_map, list_all}
use Rattle.std.proofs.lemmas.List.Elements.{All-contains, All-from_recursion, All-weaker, recursion_from_All}
use Rattle.headline.specs.Headline.{AreListed, Constraint, Formula, IsNatural, Literal, PrefixPart, Spells, SpellsFormula, Symbol, clause, constraint_symbols, declared_in, dependent, existentials, formula_symbols, literal_symbol, literals_of, natural, negative, numbers, opposite, part_symbols, positive, tokens, universals, variable_of, word, xor}

-- ---- a token spells one symbol

-- neither a digit nor a sign
abbrev begins_word : List ℕ → Bool
begins_word [] = false
begins_word (byte ∷ _) = not (is_ascii_digit byte) && not (byte == 45)

abbrev IsPlain : Symbol → Type 0
IsPlain (word text) = begins_word text ≡ true
IsPlain (natural n) = Unit {0}
IsPlain (negative n) = Unit {0}

no_number : (token : List ℕ) (n : ℕ) → begins_word token ≡ true → IsNatural token n → ⊥
no_number [] n first number = number.some refl
no_number (byte ∷ bytes) n first number =
    both (is_ascii_digit byte) (not (byte == 45)) (list_all is_ascii_digit bytes) first number.digits
  where
    both : (digit other more : Bool) → (not digit && other) ≡ true → (digit && more) ≡ true → ⊥
    both true other more first digits = cc
    both false other more first digits = cc

no_sign : (token digits : List ℕ) → begins_word token ≡ true → token ≡ 45 ∷ digits → ⊥
no_sign token digits first is =
    let signed : begins_word (45 ∷ digits) ≡ true = subst (λ t. begins_word t ≡ true) is first in
    cc

no_digit : (token digits : List ℕ) (n : ℕ) → token ≡ 45 ∷ digits → IsNatural token n → ⊥
no_digit token digits n is number =
    let signed : list_all is_ascii_digit (45 ∷ digits) ≡ true =
    subst (λ t. list_all is_ascii_digit t ≡ true) is number.digits in
    cc

abbrev behind_first : List ℕ → List ℕ
behind_first [] = []
behind_first (_ ∷ bytes) = bytes

plain_as : (token text : List ℕ) → begins_word text ≡ true → token ≡ text → begins_word token ≡ true
plain_as token text plain is = subst (λ t. begins_word t ≡ true) (sym is) plain

same_symbol : (token : List ℕ) (s u : Symbol) → IsPlain s → IsPlain u → Spells token s → Spells token u → s ≡ u
same_symbol token (word v) (word w) p q a b = ap word (sym a ∙ b)
same_symbol token (word v) (natural n) p q a b = absurd (no_number token n (plain_as token v p a) b)
same_symbol token (word v) (negative n) p q a b = absurd (no_sign token b.0 (plain_as token v p a) b.1)
same_symbol token (natural n) (word w) p q a b = absurd (no_number token n (plain_as token w q b) a)
same_symbol token (natural n) (natural k) p q a b = ap natural (a.value ∙ sym b.value)
same_symbol token (natural n) (negative k) p q a b = absurd (no_digit token b.0 n b.1 a)
same_symbol token (negative n) (word w) p q a b = absurd (no_sign token a.0 (plain_as token w q b) a.1)
same_symbol token (negative n) (natural k) p q a b = absurd (no_digit token a.0 k a.1 b)
same_symbol token (negative n) (negative k) p q a b =
    let digits : a.0 ≡ b.0 = ap behind_first (sym a.1 ∙ b.1) in
    let number : IsNatural b.0 n = subst (λ d. IsNatural d n) digits a.2 in
    ap negative (number.value ∙ sym b.2.value)

abbrev pub ArePlain : List Symbol → Type 0
ArePlain [] = Unit {0}
ArePlain (s ∷ ss) = IsPlain s × ArePlain ss

pub same_symbols : (ts : List (List ℕ)) (ss us : List Symbol) → ArePlain ss → ArePlain us → AllZip Spells ts ss →
    AllZip Spells ts us → ss ≡ us
same_symbols [] [] [] p q a b = refl
same_symbols [] [] (u ∷ us) p q a b = absurd b
same_symbols [] (s ∷ ss) us p q a b = absurd a
same_symbols (t ∷ ts) [] us p q a b = absurd a
same_symbols (t ∷ ts) (s ∷ ss) [] p q a b = absurd b
same_symbols (t ∷ ts) (s ∷ ss) (u ∷ us) p q a b =
    ap (λ x. x ∷ ss) (same_symbol t s u p.0 q.0 a.0 b.0) ∙ ap (λ xs. u ∷ xs) (same_symbols ts ss us p.1 q.1 a.1 b.1)

-- ---- the symbols of a formula are such

plain_append : (ss us : List Symbol) → ArePlain ss → ArePlain us → ArePlain (ss ++ us)
plain_append [] us p q = q
plain_append (s ∷ ss) us p q = (p.0, plain_append ss us p.1 q)

plain_numbers : (vs : List ℕ) → ArePlain (numbers vs)
plain_numbers [] = (tt, tt)
plain_numbers (v ∷ vs) = (tt, plain_numbers vs)

plain_part : (p : PrefixPart) → ArePlain (part_symbols p)
plain_part (universals vs) = (refl, plain_numbers vs)
plain_part (existentials ys) = (refl, plain_numbers ys)
plain_part (dependent y xs) = (refl, (tt, plain_numbers xs))

plain_parts : (ps : List PrefixPart) → ArePlain (flat_map part_symbols ps)
plain_parts [] = tt
plain_parts (p ∷ ps) = plain_append (part_symbols p) (flat_map part_symbols ps) (plain_part p) (plain_parts ps)

-- literals and 0
abbrev pub ended : List Literal → List Symbol
ended ls = map literal_symbol ls ++ natural 0 ∷ []

pub plain_literals : (ls : List Literal) → ArePlain (ended ls)
plain_literals [] = (tt, tt)
plain_literals (positive v ∷ ls) = (tt, plain_literals ls)
plain_literals (opposite v ∷ ls) = (tt, plain_literals ls)

plain_constraint : (c : Constraint) → ArePlain (constraint_symbols c)
plain_constraint (clause ls) = plain_literals ls
plain_constraint (xor ls) = (refl, plain_literals ls)

plain_constraints : (cs : List Constraint) → ArePlain (flat_map constraint_symbols cs)
plain_constraints [] = tt
plain_constraints (c ∷ cs) =
    plain_append (constraint_symbols c) (flat_map constraint_symbols cs) (plain_constraint c) (plain_constraints cs)

plain_formula : (f : Formula) → ArePlain (formula_symbols f)
plain_formula f = (
  refl,
  (
    refl,
    (
      tt,
      (
        tt,
        plain_append (flat_map part_symbols f.parts) (flat_map constraint_symbols f.constraints) (plain_parts f.parts)
            (plain_constraints f.constraints),
      ),
    ),
  ),
)

-- ---- symbols in front

abbrev pub rest : List Symbol → List Symbol
rest [] = []
rest (_ ∷ ss) = ss

abbrev number : Symbol → ℕ
number (word _) = 0
number (natural n) = n
number (negative n) = n

abbrev first_number : List Symbol → ℕ
first_number [] = 0
first_number (s ∷ _) = number s

-- 0 for none, 1 for a number, and else the word's first letter
abbrev pub kind : List Symbol → ℕ
kind [] = 0
kind (natural _ ∷ _) = 1
kind (negative _ ∷ _) = 1
kind (word [] ∷ _) = 1
kind (word (byte ∷ _) ∷ _) = byte

abbrev pub Positive : List ℕ → Type 0
Positive vs = AllByRecursion (λ v. 1 ≤ v) vs

numbers_same : (vs ws : List ℕ) (ss us : List Symbol) → Positive vs → Positive ws →
    numbers vs ++ ss ≡ numbers ws ++ us → (vs ≡ ws) × (ss ≡ us)
numbers_same [] [] ss us p q e = (refl, ap rest e)
numbers_same [] (w ∷ ws) ss us p q e = let none = ap first_number e in absurd (omega (arith, none, q.0))
numbers_same (v ∷ vs) [] ss us p q e = let none = ap first_number e in absurd (omega (arith, none, p.0))
numbers_same (v ∷ vs) (w ∷ ws) ss us p q e =
    let more = numbers_same vs ws ss us p.1 q.1 (ap rest e) in
    (ap (λ x. x ∷ vs) (ap first_number e) ∙ ap (λ xs. w ∷ xs) more.0, more.1)

-- ---- constraints

abbrev pub AreNamed : List Literal → Type 0
AreNamed ls = Positive (map variable_of ls)

literal_same : (k l : Literal) → literal_symbol k ≡ literal_symbol l → k ≡ l
literal_same (positive v) (positive w) e = ap positive (ap number e)
literal_same (positive v) (opposite w) e = cc
literal_same (opposite v) (positive w) e = cc
literal_same (opposite v) (opposite w) e = ap opposite (ap number e)

literal_number : (l : Literal) → number (literal_symbol l) ≡ variable_of l
literal_number (positive v) = refl
literal_number (opposite v) = refl

abbrev first : List Symbol → Symbol
first [] = natural 0
first (s ∷ _) = s

pub literals_same : (ks ls : List Literal) (ss us : List Symbol) → AreNamed ks → AreNamed ls →
    ended ks ++ ss ≡ ended ls ++ us → (ks ≡ ls) × (ss ≡ us)
literals_same [] [] ss us p q e = (refl, ap rest e)
literals_same [] (l ∷ ls) ss us p q e =
    let none = ap first_number e in let is = literal_number l in absurd (omega (arith, none, is, q.0))
literals_same (k ∷ ks) [] ss us p q e =
    let none = ap first_number e in let is = literal_number k in absurd (omega (arith, none, is, p.0))
literals_same (k ∷ ks) (l ∷ ls) ss us p q e =
    let more = literals_same ks ls ss us p.1 q.1 (ap rest e) in
    (ap (λ x. x ∷ ks) (literal_same k l (ap first e)) ∙ ap (λ xs. l ∷ xs) more.0, more.1)

clause_kind : (ls : List Literal) (ss : List Symbol) → kind (ended ls ++ ss) ≡ 1
clause_kind [] ss = refl
clause_kind (positive v ∷ ls) ss = refl
clause_kind (opposite v ∷ ls) ss = refl

constraint_same : (c d : Constraint) (ss us : List Symbol) → AreNamed (literals_of c) → AreNamed (literals_of d) →
    constraint_symbols c ++ ss ≡ constraint_symbols d ++ us → (c ≡ d) × (ss ≡ us)
constraint_same (clause ks) (clause ls) ss us p q e =
    let same = literals_same ks ls ss us p q e in (ap clause same.0, same.1)
constraint_same (clause ks) (xor ls) ss us p q e =
    let other = ap kind e in let one = clause_kind ks ss in absurd (omega (arith, other, one))
constraint_same (xor ks) (clause ls) ss us p q e =
    let other = ap kind e in let one = clause_kind ls us in absurd (omega (arith, other, one))
constraint_same (xor ks) (xor ls) ss us p q e =
    let same = literals_same ks ls ss us p q (ap rest e) in (ap xor same.0, same.1)

-- a number or `x` stands first
constraint_kind : (c : Constraint) (ss : List Symbol) →
    (kind (constraint_symbols c ++ ss) ≡ 1) ⊎ (kind (constraint_symbols c ++ ss) ≡ 120)
constraint_kind (clause ls) ss = inl (clause_kind ls ss)
constraint_kind (xor ls) ss = inr refl

never_none : (c : Constraint) (ss : List Symbol) → kind (constraint_symbols c ++ ss) ≡ 0 → ⊥
never_none c ss none = elim (constraint_kind c ss) [
  | inl is ↦ omega (arith, is, none)
  | inr is ↦ omega (arith, is, none)
]

abbrev AllNamed : List Constraint → Type 0
AllNamed [] = Unit {0}
AllNamed (c ∷ cs) = AreNamed (literals_of c) × AllNamed cs

constraints_same : (cs ds : List Constraint) → AllNamed cs → AllNamed ds →
    flat_map constraint_symbols cs ≡ flat_map constraint_symbols ds → cs ≡ ds
constraints_same [] [] p q e = refl
constraints_same [] (d ∷ ds) p q e = absurd (never_none d (flat_map constraint_symbols ds) (sym (ap kind e)))
constraints_same (c ∷ cs) [] p q e = absurd (never_none c (flat_map constraint_symbols cs) (ap kind e))
constraints_same (c ∷ cs) (d ∷ ds) p q e =
    let same = constraint_same c d (flat_map constraint_symbols cs) (flat_map constraint_symbols ds) p.0 q.0 e in
    ap (λ x. x ∷ cs) same.0 ∙ ap (λ xs. d ∷ xs) (constraints_same cs ds p.1 q.1 same.1)

-- ---- parts

abbrev IsNumbered : PrefixPart → Type 0
IsNumbered (universals vs) = Positive vs
IsNumbered (existentials ys) = Positive ys
IsNumbered (dependent y xs) = Positive xs

part_same : (p q : PrefixPart) (ss us : List Symbol) → IsNumbered p → IsNumbered q →
    part_symbols p ++ ss ≡ part_symbols q ++ us → (p ≡ q) × (ss ≡ us)
part_same (universals vs) (universals ws) ss us a b e =
    let same = numbers_same vs ws ss us a b (ap rest e) in (ap universals same.0, same.1)
part_same (universals vs) (existentials ws) ss us a b e = let other = ap kind e in absurd (omega (arith, other))
part_same (universals vs) (dependent w ws) ss us a b e = let other = ap kind e in absurd (omega (arith, other))
part_same (existentials vs) (universals ws) ss us a b e = let other = ap kind e in absurd (omega (arith, other))
part_same (existentials vs) (existentials ws) ss us a b e =
    let same = numbers_same vs ws ss us a b (ap rest e) in (ap existentials same.0, same.1)
part_same (existentials vs) (dependent w ws) ss us a b e = let other = ap kind e in absurd (omega (arith, other))
part_same (dependent v vs) (universals ws) ss us a b e = let other = ap kind e in absurd (omega (arith, other))
part_same (dependent v vs) (existentials ws) ss us a b e = let other = ap kind e in absurd (omega (arith, other))
part_same (dependent v vs) (dependent w ws) ss us a b e =
    let same = numbers_same vs ws ss us a b (ap (λ ps. rest (rest ps)) e) in
    (ap (λ y. dependent y vs) (ap (λ ps. first_number (rest ps)) e) ∙ ap (dependent w) same.0, same.1)

-- `a`, `e` or `d` stands first
part_kind : (p : PrefixPart) (ss us : List Symbol) →
    (97 ≤ kind (part_symbols p ++ ss ++ us)) × (kind (part_symbols p ++ ss ++ us) ≤ 101)
part_kind (universals vs) ss us = (omega arith, omega arith)
part_kind (existentials ys) ss us = (omega arith, omega arith)
part_kind (dependent y xs) ss us = (omega arith, omega arith)

constraints_kind : (cs : List Constraint) → (kind (flat_map constraint_symbols cs) ≤ 1)
    ⊎ (kind (flat_map constraint_symbols cs) ≡ 120)
constraints_kind [] = inl (omega arith)
constraints_kind (c ∷ cs) = elim (constraint_kind c (flat_map constraint_symbols cs)) [
  | inl is ↦ inl (omega (arith, is))
  | inr is ↦ inr is
]

not_both : (p : PrefixPart) (ss us : List Symbol) (cs : List Constraint) →
    kind (flat_map constraint_symbols cs) ≡ kind (part_symbols p ++ ss ++ us) → ⊥
not_both p ss us cs same =
    let of_part = part_kind p ss us in
    elim (constraints_kind cs) [
      | inl is ↦ omega (arith, is, same, of_part.0)
      | inr is ↦ omega (arith, is, same, of_part.1)
    ]

abbrev AllNumbered : List PrefixPart → Type 0
AllNumbered [] = Unit {0}
AllNumbered (p ∷ ps) = IsNumbered p × AllNumbered ps

abbrev spelled_with : List PrefixPart → List Constraint → List Symbol
spelled_with ps cs = flat_map part_symbols ps ++ flat_map constraint_symbols cs

parts_same : (ps qs : List PrefixPart) (cs ds : List Constraint) → AllNumbered ps → AllNumbered qs → AllNamed cs →
    AllNamed ds → spelled_with ps cs ≡ spelled_with qs ds → (ps ≡ qs) × (cs ≡ ds)
parts_same [] [] cs ds a b p q e = (refl, constraints_same cs ds p q e)
parts_same [] (other ∷ qs) cs ds a b p q e =
    absurd (not_both other (flat_map part_symbols qs) (flat_map constraint_symbols ds) cs (ap kind e))
parts_same (one ∷ ps) [] cs ds a b p q e =
    absurd (not_both one (flat_map part_symbols ps) (flat_map constraint_symbols cs) ds (sym (ap kind e)))
parts_same (one ∷ ps) (other ∷ qs) cs ds a b p q e =
    let ss = flat_map part_symbols ps in
    let us = flat_map part_symbols qs in
    let joined = sym (append_assoc (part_symbols one) ss (flat_map constraint_symbols cs))
    ∙ (e ∙ append_assoc (part_symbols other) us (flat_map constraint_symbols ds)) in
    let same = part_same one other (ss ++ flat_map constraint_symbols cs) (us ++ flat_map constraint_symbols ds) a.0 b.0
    joined in
    let more = parts_same ps qs cs ds a.1 b.1 p q same.1 in
    (ap (λ x. x ∷ ps) same.0 ∙ ap (λ xs. other ∷ xs) more.0, more.1)

-- ---- its numbers are positive

pub before_part : (xs ys : List ℕ) → Positive (xs ++ ys) → Positive xs
before_part [] ys all = tt
before_part (x ∷ xs) ys all = (all.0, before_part xs ys all.1)

pub behind_part : (xs ys : List ℕ) → Positive (xs ++ ys) → Positive ys
behind_part [] ys all = all
behind_part (x ∷ xs) ys all = behind_part xs ys all.1

pub both_parts : (xs ys : List ℕ) → Positive xs → Positive ys → Positive (xs ++ ys)
both_parts [] ys a b = b
both_parts (x ∷ xs) ys a b = (a.0, both_parts xs ys a.1 b)

listed_positive : (before xs : List ℕ) → Positive before → All (Contains before) xs → Positive xs
listed_positive before xs known listed =
    recursion_from_All (λ x. 1 ≤ x) xs
    (All-weaker (Contains before) (λ x. 1 ≤ x)
    (λ x there. All-contains (λ v. 1 ≤ v) before x (All-from_recursion (λ v. 1 ≤ v) before known) there) xs listed)

numbered_parts : (before : List ℕ) (ps : List PrefixPart) → Positive before → Positive (flat_map declared_in ps) →
    AreListed before ps → AllNumbered ps
numbered_parts before [] known all listed = tt
numbered_parts before (universals vs ∷ ps) known all listed =
    let own = before_part vs (flat_map declared_in ps) all in (
      own,
      numbered_parts (before ++ vs) ps (both_parts before vs known own) (behind_part vs (flat_map declared_in ps) all)
          listed,
    )
numbered_parts before (existentials ys ∷ ps) known all listed = (
  before_part ys (flat_map declared_in ps) all,
  numbered_parts before ps known (behind_part ys (flat_map declared_in ps) all) listed,
)
numbered_parts before (dependent y xs ∷ ps) known all listed = (
  listed_positive before xs known listed.0,
  numbered_parts before ps known all.1 listed.1,
)

named_constraints : (cs : List Constraint) → Positive (flat_map (λ c. map variable_of (literals_of c)) cs) → AllNamed cs
named_constraints [] all = tt
named_constraints (c ∷ cs) all =
    let own = map variable_of (literals_of c) in
    let others = flat_map (λ d. map variable_of (literals_of d)) cs in
    (before_part own others all, named_constraints cs (behind_part own others all))

-- ---- one formula

record HasNumbers (f : Formula) : Type 0 where
  pub parts : AllNumbered f.parts
  pub constraints : AllNamed f.constraints

has_numbers : (text : List ℕ) (f : Formula) → SpellsFormula text f → HasNumbers f
has_numbers text f s =
    let declared = flat_map declared_in f.parts in
    let others = flat_map (λ c. map variable_of (literals_of c)) f.constraints in
    let all = recursion_from_All (λ v. 1 ≤ v) (declared ++ others)
    (All-weaker (λ v. (1 ≤ v) × (v ≤ f.variables)) (λ v. 1 ≤ v) (λ v both. both.0) (declared ++ others) s.in_range) in
    record {
      parts = numbered_parts [] f.parts tt (before_part declared others all) s.listed;
      constraints = named_constraints f.constraints (behind_part declared others all);
    }

same_fields : (f g : Formula) → f.variables ≡ g.variables → f.parts ≡ g.parts → f.constraints ≡ g.constraints → f ≡ g
same_fields f g variables parts constraints =
    ap (λ n. record { variables = n; parts = f.parts; constraints = f.constraints }) variables
    ∙ (ap (λ ps. record { variables = g.variables; parts = ps; constraints = f.constraints }) parts
    ∙ ap (λ cs. record { variables = g.variables; parts = g.parts; constraints = cs }) constraints)

pub one_formula : (text : List ℕ) (f g : Formula) → SpellsFormula text f → SpellsFormula text g → f ≡ g
one_formula text f g of_f of_g =
    let symbols = same_symbols (tokens text) (formula_symbols f) (formula_symbols g) (plain_formula f) (plain_formula g)
    of_f.spelled of_g.spelled in
    let a = has_numbers text f of_f in
    let b = has_numbers text g of_g in
    let same = parts_same f.parts g.parts f.constraints g.constraints a.parts b.parts a.constraints b.constraints
    (ap (λ ss. rest (rest (rest (rest ss)))) symbols) in
    same_fields f g (ap (λ ss. first_number (rest (rest ss))) symbols) same.0 same.1
