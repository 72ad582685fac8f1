-- Every row extends to an assignment that follows a choice.
use Rattle.std.proofs.Common.{◌≡◌, ◌≢◌, ℕ, zero, suc, ◌<◌, ◌+◌, ◌==◌, Bool, List, [], ◌∷◌, ◌++◌, map, length, get_or, Option, Some, None, refl, sym, ◌∙◌, ap, arith, length-append}
use Rattle.std.specs.List.{All, AllPairs, Contains, find, list_any}
use Rattle.std.proofs.Math.ListN.{get_or-append}
use Rattle.std.proofs.lemmas.Bool.{cond-true, cond-false, eq-eqb, ne_eqb}
use Rattle.std.proofs.lemmas.List.{get_or_default, get_or-append-add, get_or-map, length-map}
use Rattle.std.proofs.lemmas.List.Elements.{All-contains, All-head, All-tail, All-weaker}
use Rattle.dq_lits.specs.Literal.{Assignment}
use Rattle.dq_lits.specs.Formula.{Existential, Dqbf, existential_of, HasLawfulPrefix}
use Rattle.dq_lits.specs.Henkin.{same_bits, HenkinChoice, choice_value, Follows}

abbrev pub variable : Existential → ℕ
variable y = y.variable

-- the first existential with a variable is the one that declares it
pub find_own : (ys : List Existential) (k : ℕ) (d : Existential) → k < length ys →
    AllPairs (λ v w. v ≢ w) (map variable ys) →
    find (λ z. z.variable == (get_or ys k d).variable) ys ≡ Some (get_or ys k d)
find_own [] k d below once = absurd (omega arith)
find_own (y ∷ ys) zero d below once = cond-true (y.variable == y.variable) (Some y) _
    (eq-eqb y.variable y.variable refl)
find_own (y ∷ ys) (suc k) d below once =
    let here : k < length ys = omega arith in
    let v = get_or ys k d in
    let in_map : k < length (map variable ys) = rw (length-map ys variable) here in
    let at : get_or (map variable ys) k 0 ≡ v.variable = get_or-map variable ys k d 0 here in
    let other : y.variable ≢ v.variable = λ e. once 0 (suc k) 0 (omega arith) (omega (arith, in_map)) (e ∙ sym at) in
    cond-false (y.variable == v.variable) (Some y) _ (ne_eqb y.variable v.variable other)
    ∙ find_own ys k d here (λ i j e below' inside. once (suc i) (suc j) e (omega arith) (omega arith))

-- a variable that no existential has
find_none : (ys : List Existential) (v : ℕ) → ((k : ℕ) → k < length ys → get_or (map variable ys) k 0 ≢ v) →
    find (λ z. z.variable == v) ys ≡ None
find_none [] v apart = refl
find_none (y ∷ ys) v apart =
    cond-false (y.variable == v) (Some y) _ (ne_eqb y.variable v (apart 0 (omega arith)))
    ∙ find_none ys v (λ k below. apart (suc k) (omega arith))

abbrev pub value_or : HenkinChoice → Assignment → ℕ → Option Existential → Bool
value_or choice m v None = m v
value_or choice m v (Some y) = choice_value choice y m

-- the universals as in m, the existentials as the choice has them there
abbrev pub follower : Dqbf → HenkinChoice → Assignment → Assignment
follower f choice m v = value_or choice m v (existential_of f v)

-- equal bits everywhere in a list
pub map-agree : (m n : Assignment) (xs : List ℕ) → All (λ x. m x ≡ n x) xs → map m xs ≡ map n xs
map-agree m n [] h = refl
map-agree m n (x ∷ xs) h =
    let first : m x ≡ n x = All-head (λ z. m z ≡ n z) x xs h in
    let rest = map-agree m n xs (All-tail (λ z. m z ≡ n z) x xs h) in
    ap (λ b. b ∷ map m xs) first ∙ ap (λ bs. n x ∷ bs) rest

declared_apart : (us : List ℕ) (ys : List Existential) → AllPairs (λ v w. v ≢ w) (us ++ map variable ys) →
    (k d : ℕ) → k < length us → (j : ℕ) → j < length ys → get_or (map variable ys) j 0 ≢ get_or us k d
declared_apart us ys once k d below j inside e =
    let es = map variable ys in
    let in_map : length es ≡ length ys = length-map ys variable in
    let left : get_or (us ++ es) k 0 ≡ get_or us k 0 = get_or-append us es 0 k below in
    let right : get_or (us ++ es) (length us + j) 0 ≡ get_or es j 0 = get_or-append-add us es j 0 in
    let same : get_or us k 0 ≡ get_or us k d = get_or_default us k 0 d below in
    once k (length us + j) 0 (omega arith) (omega (arith, in_map, length-append us es))
    (left ∙ same ∙ sym e ∙ sym right)

pub existentials_once : (us : List ℕ) (ys : List Existential) → AllPairs (λ v w. v ≢ w) (us ++ map variable ys) →
    AllPairs (λ v w. v ≢ w) (map variable ys)
existentials_once us ys once i j d order inside e =
    let es = map variable ys in
    once (length us + i) (length us + j) d (omega arith) (omega (arith, length-append us es))
    (get_or-append-add us es i d ∙ e ∙ sym (get_or-append-add us es j d))

pub follower_keeps_universals : (f : Dqbf) → HasLawfulPrefix f → (choice : HenkinChoice) (m : Assignment) →
    All (λ x. follower f choice m x ≡ m x) f.universals
follower_keeps_universals f lawful choice m k d below =
    let x = get_or f.universals k d in
    ap (value_or choice m x) (find_none f.existentials x (declared_apart f.universals f.existentials
    lawful.declared_once k d below))

pub follower_follows : (f : Dqbf) → HasLawfulPrefix f → (choice : HenkinChoice) (m : Assignment) →
    Follows f choice (follower f choice m)
follower_follows f lawful choice m k d below =
    let y = get_or f.existentials k d in
    let n = follower f choice m in
    let own = find_own f.existentials k d below (existentials_once f.universals f.existentials lawful.declared_once) in
    let kept : All (λ x. m x ≡ n x) y.sees =
    All-weaker (Contains f.universals) (λ x. m x ≡ n x)
    (λ x inside. sym (All-contains (λ z. n z ≡ m z) f.universals x
    (follower_keeps_universals f lawful choice m) inside))
    y.sees (lawful.sees_universals k d below) in
    ap (value_or choice m y.variable) own
    ∙ ap (λ bits. list_any (same_bits bits) (choice y)) (map-agree m n y.sees kept)
