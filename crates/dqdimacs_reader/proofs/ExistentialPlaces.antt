-- A list of existentials, walked by place.
use Rattle.std.proofs.Common.{◌≡◌, ℕ, ◌+◌, ◌<◌, List, ◌++◌, length, drop, get_or, Option, Some, refl, sym, ◌∙◌, ap, subst, All, append_assoc, IsSome}
use Rattle.std.specs.List.{flat_map}
use Rattle.std.proofs.lemmas.List.{get_or-map, drop_more}
use Rattle.std.proofs.lemmas.List.Elements.{All-get_or}
use Rattle.dq_lits.specs.Formula.{Existential, Dqbf, existential_of}
use Rattle.dq_formula.specs.Prefix.{existential_variables, unseeing}
use Rattle.dq_formula.proofs.Places.{existential_below}

abbrev pub existential_at : Dqbf → ℕ → Existential
existential_at f i = get_or f.existentials i (unseeing 0)

pub variable_at : (f : Dqbf) (i : ℕ) → i < length f.existentials →
    get_or (existential_variables f) i 0 ≡ (existential_at f i).variable
variable_at f i below = get_or-map (λ y. y.variable) f.existentials i (unseeing 0) 0 below

pub named_at : (f : Dqbf) (i : ℕ) → All (λ y. existential_of f y.variable ≡ Some y) f.existentials →
    i < length f.existentials →
    existential_of f (get_or (existential_variables f) i 0) ≡ Some (existential_at f i)
named_at f i named below =
    ap (existential_of f) (variable_at f i below)
    ∙ All-get_or (λ y. existential_of f y.variable ≡ Some y) f.existentials i (unseeing 0) below named

pub named_in : (f : Dqbf) (vars : List ℕ) (i : ℕ) → All (λ y. existential_of f y.variable ≡ Some y) f.existentials →
    vars ≡ existential_variables f → i < length vars → existential_of f (get_or vars i 0) ≡ Some (existential_at f i)
named_in f vars i named are below =
    ap (λ vs. existential_of f (get_or vs i 0)) are ∙ named_at f i named (existential_below f vars i are below)

pub is_of : (f : Dqbf) (vars : List ℕ) (i : ℕ) → vars ≡ existential_variables f → i < length vars →
    (existential_at f i).variable ≡ get_or vars i 0
is_of f vars i are below =
    sym (ap (λ vs. get_or vs i 0) are ∙ variable_at f i (existential_below f vars i are below))

pub is_some : {X : Type 0} (x : Option X) (y : X) → x ≡ Some y → IsSome x
is_some x y is = subst IsSome (sym is) refl

-- an element's bytes move in front of those of the elements behind it
pub one_more : {X : Type 0} (bytes_of : X → List ℕ) (xs : List X) (i : ℕ) (d : X) (old new start : List ℕ) →
    i < length xs →
    new ≡ old ++ bytes_of (get_or xs i d) → old ++ flat_map bytes_of (drop i xs) ≡ start →
    new ++ flat_map bytes_of (drop (i + 1) xs) ≡ start
one_more bytes_of xs i d old new start below grown so_far =
    ap (λ bytes. bytes ++ flat_map bytes_of (drop (i + 1) xs)) grown
    ∙ append_assoc old (bytes_of (get_or xs i d)) (flat_map bytes_of (drop (i + 1) xs))
    ∙ ap (λ ys. old ++ flat_map bytes_of ys) (sym (drop_more xs i d below))
    ∙ so_far
