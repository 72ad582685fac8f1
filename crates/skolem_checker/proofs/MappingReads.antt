-- What a reading of the mapping gives.
use Rattle.std.proofs.Common.{◌≡◌, ℕ, suc, ◌+◌, ◌-◌, ◌<◌, ◌≤◌, ◌==◌, Bool, true, false, ◌||◌, List, [], ◌∷◌, ◌++◌, length, set, refl, sym, ◌∙◌, arith, Ok, Err, is_some}
use Rattle.std.proofs.lemmas.Bool.{cases_eq, eq-eqb, ne_eqb}
use Rattle.std.proofs.lemmas.List.{get_or-set_same, get_or-set_other}
use Rattle.std.proofs.lemmas.List.Elements.{All-contains}
use Rattle.std.proofs.lemmas.List.Folds.{list_any-append}
use Rattle.list_laws.proofs.Truths.{or_true}
use Rattle.dq_lits.specs.Formula.{Dqbf, declared, existential_of, HasLawfulPrefix}
use Rattle.dq_formula.proofs.Places.{has, contains-has}
use Rattle.dq_formula.proofs.Entries.{is_some-find, list_any-map}
use Rattle.aiger_text.specs.Symbol.{SymbolTable}
use Rattle.skolem_checker.specs.Mapping.{declares, symbol_at, place_of, symbol_variable, named_from}
use Rattle.skolem_checker.specs.MappingReading.{IsSeen}
use Rattle.skolem_checker.specs.declared.mapping.Kind.{Kind}
use Rattle.skolem_checker.specs.declared.mapping.Kind.TheVariants.{Inputs, Outputs}
use Rattle.skolem_checker.specs.declared.mapping.MapName.{MapName}

pub existential-declared : (f : Dqbf) (v : ℕ) → is_some (existential_of f v) ≡ declares f Outputs v
existential-declared f v =
    is_some-find (λ y. y.variable == v) f.existentials ∙ sym
    (list_any-map (λ w. w == v) (λ y. y.variable) f.existentials)

or_left : (a b : Bool) → a ≡ true → (a || b) ≡ true
or_left true b h = refl
or_left false b h = cc

either-declared : (f : Dqbf) (kind : Kind) (v : ℕ) → declares f kind v ≡ true → has (declared f) v ≡ true
either-declared f Inputs v h = search (arith, list_any-append, or_left)
either-declared f Outputs v h = search (arith, list_any-append, or_true)

pub declared-in_range : (f : Dqbf) (kind : Kind) (v : ℕ) → HasLawfulPrefix f → declares f kind v ≡ true →
    v ≤ f.variables
declared-in_range f kind v lawful h = search (arith, All-contains, contains-has, either-declared)

-- a mark behind the others
pub seen-set : (bits : List Bool) (vs : List ℕ) (v : ℕ) → v < length bits → IsSeen bits vs →
    IsSeen (set bits v true) (vs ++ v ∷ [])
seen-set bits vs v below seen w =
    search (arith, cases_eq, get_or-set_same, list_any-append, eq-eqb, or_true, get_or-set_other, ne_eqb)

-- one place more, or the first fault
one_less : (count place : ℕ) → place < count → count - place ≡ suc (count - (place + 1))
one_less count place below = omega arith

pub named-step : (f : Dqbf) (kind : Kind) (symbols : SymbolTable) (count place v : ℕ) (earlier : List ℕ)
    → place < count → symbol_variable f kind earlier (symbol_at symbols kind place) ≡ Ok v
    → named_from f kind symbols (count - place) place earlier ≡ named_from f kind symbols (count - (place + 1))
    (place + 1) (earlier ++ v ∷ [])
named-step f kind symbols count place v earlier below h = search arith

pub named-fault : (f : Dqbf) (kind : Kind) (symbols : SymbolTable) (count place : ℕ) (name : MapName) (earlier : List ℕ)
    → place < count → symbol_variable f kind earlier (symbol_at symbols kind place) ≡ Err name
    → named_from f kind symbols (count - place) place earlier ≡ Err (record { name = name; at = place_of kind place })
named-fault f kind symbols count place name earlier below h = search arith
