-- Dependency sets as the prefix of a DQBF states them (DQDIMACS: `e` and `d` lines).
use Rattle.std.specs.Prelude.{◌≡◌, ℕ, ◌-◌, ◌==◌, ◌≤◌, Bool, false, List, ◌++◌, length, take, replicate}
use Rattle.std.specs.List.{list_any, filter}
use Rattle.dq_formula.specs.declared.dependencies.Deps.{Deps}
use Rattle.dq_formula.specs.declared.dependencies.Deps.TheVariants.{FirstOf, Listed}

-- the universals of the set, in order of declaration
abbrev pub dependencies : List ℕ → Deps → List ℕ
dependencies universals (FirstOf n) = take n universals
dependencies universals (Listed vars) = vars

-- those universals that are listed, in order of declaration
abbrev pub listed_universals : List ℕ → List ℕ → List ℕ
listed_universals universals listed = filter (λ u. list_any (λ x. x == u) listed) universals

-- the set is one of declared universals, each once and in order of declaration
abbrev pub IsDependencySet : List ℕ → Deps → Type 0
IsDependencySet universals (FirstOf n) = n ≤ length universals
IsDependencySet universals (Listed vars) = vars ≡ listed_universals universals vars

-- how many universals are in the set
abbrev pub dependency_count : Deps → ℕ
dependency_count (FirstOf n) = n
dependency_count (Listed vars) = length vars

-- the bits, and false behind them, so many in all
abbrev pub padded : ℕ → List Bool → List Bool
padded n bits = bits ++ replicate (n - length bits) false
