-- What holds of the numbers of a lawful formula's variables and of pairs.
use Rattle.std.proofs.Common.{◌≡◌, ℕ, ◌≤◌, nat_lt, true, is_some, arith}
use Rattle.std.specs.List.{AllByRecursion}
use Rattle.std.proofs.lemmas.Bool.{and_parts}
use Rattle.std.proofs.lemmas.List.Elements.{recursion_from_All}
use Rattle.list_laws.proofs.Sequences.{all_before, positive}
use Rattle.list_laws.proofs.Truths.{nonzero}
use Rattle.dq_lits.specs.Formula.{Dqbf}
use Rattle.dq_formula.specs.Prefix.{IsLawful}
use Rattle.cert_text.specs.Pairs.{is_pair_number}

-- pairs have numbers from 1 on
pub pair_positive : (f : Dqbf) (rows v : ℕ) → is_pair_number f rows v ≡ true → 1 ≤ v
pair_positive f rows v h = search (arith, and_parts, nat_lt, is_some, nonzero)

pub universals_in_range : (f : Dqbf) → IsLawful f → AllByRecursion (λ v. (1 ≤ v) × (v ≤ f.variables)) f.universals
universals_in_range f lawful = search (arith, all_before, recursion_from_All)

pub universals_positive : (f : Dqbf) → IsLawful f → AllByRecursion (λ v. 1 ≤ v) f.universals
universals_positive f lawful = positive f.variables f.universals (universals_in_range f lawful)
