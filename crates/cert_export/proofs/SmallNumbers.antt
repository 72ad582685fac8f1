-- The numbers of an exported circuit are few.
use Rattle.std.proofs.Common.{◌≡◌, nat_lt, ℕ, ◌+◌, ◌≤◌, ◌==◌, Bool, true, false, cond, List, length, get_or, Option, None, Some, IfSome, position, refl, sym, ◌∙◌, arith}
use Rattle.std.specs.List.{list_any, position_or_len}
use Rattle.std.specs.Option.{option_map}
use Rattle.std.proofs.lemmas.Bool.{eqb-true, lt-ltb, ltb-true, true≢false}
use Rattle.std.proofs.lemmas.List.{get_or_default}
use Rattle.std.proofs.lemmas.List.Sums.{passes_at_first}
use Rattle.list_laws.proofs.Members.{tested_inside}
use Rattle.dq_lits.specs.Formula.{Dqbf}
use Rattle.hint_log.specs.Naming.{numbered_from_one}
use Rattle.hint_log.specs.declared.names.Name.{Name}
use Rattle.hint_log.proofs.NamedEntries.{number_below}
use Rattle.cert_export.specs.CircuitPart.{CircuitPart, place_from_one, circuit_number}
use Rattle.cert_export.specs.Parts.{IsSmall}
use Rattle.cert_export.proofs.CircuitNumbers.{position_below, number_cases, number_from_one}

-- a place from one is the place, counted from 0, and one more
pub place_one : (xs : List ℕ) (v : ℕ) → place_from_one xs v ≡ option_map (λ p. p + 1) (position (λ x. x == v) xs)
place_one xs v = by_bits (list_any (λ x. x == v) xs) (nat_lt (position_or_len (λ x. x == v) xs) (length xs)) refl
    refl where
      place : ℕ
      place = position_or_len (λ x. x == v) xs

      by_bits : (b c : Bool) → list_any (λ x. x == v) xs ≡ b → nat_lt place (length xs) ≡ c →
          cond b (Some (place + 1)) None ≡ option_map (λ p. p + 1) (cond c (Some place) None)
      by_bits true true h k = refl
      by_bits false false h k = refl
      by_bits true false h k = absurd (true≢false (sym (lt-ltb place (length xs) (position_below v xs h)) ∙ k))
      by_bits false true h k =
          let below = ltb-true place (length xs) k in
          let there = eqb-true (get_or xs place 0) v (passes_at_first (λ x. x == v) xs 0 below) in
          absurd (true≢false (sym (tested_inside xs v (place, below, get_or_default xs place v 0 below ∙ there)) ∙ h))

-- the numbers are few
pub number_small : (f : Dqbf) (e : CircuitPart) (v n : ℕ) (o : Option Name) → IsSmall f e.gates →
    circuit_number f e v o ≡ Some n → (1 ≤ n) × (n ≤ 100000000000000000)
number_small f e v n o small is = search (arith, number_from_one, number_cases)

pub numbers_small : (f : Dqbf) (e : CircuitPart) (v : ℕ) (o : Option Name) (result : Option ℕ) → IsSmall f e.gates →
    result ≡ circuit_number f e v o → IfSome result (λ n. (1 ≤ n) × (n ≤ 100000000000000000))
numbers_small f e v o None small is = tt
numbers_small f e v o (Some n) small is = number_small f e v n o small (sym is)

pub clause_small : {X : Type 0} (xs : List X) (j : ℕ) (result : Option ℕ) → length xs ≤ 10000000 →
    result ≡ option_map (λ c. j) (numbered_from_one xs j) → IfSome result (λ n. n ≤ 100000000000000000)
clause_small xs j None few is = tt
clause_small {X} xs j (Some n) few is = search (arith, number_below)
