-- That some clause is false.
use Rattle.std.proofs.Common.{◌≡◌, ℕ, true, false, inr, List, [], ◌∷◌, map, length, Some, None, refl, sym, ◌∙◌, ap, arith}
use Rattle.std.specs.List.{All, AllByRecursion, range_with_len}
use Rattle.std.specs.Option.{option_map}
use Rattle.std.proofs.lemmas.Bool.{false≢true}
use Rattle.std.proofs.lemmas.List.Elements.{All-from_recursion}
use Rattle.dq_lits.specs.Literal.{Literal, negative, variable_of, is_negative, opposite}
use Rattle.dq_lits.specs.Formula.{Dqbf}
use Rattle.dq_lits.proofs.SignedLiterals.{negated-positive}
use Rattle.hint_log.specs.Entries.{Entry, Given, ProofLog, with_entry, name_of}
use Rattle.hint_log.specs.declared.names.Name.TheVariants.{Selector}
use Rattle.hint_log.specs.declared.origins.Leaf.TheVariants.{Constant}
use Rattle.hint_log.specs.declared.origins.Origin.TheVariants.{Fault}
use Rattle.hint_log.specs.Growth.{Grew}
use Rattle.hint_log.specs.Origins.{matrix_literal}
use Rattle.hint_log.specs.Naming.{AreNamedAs}
use Rattle.log_laws.specs.Engines.{circuits, IsGivenBy, IsAddedBy}
use Rattle.log_laws.proofs.Found.{named_variable}
use Rattle.log_laws.proofs.LargerLogs.{grown_by}
use Rattle.oracle.specs.Calls.{IsPlain}
use Rattle.circuit_cnf.specs.Faults.{AreFewWith}
use Rattle.circuit_cnf.proofs.NamedBads.{bad_name}

plain_each : (es : List Entry) (group : ℕ) (ls : List Literal) (js : List ℕ) →
    AreNamedAs es ls (map (bad_name group) js) → AllByRecursion (IsPlain es) ls
plain_each es group [] js h = tt
plain_each es group (l ∷ ls) [] h = cc
plain_each es group (l ∷ ls) (j ∷ js) h = search (arith, named_variable, (plain_each es group ls js))

pub bads_are_plain : (es : List Entry) (group : ℕ) (ls : List Literal) (js : List ℕ) →
    AreNamedAs es ls (map (bad_name group) js) → All (IsPlain es) ls
bads_are_plain es group ls js h = All-from_recursion (IsPlain es) ls (plain_each es group ls js h)

some_added : (f : Dqbf) (standing : ℕ) (start es : List Entry) (group : ℕ) (bads : List Literal) →
    name_of es group ≡ Some (Selector group) → AreNamedAs es bads
    (map (bad_name group) (range_with_len 1 (length f.matrix))) → AreFewWith group es →
    name_of start group ≡ None → IsGivenBy f circuits standing start es (Fault 0 0 (Constant false))
    (negative group ∷ bads)
some_added f standing start es group bads is_group named few unnamed = record {
  own = refl;
  in_group = (group, (bads, refl), inr unnamed);
  matches_origin = search arith;
  not_repeated = record { first = λ h c inside. false≢true (sym h); groups = few 0 0 (Constant false) bads };
} where
  nothing : (v j i : ℕ) → 0 ≡ j → 0 ≡ i → option_map variable_of (matrix_literal f j i) ≡ Some v → ⊥
  nothing v j i left right own = let none : None ≡ Some v = ap (λ x. option_map variable_of (matrix_literal f x 0)) left
      ∙ ap (λ x. option_map variable_of (matrix_literal f j x)) right ∙ own in cc

pub some_grown : (f : Dqbf) (standing : ℕ) (start : List Entry) (g : Literal) (bads : List Literal) (log new : ProofLog)
    → is_negative g ≡ false → name_of log.entries (variable_of g) ≡ Some (Selector (variable_of g)) →
    AreNamedAs log.entries bads (map (bad_name (variable_of g)) (range_with_len 1 (length f.matrix))) →
    AreFewWith (variable_of g) log.entries → new ≡ with_entry log
    (Given (Fault 0 0 (Constant false)) (opposite g ∷ bads)) →
    name_of start (variable_of g) ≡ None → Grew (IsAddedBy f circuits standing true start) log new
some_grown f standing start g bads log new plain is_group named few added unnamed =
    grown_by (IsAddedBy f circuits standing true start) log new
    (Given (Fault 0 0 (Constant false)) (negative (variable_of g) ∷ bads))
    (added ∙ ap (λ l. with_entry log (Given (Fault 0 0 (Constant false)) (l ∷ bads))) (negated-positive g plain))
    (some_added f standing start log.entries (variable_of g) bads is_group named few unnamed)
