-- A list without repetition of declared variables, as many as are declared, names each of them.
use Rattle.std.proofs.Common.{◌≡◌, ◌≢◌, ℕ, zero, suc, ◌+◌, ◌<◌, ◌≤◌, ◌==◌, eqb, true, false, ◌||◌, List, [], ◌∷◌, ◌++◌, length, get_or, inl, inr, refl, sym, ap, ◌∙◌, arith, Result, Ok, Err, Option, Some, None}
use Rattle.std.specs.List.{All, AllPairs, Contains, IsDistinct, list_any}
use Rattle.std.specs.Set.{is_member}
use Rattle.std.proofs.lemmas.Cmp.{nat_eq_equiv}
use Rattle.std.proofs.lemmas.Bool.{cases_Bool, eqb-true}
use Rattle.std.proofs.lemmas.Bool.Decides.{Decides-eqb}
use Rattle.std.proofs.lemmas.List.{length-append, length-map}
use Rattle.std.proofs.lemmas.List.Elements.{All-push, All-contains, All-contains_itself}
use Rattle.std.proofs.lemmas.Map.Keys.{IsDistinct-push}
use Rattle.std.proofs.lemmas.Map.Made.{length-le_from_is_member, AllPairs-from_IsDistinct}
use Rattle.list_laws.proofs.Quantified.{left-distinct, right-distinct}
use Rattle.dq_formula.proofs.Places.{has, flip, has-contains, contains-has}
use Rattle.dq_lits.specs.Formula.{Dqbf, HasLawfulPrefix}
use Rattle.dq_formula.specs.Prefix.{existential_variables}
use Rattle.circuit_plain.specs.Netlist.{Netlist}
use Rattle.aiger_text.specs.Symbol.{SymbolTable}
use Rattle.skolem_checker.specs.Mapping.{Mapping, variables_of, symbol_variable, new_variable, named_from, natural, behind_symbol, behind_inputs, mapping_of, mapping_in_order, has_symbol}
use Rattle.skolem_checker.specs.Tables.{IsOneToOne, IsMapping}
use Rattle.skolem_checker.specs.declared.mapping.Kind.{Kind}
use Rattle.skolem_checker.specs.declared.mapping.Kind.TheVariants.{Inputs, Outputs}
use Rattle.skolem_checker.specs.declared.mapping.MapName.{MapName}
use Rattle.skolem_checker.specs.declared.mapping.MapError.{MapError}
use Rattle.dq_text.specs.Number.{number_of}

-- what holds of the variables named so far
pub record AreNamed (declared variables : List ℕ) : Type 0 where
  pub distinct : IsDistinct eqb variables
  pub declared_alone : All (Contains declared) variables

is_member-has : (xs : List ℕ) (v : ℕ) → is_member eqb xs v ≡ has xs v
is_member-has xs v = ap (λ p. list_any p xs) (flip v)

pub named-push : (declared variables : List ℕ) (v : ℕ) → AreNamed declared variables → has declared v ≡ true →
    has variables v ≡ false
    → AreNamed declared (variables ++ v ∷ [])
named-push declared variables v named known fresh = record {
  distinct = IsDistinct-push nat_eq_equiv variables v named.distinct (is_member-has variables v ∙ fresh);
  declared_alone = All-push (Contains declared) variables v named.declared_alone (contains-has declared v known);
}

-- one more variable would be one too many
pub onto : (declared variables : List ℕ) → AreNamed declared variables → length variables ≡ length declared
    → (v : ℕ) → Contains declared v → Contains variables v
onto declared variables named same v known =
    elim (cases_Bool (has variables v)) [
      | inl among ↦ contains-has variables v among
      | inr fresh ↦
          let more = named-push declared variables v named (has-contains declared v known) fresh in
          let le : length (variables ++ v ∷ []) ≤ length declared =
          length-le_from_is_member nat_eq_equiv (variables ++ v ∷ []) declared more.distinct
          (λ q is. is_member-has declared q ∙ has-contains declared q
          (member declared (variables ++ v ∷ []) more.declared_alone q is)) in
          let longer : length (variables ++ v ∷ []) ≡ length variables + 1 = length-append variables (v ∷ []) in
          absurd (omega arith)
    ]
  where
    member : (us vs : List ℕ) → All (Contains us) vs → (q : ℕ) → is_member eqb vs q ≡ true → Contains us q
    member us vs all q is = All-contains (Contains us) vs q all (contains-has vs q (sym (is_member-has vs q) ∙ is))

pub one_to_one : (declared variables : List ℕ) → AreNamed declared variables → length variables ≡ length declared →
    IsOneToOne declared variables
one_to_one declared variables named same = record {
  same_length = same;
  distinct = AllPairs-from_IsDistinct Decides-eqb variables named.distinct;
  declared_alone = named.declared_alone;
  onto = onto declared variables named same;
}

pub itself_one_to_one : (declared : List ℕ) → AllPairs (λ v w. v ≢ w) declared → IsOneToOne declared declared
itself_one_to_one declared distinct = search (arith, All-contains_itself)

-- what a symbol gives
abbrev pub IsNew : Dqbf → Kind → List ℕ → Result ℕ MapName → Type 0
IsNew f kind earlier (Ok v) = (has (variables_of f kind) v ≡ true) × (has earlier v ≡ false)
IsNew f kind earlier (Err _) = Unit {0}

new-variable : (f : Dqbf) (kind : Kind) (earlier : List ℕ) (v : ℕ) →
    IsNew f kind earlier (new_variable f kind earlier (Some v))
new-variable f kind earlier v = search (arith, cases_Bool)

number-new : (f : Dqbf) (kind : Kind) (earlier : List ℕ) (number : Option ℕ) →
    IsNew f kind earlier (new_variable f kind earlier number)
number-new f kind earlier None = tt
number-new f kind earlier (Some v) = new-variable f kind earlier v

symbol-new : (f : Dqbf) (kind : Kind) (earlier : List ℕ) (symbol : Option (List ℕ)) →
    IsNew f kind earlier (symbol_variable f kind earlier symbol)
symbol-new f kind earlier None = tt
symbol-new f kind earlier (Some name) = number-new f kind earlier (natural (number_of name))

-- what a reading of symbols gives
abbrev pub AreRead : List ℕ → ℕ → Result (List ℕ) MapError → Type 0
AreRead declared n (Ok variables) = AreNamed declared variables × (length variables ≡ n)
AreRead declared n (Err _) = Unit {0}

behind-read : (f : Dqbf) (kind : Kind) (earlier : List ℕ) (place n : ℕ) (r : Result ℕ MapName)
    (next : ℕ → Result (List ℕ) MapError)
    → IsNew f kind earlier r
    → ((v : ℕ) → has (variables_of f kind) v ≡ true → has earlier v ≡ false → AreRead (variables_of f kind) n (next v))
    → AreRead (variables_of f kind) n (behind_symbol kind place r next)
behind-read f kind earlier place n (Ok v) next new then = then v new.0 new.1
behind-read f kind earlier place n (Err name) next new then = tt

named-read : (f : Dqbf) (kind : Kind) (symbols : SymbolTable) (count place n : ℕ) (earlier : List ℕ)
    → AreNamed (variables_of f kind) earlier → length earlier + count ≡ n
    → AreRead (variables_of f kind) n (named_from f kind symbols count place earlier)
named-read f kind symbols zero place n earlier named total = (named, omega arith)
named-read f kind symbols (suc count) place n earlier named total =
    search (
      arith,
      behind-read,
      symbol-new,
      length-append,
      (named-read f kind symbols count (place + 1) n),
      named-push,
    )

none-named : (declared : List ℕ) → AreNamed declared []
unfolding IsDistinct
none-named declared = record { distinct = tt; declared_alone = λ k d below. absurd (omega arith) }

abbrev pub IsMapped : Dqbf → Netlist → Result Mapping MapError → Type 0
IsMapped f net (Ok mapping) = IsMapping f net mapping
IsMapped f net (Err _) = Unit {0}

both-mapped : (f : Dqbf) (net : Netlist) (inputs outputs : Result (List ℕ) MapError)
    → length net.inputs ≡ length f.universals → length net.outputs ≡ length f.existentials
    → AreRead f.universals (length f.universals) inputs → AreRead (existential_variables f)
    (length f.existentials) outputs
    → IsMapped f net (behind_inputs inputs outputs)
both-mapped f net (Err fault) outputs a b on_inputs on_outputs = tt
both-mapped f net (Ok inputs) (Err fault) a b on_inputs on_outputs = tt
both-mapped f net (Ok inputs) (Ok outputs) a b on_inputs on_outputs = search (arith, one_to_one, length-map)

pub get_or-append_left : (xs ys : List ℕ) (i d : ℕ) → i < length xs → get_or (xs ++ ys) i d ≡ get_or xs i d
get_or-append_left [] ys i d below = absurd (omega arith)
get_or-append_left (x ∷ xs) ys zero d below = refl
get_or-append_left (x ∷ xs) ys (suc i) d below = get_or-append_left xs ys i d (omega arith)

mapped-in_order : (f : Dqbf) (net : Netlist) → HasLawfulPrefix f
    → length net.inputs ≡ length f.universals → length net.outputs ≡ length f.existentials →
    IsMapping f net (mapping_in_order f)
mapped-in_order f net lawful a b = search (arith, itself_one_to_one, left-distinct, right-distinct)

pub mapped : (f : Dqbf) (net : Netlist) (symbols : SymbolTable) → HasLawfulPrefix f →
    IsMapped f net (mapping_of f net symbols)
mapped f net symbols lawful =
    elim (cases_Bool (length net.inputs == length f.universals)) [
      | inr inputs_differ ↦ rw inputs_differ tt
      | inl inputs_fit ↦ elim (cases_Bool (length net.outputs == length f.existentials)) [
        | inr outputs_differ ↦ rw inputs_fit (rw outputs_differ tt)
        | inl outputs_fit ↦ elim (cases_Bool (has_symbol symbols Inputs
            (length net.inputs) || has_symbol symbols Outputs (length net.outputs))) [
              | inl some ↦ rw inputs_fit (rw outputs_fit (rw some (
                  both-mapped f net (named_from f Inputs symbols (length f.universals) 0 [])
                  (named_from f Outputs symbols (length f.existentials) 0 [])
                  (eqb-true (length net.inputs) (length f.universals) inputs_fit)
                  (eqb-true (length net.outputs) (length f.existentials) outputs_fit)
                  (named-read f Inputs symbols (length f.universals) 0 (length f.universals) []
                  (none-named f.universals)
                  (omega arith))
                  (named-read f Outputs symbols (length f.existentials) 0 (length f.existentials) []
                  (none-named (existential_variables f)) (omega arith)))))
              | inr none ↦ rw inputs_fit (rw outputs_fit (rw none (
                  mapped-in_order f net lawful (eqb-true (length net.inputs) (length f.universals) inputs_fit)
                  (eqb-true (length net.outputs) (length f.existentials) outputs_fit))))
            ]
      ]
    ]
