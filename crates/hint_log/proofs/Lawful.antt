-- Laws of logs.
use Rattle.std.proofs.Common.{◌≡◌, ℕ, ◌+◌, ◌≤◌, ◌==◌, Bool, true, false, true≢false, ◌&&◌, if◌then◌else◌, List, [], ◌∷◌, Option, Some, None, IsSome, Contains, slice_index_or, refl, sym, ◌∙◌, subst, arith}
use Rattle.std.specs.Option.{option_and_then}
use Rattle.std.proofs.lemmas.Bool.{eqb-true}
use Rattle.list_laws.proofs.Options.{some_is, none_is_some}
use Rattle.dq_lits.specs.Literal.{Literal, variable_of}
use Rattle.hint_log.specs.Conditions.{AreNamed, HasSides, IsId, MayFollow, AreLogged, is_circuit_name, is_term_name}
use Rattle.hint_log.specs.Entries.{has_id, last_id, steps_of, rounds_of, numbered, clause_of, clause_at, hints_of, name_of, Entry, Named, Given, Learned, Answer}
use Rattle.hint_log.specs.Reached.{Reaches, itself, by_hint}
use Rattle.hint_log.specs.declared.names.Name.{Name}
use Rattle.hint_log.specs.declared.names.Name.TheVariants.{And, Term}
use Rattle.hint_log.proofs.Logged.{are_earlier}
use Rattle.hint_log.proofs.ReachedIds.{hint_earlier}

found_hints : (e : Option Entry) (hints : List ℕ) → option_and_then (λ e. Some (hints_of e)) e ≡ Some hints →
    (x : Entry) × (e ≡ Some x) × (hints ≡ hints_of x)
found_hints None hints is = cc
found_hints (Some x) hints is = (x, refl, cc)

pub reached_are_ids_lem : (entries : List Entry) (id i : ℕ) → AreLogged entries → IsId entries id →
    Reaches entries id i → IsId entries i
reached_are_ids_lem entries id _ logged known itself = known
reached_are_ids_lem entries id _ logged known (by_hint at hint hints reached is has) =
    let before = reached_are_ids_lem entries id at logged known reached in
    let found = found_hints (numbered has_id entries at) hints is in
    let range = hint_earlier entries at found.0 (are_earlier entries logged) found.1 hint
    (subst (λ hs. Contains hs hint) found.2 has) in
    let last = before.last in
    record { from_one = range.0; last = omega (arith, range.1, last) }

-- a name stays
name_stays : (e : Entry) (es : List Entry) (v : ℕ) → IsSome (name_of es v) → IsSome (name_of (e ∷ es) v)
name_stays (Named w name) es v some = search arith
name_stays _ es v some = some

named_stay : (e : Entry) (es : List Entry) (clause : List Literal) → AreNamed es clause → AreNamed (e ∷ es) clause
named_stay e es clause named = λ k d below. name_stays e es (variable_of (slice_index_or clause k d)) (named k d below)

head_named : (x : Entry) (es : List Entry) (clause : List Literal) → MayFollow es x → clause_of x ≡ Some clause →
    AreNamed es clause
head_named (Given _ c) es clause asked is = subst (AreNamed es) (some_is is) asked
head_named (Learned c _) es clause asked is = subst (AreNamed es) (some_is is) asked.0
head_named (Answer c _) es clause asked is = subst (AreNamed es) (some_is is) asked.0
head_named _ es clause asked is = absurd (none_is_some is)

pub clauses_are_named_lem : (entries : List Entry) (id : ℕ) (clause : List Literal) → AreLogged entries →
    clause_at entries id ≡ Some clause → AreNamed entries clause
clauses_are_named_lem [] id clause logged is = absurd (none_is_some is)
clauses_are_named_lem (x ∷ es) id clause logged is =
    named_stay x es clause (by (has_id x && (id == last_id es + 1)) (λ is. head_named x es clause logged.0 is)
    (λ is. clauses_are_named_lem es id clause logged.1 is) is)
  where
    by : (b : Bool) → (clause_of x ≡ Some clause → AreNamed es clause) →
        (clause_at es id ≡ Some clause → AreNamed es clause)
        → option_and_then clause_of (if b then Some x else numbered has_id es id) ≡ Some clause → AreNamed es clause
    by true here behind is = here is
    by false here behind is = behind is

-- a variable of a circuit stays one
circuit_stays : (e : Entry) (es : List Entry) (v : ℕ) → MayFollow es e → is_circuit_name (name_of es v) ≡ true →
    is_circuit_name (name_of (e ∷ es) v) ≡ true
circuit_stays (Named w name) es v asked is = search (arith, true≢false, eqb-true)
circuit_stays _ es v asked is = is

-- so does one of a definition
term_stays : (e : Entry) (es : List Entry) (v : ℕ) → MayFollow es e → is_term_name (name_of es v) ≡ true →
    is_term_name (name_of (e ∷ es) v) ≡ true
term_stays (Named w name) es v asked is = search (arith, true≢false, eqb-true)
term_stays _ es v asked is = is

sides_stay : (e : Entry) (es : List Entry) (name : Name) → MayFollow es e → HasSides es name → HasSides (e ∷ es) name
sides_stay e es (And a b) asked sides = search (arith, circuit_stays)
sides_stay e es (Term a b) asked sides = search (arith, term_stays)
sides_stay e es _ asked sides = tt

pub sides_are_named_lem : (entries : List Entry) (v : ℕ) (name : Name) → AreLogged entries →
    name_of entries v ≡ Some name → HasSides entries name
sides_are_named_lem [] v name logged is = absurd (none_is_some is)
sides_are_named_lem (Named w n ∷ es) v name logged is =
    sides_stay (Named w n) es name logged.0 (by (v == w) (λ is. sides_are_named_lem es v name logged.1 is) is)
  where
    by : (b : Bool) → (name_of es v ≡ Some name → HasSides es name) → (if b then Some n else name_of es v) ≡ Some name →
        HasSides es name
    by true behind is = subst (HasSides es) (some_is is) logged.0.sides
    by false behind is = behind is
sides_are_named_lem (e ∷ es) v name logged is = sides_stay e es name logged.0
    (sides_are_named_lem es v name logged.1 is)

pub names_are_unique_lem : (entries : List Entry) (v w : ℕ) (name : Name) → AreLogged entries →
    name_of entries v ≡ Some name → name_of entries w ≡ Some name → v ≡ w
names_are_unique_lem [] v w name logged first second = absurd (none_is_some first)
names_are_unique_lem (Named u n ∷ es) v w name logged first second =
    by (v == u) (w == u) refl refl (λ f s. names_are_unique_lem es v w name logged.1 f s) first second
  where
    by : (a b : Bool) → (v == u) ≡ a → (w == u) ≡ b → (name_of es v ≡ Some name → name_of es w ≡ Some name → v ≡ w)
        → (if a then Some n else name_of es v) ≡ Some name → (if b then Some n else name_of es w) ≡ Some name → v ≡ w
    by true true p q behind f s = eqb-true v u p ∙ sym (eqb-true w u q)
    by true false p q behind f s = absurd (logged.0.fresh w (s ∙ sym f))
    by false true p q behind f s = absurd (logged.0.fresh v (f ∙ sym s))
    by false false p q behind f s = behind f s
names_are_unique_lem (_ ∷ es) v w name logged first second = names_are_unique_lem es v w name logged.1 first second

pub rounds_are_steps_lem : (entries : List Entry) → rounds_of entries ≤ steps_of entries
rounds_are_steps_lem [] = omega arith
rounds_are_steps_lem (Named _ _ ∷ es) = rounds_are_steps_lem es
rounds_are_steps_lem (Given _ _ ∷ es) = rounds_are_steps_lem es
rounds_are_steps_lem (Answer _ _ ∷ es) = rounds_are_steps_lem es
rounds_are_steps_lem (_ ∷ es) = let before = rounds_are_steps_lem es in omega (arith, before)

pub ids_stay_lem : (e : Entry) (entries : List Entry) (id : ℕ) → IsId entries id →
    numbered has_id (e ∷ entries) id ≡ numbered has_id entries id
ids_stay_lem e es id known = search (arith, eqb-true)
