-- What is kept, entry by entry, newest first.
use Rattle.std.proofs.Common.{◌≡◌, ℕ, ◌+◌, ◌<◌, ◌==◌, Bool, true, false, cond, if◌then◌else◌, List, [], ◌∷◌, ◌++◌, length, reverse, get_or, Option, Some, None, refl, sym, ap, ◌∙◌, arith}
use Rattle.std.specs.Option.{option_map}
use Rattle.std.proofs.Math.Seq.{get_or-append_seam}
use Rattle.std.proofs.lemmas.Bool.{eqb-true, eqb-false}
use Rattle.std.proofs.lemmas.List.{reverse-append, reverse-reverse, length-reverse, get_or_append_left}
use Rattle.dq_lits.specs.Literal.{Literal}
use Rattle.hint_log.specs.declared.kinds.EntryKind.{EntryKind}
use Rattle.hint_log.specs.declared.kinds.EntryKind.TheVariants.{Naming, Clause, Failure, Beginning}
use Rattle.hint_log.specs.declared.kinds.ClauseKind.{ClauseKind}
use Rattle.hint_log.specs.declared.kinds.ClauseKind.TheVariants.{OfGate}
use Rattle.hint_log.specs.declared.kinds.KeptRound.{KeptRound}
use Rattle.hint_log.specs.declared.names.Name.{Name}
use Rattle.hint_log.specs.Entries.{Entry, has_id, is_round, is_counted, last_id, rounds_of, numbered, clause_of, hints_of, origin_of, names_of}
use Rattle.hint_log.specs.Kept.{KeptClause, entry_by, clause_entry, round_entry, interleaved, AreInterleaved}

pub has_id_by : (k : ClauseKind) (ls : List Literal) (ns : List ℕ) → has_id (entry_by k ls ns) ≡ true
has_id_by OfGate ls ns = refl
has_id_by _ ls ns = refl

pub no_round_by : (k : ClauseKind) (ls : List Literal) (ns : List ℕ) → is_round (entry_by k ls ns) ≡ false
no_round_by OfGate ls ns = refl
no_round_by _ ls ns = refl

pub counted_by : (k : ClauseKind) (ls : List Literal) (ns : List ℕ) →
    is_counted (entry_by k ls ns) ≡ is_counted (entry_by k [] [])
counted_by OfGate ls ns = refl
counted_by _ ls ns = refl

pub clause_by : (k : ClauseKind) (ls : List Literal) (ns : List ℕ) → clause_of (entry_by k ls ns) ≡ Some ls
clause_by OfGate ls ns = refl
clause_by _ ls ns = refl

pub hints_by : (k : ClauseKind) (ls : List Literal) (ns : List ℕ) →
    hints_of (entry_by k ls ns) ≡ hints_of (entry_by k [] ns)
hints_by OfGate ls ns = refl
hints_by _ ls ns = refl

pub origin_by : (k : ClauseKind) (ls : List Literal) (ns : List ℕ) →
    origin_of (entry_by k ls ns) ≡ origin_of (entry_by k [] ns)
origin_by OfGate ls ns = refl
origin_by _ ls ns = refl

names_by : (k : ClauseKind) (ls : List Literal) (ns : List ℕ) (es : List Entry) →
    names_of (entry_by k ls ns ∷ es) ≡ names_of es
names_by OfGate ls ns es = refl
names_by _ ls ns es = refl

pub reverse_cons : {X : Type 0} (x : X) (xs : List X) → reverse (x ∷ xs) ≡ reverse xs ++ x ∷ []
reverse_cons x xs = reverse-append (x ∷ []) xs

-- there are as many ids as clauses
pub ids_are : (ks : List EntryKind) (ns : List (ℕ × Name)) (cs : List KeptClause) (rs : List KeptRound)
    (vs : List (List ℕ)) → AreInterleaved ks ns cs rs vs
    → last_id (interleaved ks ns cs rs vs) ≡ length cs
ids_are [] [] [] [] [] h = refl
ids_are [] [] [] [] (v ∷ vs) h = absurd h
ids_are [] [] [] (r ∷ rs) vs h = absurd h
ids_are [] [] (c ∷ cs) rs vs h = absurd h
ids_are [] (n ∷ ns) cs rs vs h = absurd h
ids_are (Naming ∷ ks) [] cs rs vs h = absurd h
ids_are (Naming ∷ ks) ((v, name) ∷ ns) cs rs vs h = ids_are ks ns cs rs vs h
ids_are (Clause ∷ ks) ns [] rs vs h = absurd h
ids_are (Clause ∷ ks) ns (c ∷ cs) rs vs h = search (arith, (ids_are ks ns cs rs vs h), has_id_by)
ids_are (Failure ∷ ks) ns cs [] vs h = absurd h
ids_are (Failure ∷ ks) ns cs (r ∷ rs) vs h = ids_are ks ns cs rs vs h
ids_are (Beginning ∷ ks) ns cs rs [] h = absurd h
ids_are (Beginning ∷ ks) ns cs rs (v ∷ vs) h = ids_are ks ns cs rs vs h

pub rounds_are : (ks : List EntryKind) (ns : List (ℕ × Name)) (cs : List KeptClause) (rs : List KeptRound)
    (vs : List (List ℕ)) → AreInterleaved ks ns cs rs vs
    → rounds_of (interleaved ks ns cs rs vs) ≡ length rs
rounds_are [] [] [] [] [] h = refl
rounds_are [] [] [] [] (v ∷ vs) h = absurd h
rounds_are [] [] [] (r ∷ rs) vs h = absurd h
rounds_are [] [] (c ∷ cs) rs vs h = absurd h
rounds_are [] (n ∷ ns) cs rs vs h = absurd h
rounds_are (Naming ∷ ks) [] cs rs vs h = absurd h
rounds_are (Naming ∷ ks) ((v, name) ∷ ns) cs rs vs h = rounds_are ks ns cs rs vs h
rounds_are (Clause ∷ ks) ns [] rs vs h = absurd h
rounds_are (Clause ∷ ks) ns (c ∷ cs) rs vs h =
    let es = interleaved ks ns cs rs vs in
    ap (λ b. if b then rounds_of es + 1 else rounds_of es) (no_round_by c.kind c.literals c.numbers)
    ∙ rounds_are ks ns cs rs vs h
rounds_are (Failure ∷ ks) ns cs [] vs h = absurd h
rounds_are (Failure ∷ ks) ns cs (r ∷ rs) vs h = let before = rounds_are ks ns cs rs vs h in omega (arith, before)
rounds_are (Beginning ∷ ks) ns cs rs [] h = absurd h
rounds_are (Beginning ∷ ks) ns cs rs (v ∷ vs) h = rounds_are ks ns cs rs vs h

pub names_are : (ks : List EntryKind) (ns : List (ℕ × Name)) (cs : List KeptClause) (rs : List KeptRound)
    (vs : List (List ℕ)) → AreInterleaved ks ns cs rs vs
    → names_of (interleaved ks ns cs rs vs) ≡ reverse ns
names_are [] [] [] [] [] h = refl
names_are [] [] [] [] (v ∷ vs) h = absurd h
names_are [] [] [] (r ∷ rs) vs h = absurd h
names_are [] [] (c ∷ cs) rs vs h = absurd h
names_are [] (n ∷ ns) cs rs vs h = absurd h
names_are (Naming ∷ ks) [] cs rs vs h = absurd h
names_are (Naming ∷ ks) ((v, name) ∷ ns) cs rs vs h = ap (λ xs. xs ++ (v, name) ∷ []) (names_are ks ns cs rs vs h) ∙ sym
    (reverse_cons (v, name) ns)
names_are (Clause ∷ ks) ns [] rs vs h = absurd h
names_are (Clause ∷ ks) ns (c ∷ cs) rs vs h = names_by c.kind c.literals c.numbers (interleaved ks ns cs rs vs)
    ∙ names_are ks ns cs rs vs h
names_are (Failure ∷ ks) ns cs [] vs h = absurd h
names_are (Failure ∷ ks) ns cs (r ∷ rs) vs h = names_are ks ns cs rs vs h
names_are (Beginning ∷ ks) ns cs rs [] h = absurd h
names_are (Beginning ∷ ks) ns cs rs (v ∷ vs) h = names_are ks ns cs rs vs h

-- the element of a number, counted from 1 from the end on
abbrev from_oldest : {X : Type 0} → List X → ℕ → Option X
from_oldest [] number = None
from_oldest (x ∷ xs) number = if number == length xs + 1 then Some x else from_oldest xs number

found_oldest : {X : Type 0} (xs : List X) (i : ℕ) (d : X) → i < length xs →
    from_oldest xs (i + 1) ≡ Some (get_or (reverse xs) i d)
found_oldest [] i d lt = absurd (omega (arith, lt))
found_oldest (x ∷ xs) i d lt =
    by (i + 1 == length xs + 1) refl (λ below. found_oldest xs i d below)
    ∙ ap (λ ys. Some (get_or ys i d)) (sym (reverse_cons x xs))
  where
    by : (b : Bool) → (i + 1 == length xs + 1) ≡ b → (i < length xs →
        from_oldest xs (i + 1) ≡ Some (get_or (reverse xs) i d)) →
        cond b (Some x) (from_oldest xs (i + 1)) ≡ Some (get_or (reverse xs ++ x ∷ []) i d)
    by true here behind =
        let at : i ≡ length (reverse xs) = let same = eqb-true (i + 1) (length xs + 1) here in let long =
        length-reverse xs in omega (arith, same, long) in
        ap Some (sym (ap (λ n. get_or (reverse xs ++ x ∷ []) n d) at ∙ get_or-append_seam (reverse xs) x [] d))
    by false other behind =
        let differs = eqb-false (i + 1) (length xs + 1) other in
        let long = length-reverse xs in
        let below : i < length xs = omega (arith, lt, differs) in
        behind below ∙ ap Some (sym (get_or_append_left (reverse xs) (x ∷ []) d i (omega (arith, below, long))))

clauses_found : (ks : List EntryKind) (ns : List (ℕ × Name)) (cs : List KeptClause) (rs : List KeptRound)
    (vs : List (List ℕ)) → AreInterleaved ks ns cs rs vs → (id : ℕ)
    → numbered has_id (interleaved ks ns cs rs vs) id ≡ option_map clause_entry (from_oldest cs id)
clauses_found [] [] [] [] [] h id = refl
clauses_found [] [] [] [] (v ∷ vs) h id = absurd h
clauses_found [] [] [] (r ∷ rs) vs h id = absurd h
clauses_found [] [] (c ∷ cs) rs vs h id = absurd h
clauses_found [] (n ∷ ns) cs rs vs h id = absurd h
clauses_found (Naming ∷ ks) [] cs rs vs h id = absurd h
clauses_found (Naming ∷ ks) ((v, name) ∷ ns) cs rs vs h id = clauses_found ks ns cs rs vs h id
clauses_found (Clause ∷ ks) ns [] rs vs h id = absurd h
clauses_found (Clause ∷ ks) ns (c ∷ cs) rs vs h id =
    search (arith, has_id_by, ids_are, (clauses_found ks ns cs rs vs h id))
clauses_found (Failure ∷ ks) ns cs [] vs h id = absurd h
clauses_found (Failure ∷ ks) ns cs (r ∷ rs) vs h id = clauses_found ks ns cs rs vs h id
clauses_found (Beginning ∷ ks) ns cs rs [] h id = absurd h
clauses_found (Beginning ∷ ks) ns cs rs (v ∷ vs) h id = clauses_found ks ns cs rs vs h id

rounds_found : (ks : List EntryKind) (ns : List (ℕ × Name)) (cs : List KeptClause) (rs : List KeptRound)
    (vs : List (List ℕ)) → AreInterleaved ks ns cs rs vs → (k : ℕ)
    → numbered is_round (interleaved ks ns cs rs vs) k ≡ option_map round_entry (from_oldest rs k)
rounds_found [] [] [] [] [] h k = refl
rounds_found [] [] [] [] (v ∷ vs) h k = absurd h
rounds_found [] [] [] (r ∷ rs) vs h k = absurd h
rounds_found [] [] (c ∷ cs) rs vs h k = absurd h
rounds_found [] (n ∷ ns) cs rs vs h k = absurd h
rounds_found (Naming ∷ ks) [] cs rs vs h k = absurd h
rounds_found (Naming ∷ ks) ((v, name) ∷ ns) cs rs vs h k = rounds_found ks ns cs rs vs h k
rounds_found (Clause ∷ ks) ns [] rs vs h k = absurd h
rounds_found (Clause ∷ ks) ns (c ∷ cs) rs vs h k = search (arith, no_round_by, (rounds_found ks ns cs rs vs h k))
rounds_found (Failure ∷ ks) ns cs [] vs h k = absurd h
rounds_found (Failure ∷ ks) ns cs (r ∷ rs) vs h k =
    let es = interleaved ks ns cs rs vs in
    ap (λ n. if k == n + 1 then Some (round_entry r) else numbered is_round es k) (rounds_are ks ns cs rs vs h)
    ∙ by (k == length rs + 1) (rounds_found ks ns cs rs vs h k)
  where
    by : (b : Bool) → numbered is_round (interleaved ks ns cs rs vs) k ≡ option_map round_entry (from_oldest rs k)
        → (if b then Some (round_entry r) else numbered is_round (interleaved ks ns cs rs vs) k)
        ≡ option_map round_entry (if b then Some r else from_oldest rs k)
    by true before = refl
    by false before = before
rounds_found (Beginning ∷ ks) ns cs rs [] h k = absurd h
rounds_found (Beginning ∷ ks) ns cs rs (v ∷ vs) h k = rounds_found ks ns cs rs vs h k

-- the clause of an id is at its place, in order of time
pub clause_at_place : (ks : List EntryKind) (ns : List (ℕ × Name)) (clauses : List KeptClause) (rs : List KeptRound)
    (vs : List (List ℕ)) → AreInterleaved ks ns (reverse clauses) rs vs
    → (i : ℕ) (d : KeptClause) → i < length clauses → numbered has_id (interleaved ks ns (reverse clauses) rs vs)
    (i + 1) ≡ Some (clause_entry (get_or clauses i d))
clause_at_place ks ns clauses rs vs h i d lt =
    search (
      arith,
      (length-reverse clauses),
      (clauses_found ks ns (reverse clauses) rs vs h (i + 1)),
      (found_oldest (reverse clauses) i d),
      (reverse-reverse clauses),
    )

pub round_at_place : (ks : List EntryKind) (ns : List (ℕ × Name)) (cs : List KeptClause) (rounds : List KeptRound)
    (vs : List (List ℕ)) → AreInterleaved ks ns cs (reverse rounds) vs
    → (i : ℕ) (d : KeptRound) → i < length rounds → numbered is_round (interleaved ks ns cs (reverse rounds) vs) (i + 1)
    ≡ Some (round_entry (get_or rounds i d))
round_at_place ks ns cs rounds vs h i d lt =
    search (
      arith,
      (length-reverse rounds),
      (rounds_found ks ns cs (reverse rounds) vs h (i + 1)),
      (found_oldest (reverse rounds) i d),
      (reverse-reverse rounds),
    )
