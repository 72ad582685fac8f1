-- How an entry more is kept, and how what is kept is found.
use Rattle.std.proofs.Common.{◌≡◌, ℕ, zero, suc, ◌+◌, ◌-◌, ◌<◌, ◌≤◌, eqb, Bool, true, false, if◌then◌else◌, List, [], ◌∷◌, ◌++◌, length, reverse, get_or, take, Option, Some, None, Contains, refl, sym, ap, ◌∙◌, subst, arith}
use Rattle.std.specs.List.{AllByRecursion}
use Rattle.std.specs.Map.{lookup}
use Rattle.std.specs.Option.{option_and_then}
use Rattle.std.proofs.lemmas.List.{reverse-append, length-append, length-reverse, reverse-reverse, get_or_default}
use Rattle.dq_lits.specs.Literal.{Literal}
use Rattle.hint_log.specs.Conditions.{IsId, MayFollow, IsNewName, AreLogged}
use Rattle.hint_log.specs.declared.kinds.EntryKind.{EntryKind}
use Rattle.hint_log.specs.declared.kinds.EntryKind.TheVariants.{Naming, Clause, Beginning}
use Rattle.hint_log.specs.declared.kinds.ClauseKind.{ClauseKind}
use Rattle.hint_log.specs.declared.kinds.ClauseKind.TheVariants.{OfLemma}
use Rattle.hint_log.specs.declared.kinds.KeptRound.{KeptRound}
use Rattle.hint_log.specs.declared.origins.Origin.{Origin}
use Rattle.hint_log.specs.declared.names.Name.{Name}
use Rattle.hint_log.specs.Entries.{Entry, ProofLog, Named, Begun, with_entry, has_id, is_round, is_counted, last_id, rounds_of, steps_of, numbered, clause_of, hints_of, origin_of, clause_at, hints_at, origin_at, name_of, names_of}
use Rattle.hint_log.specs.Kept.{KeptClause, HasNumbers, HasOwnNumbers, entry_by, clause_entry, round_entry, kept_clauses, log_entries, newest_of, kept_lives, IsKept}
use Rattle.hint_log.proofs.Logged.{are_earlier, are_named_once}
use Rattle.hint_log.proofs.ReachedIds.{hint_earlier}
use Rattle.hint_log.proofs.KeptNames.{found_names}
use Rattle.hint_log.specs.Live.{last_live}
use Rattle.hint_log.proofs.KeptLives.{newest_is_last, live_more}
use Rattle.hint_log.proofs.KeptOrder.{counted_by, clause_by, hints_by, origin_by, ids_are, rounds_are, names_are, clause_at_place, round_at_place}

pub newest : {X : Type 0} (xs : List X) (x : X) → reverse (xs ++ x ∷ []) ≡ x ∷ reverse xs
newest xs x = reverse-append xs (x ∷ [])

-- the clauses by their parts
length_clauses : (ks : List ClauseKind) (ls : List (List Literal)) (ns : List (List ℕ)) → length ls ≡ length ks →
    length ns ≡ length ks
    → length (kept_clauses ks ls ns) ≡ length ks
length_clauses [] ls ns l n = refl
length_clauses (k ∷ ks) [] ns l n = absurd (omega (arith, l))
length_clauses (k ∷ ks) (c ∷ ls) [] l n = absurd (omega (arith, n))
length_clauses (k ∷ ks) (c ∷ ls) (h ∷ ns) l n = ap suc (length_clauses ks ls ns (omega (arith, l)) (omega (arith, n)))

clauses_more : (ks : List ClauseKind) (ls : List (List Literal)) (ns : List (List ℕ)) (k : ClauseKind)
    (c : List Literal) (h : List ℕ) → length ls ≡ length ks
    → length ns ≡ length ks
    → kept_clauses (ks ++ k ∷ []) (ls ++ c ∷ []) (ns ++ h ∷ [])
    ≡ kept_clauses ks ls ns ++ record { kind = k; literals = c; numbers = h } ∷ []
clauses_more [] [] [] k c h l n = refl
clauses_more [] (_ ∷ _) ns k c h l n = absurd (omega (arith, l))
clauses_more [] [] (_ ∷ _) k c h l n = absurd (omega (arith, n))
clauses_more (_ ∷ ks) [] ns k c h l n = absurd (omega (arith, l))
clauses_more (_ ∷ ks) (_ ∷ ls) [] k c h l n = absurd (omega (arith, n))
clauses_more (k1 ∷ ks) (c1 ∷ ls) (h1 ∷ ns) k c h l n = search (arith, (clauses_more ks ls ns k c h))

clause_is : (ks : List ClauseKind) (ls : List (List Literal)) (ns : List (List ℕ)) (i : ℕ) (k : ClauseKind)
    (d : KeptClause) → length ls ≡ length ks
    → length ns ≡ length ks → i < length ks → k ≡ get_or ks i k
    → get_or (kept_clauses ks ls ns) i d ≡ record { kind = k; literals = get_or ls i []; numbers = get_or ns i [] }
clause_is [] ls ns i k d l n lt is = absurd (omega (arith, lt))
clause_is (_ ∷ ks) [] ns i k d l n lt is = absurd (omega (arith, l))
clause_is (_ ∷ ks) (_ ∷ ls) [] i k d l n lt is = absurd (omega (arith, n))
clause_is (k1 ∷ ks) (c1 ∷ ls) (h1 ∷ ns) zero k d l n lt is =
    ap (λ x. record { kind = x; literals = c1; numbers = h1 }) (sym is)
clause_is (k1 ∷ ks) (c1 ∷ ls) (h1 ∷ ns) (suc i) k d l n lt is =
    clause_is ks ls ns i k d (omega (arith, l)) (omega (arith, n)) (omega (arith, lt)) is

own_numbers : (cs : List KeptClause) (i : ℕ) (d : KeptClause) → AllByRecursion HasOwnNumbers cs → i < length cs →
    HasOwnNumbers (get_or cs i d)
own_numbers [] i d all lt = absurd (omega (arith, lt))
own_numbers (c ∷ cs) zero d all lt = all.0
own_numbers (c ∷ cs) (suc i) d all lt = own_numbers cs i d all.1 (omega (arith, lt))

numbers_more : (cs : List KeptClause) (c : KeptClause) → AllByRecursion HasOwnNumbers cs → HasOwnNumbers c →
    AllByRecursion HasOwnNumbers (cs ++ c ∷ [])
numbers_more [] c all own = (own, tt)
numbers_more (c1 ∷ cs) c all own = (all.0, numbers_more cs c all.1 own)

-- what is found at an id
pub record IsAt (entries : List Entry) (kinds : List ClauseKind) (literals : List (List Literal))
    (numbers : List (List ℕ)) (id : ℕ) : Type 0 where
  pub kind_inside : id - 1 < length kinds
  pub literals_inside : id - 1 < length literals
  pub numbers_inside : id - 1 < length numbers
  pub is : (k : ClauseKind) → k ≡ get_or kinds (id - 1) k
      → (numbered has_id entries id ≡ Some (entry_by k (get_or literals (id - 1) []) (get_or numbers (id - 1) []))) ×
      HasNumbers k (get_or numbers (id - 1) [])

pub at_id : (log : ProofLog) (limit steps : ℕ) (es : List EntryKind) (names : List (ℕ × Name)) (ks : List ClauseKind)
    (ls : List (List Literal)) (ns : List (List ℕ))
    (rs : List KeptRound) (vs : List (List ℕ)) (id : ℕ) → record
    { limit = limit; entries = log_entries es names ks ls ns rs vs } ≡ log →
    IsKept limit steps es names ks ls ns rs vs
    → IsId log.entries id → IsAt log.entries ks ls ns id
at_id log limit steps es names ks ls ns rs vs id is kept known =
    let cs = kept_clauses ks ls ns in
    let many : last_id (log_entries es names ks ls ns rs vs) ≡ length (reverse cs) =
    ids_are (reverse es) (reverse names) (reverse cs) (reverse rs) vs kept.interleaved in
    let here : IsId (log_entries es names ks ls ns rs vs) id =
    subst (λ (l : ProofLog). IsId l.entries id) (sym is) known in
    let one = here.from_one in
    let last = here.last in
    let long = length_clauses ks ls ns kept.literals_long kept.numbers_long in
    let reversed = length-reverse cs in
    let inside : id - 1 < length ks = omega (arith, one, last, many, long, reversed) in
    let l = kept.literals_long in
    let n = kept.numbers_long in
    record {
      kind_inside = inside;
      literals_inside = omega (arith, inside, l);
      numbers_inside = omega (arith, inside, n);
      is = λ k k_is.
          let c : KeptClause = record { kind = k; literals = get_or ls (id - 1) []; numbers = get_or ns (id - 1) [] } in
          let at : get_or cs (id - 1) c ≡ c = clause_is ks ls ns (id - 1) k c l n inside k_is in
          let next : id - 1 + 1 ≡ id = omega (arith, one) in (
            ap (λ (p : ProofLog). numbered has_id p.entries id) (sym is)
                ∙ ap (numbered has_id (log_entries es names ks ls ns rs vs)) (sym next)
                ∙ clause_at_place (reverse es) (reverse names) cs (reverse rs) vs kept.interleaved (id - 1) c
                (omega (arith, inside, long))
                ∙ ap (λ x. Some (clause_entry x)) at,
            subst HasOwnNumbers at (own_numbers cs (id - 1) c kept.numbers_are (omega (arith, inside, long))),
          );
    }

pub ids_counted : (log : ProofLog) (limit steps : ℕ) (es : List EntryKind) (names : List (ℕ × Name))
    (ks : List ClauseKind) (ls : List (List Literal)) (ns : List (List ℕ))
    (rs : List KeptRound) (vs : List (List ℕ)) → record { limit = limit; entries = log_entries es names ks ls ns rs vs }
    ≡ log → IsKept limit steps es names ks ls ns rs vs
    → last_id log.entries ≡ length ks
ids_counted log limit steps es names ks ls ns rs vs is kept = search (arith, ids_are, length-reverse, length_clauses)

pub rounds_counted : (log : ProofLog) (limit steps : ℕ) (es : List EntryKind) (names : List (ℕ × Name))
    (ks : List ClauseKind) (ls : List (List Literal)) (ns : List (List ℕ))
    (rs : List KeptRound) (vs : List (List ℕ)) → record { limit = limit; entries = log_entries es names ks ls ns rs vs }
    ≡ log → IsKept limit steps es names ks ls ns rs vs
    → rounds_of log.entries ≡ length rs
rounds_counted log limit steps es names ks ls ns rs vs is kept =
    let cs = kept_clauses ks ls ns in
    ap (λ (p : ProofLog). rounds_of p.entries) (sym is) ∙ rounds_are (reverse es) (reverse names) (reverse cs)
    (reverse rs) vs kept.interleaved
    ∙ length-reverse rs

pub names_kept : (log : ProofLog) (limit steps : ℕ) (es : List EntryKind) (names : List (ℕ × Name))
    (ks : List ClauseKind) (ls : List (List Literal)) (ns : List (List ℕ))
    (rs : List KeptRound) (vs : List (List ℕ)) → record { limit = limit; entries = log_entries es names ks ls ns rs vs }
    ≡ log → IsKept limit steps es names ks ls ns rs vs
    → names ≡ names_of log.entries
names_kept log limit steps es names ks ls ns rs vs is kept =
    let cs = kept_clauses ks ls ns in
    sym (ap (λ (p : ProofLog). names_of p.entries) (sym is) ∙ names_are (reverse es) (reverse names) (reverse cs)
    (reverse rs) vs kept.interleaved ∙ reverse-reverse names)

pub lawful : (log : ProofLog) (limit steps : ℕ) (es : List EntryKind) (names : List (ℕ × Name)) (ks : List ClauseKind)
    (ls : List (List Literal)) (ns : List (List ℕ))
    (rs : List KeptRound) (vs : List (List ℕ)) → record { limit = limit; entries = log_entries es names ks ls ns rs vs }
    ≡ log → IsKept limit steps es names ks ls ns rs vs → AreLogged log.entries
lawful log limit steps es names ks ls ns rs vs is kept = subst (λ (p : ProofLog). AreLogged p.entries) is kept.logged

-- the round of a number is at its place
pub at_round : (log : ProofLog) (limit steps : ℕ) (es : List EntryKind) (names : List (ℕ × Name)) (ks : List ClauseKind)
    (ls : List (List Literal)) (ns : List (List ℕ))
    (rs : List KeptRound) (vs : List (List ℕ)) (k : ℕ) (r : KeptRound) →
    record { limit = limit; entries = log_entries es names ks ls ns rs vs } ≡ log →
    IsKept limit steps es names ks ls ns rs vs
    → 1 ≤ k → k ≤ rounds_of log.entries → r ≡ get_or rs (k - 1) r →
    numbered is_round log.entries k ≡ Some (round_entry r)
at_round log limit steps es names ks ls ns rs vs k r is kept one last r_is =
    search (
      arith,
      (rounds_counted log limit steps es names ks ls ns rs vs is kept),
      (round_at_place (reverse es) (reverse names)),
    )

-- a clause more
pub record IsMore (e : Entry) (log : ProofLog) (limit steps : ℕ) (es : List EntryKind) (names : List (ℕ × Name))
    (ks : List ClauseKind) (ls : List (List Literal))
    (ns : List (List ℕ)) (rs : List KeptRound) (vs : List (List ℕ)) : Type 0 where
  pub kept : IsKept limit steps es names ks ls ns rs vs
  pub entries : log_entries es names ks ls ns rs vs ≡ e ∷ log.entries
  pub limit_is : limit ≡ log.limit

steps_more : (e : Entry) (entries : List Entry) (counted steps : ℕ) → counted ≡ (if is_counted e then 1 else 0) →
    steps ≡ steps_of entries
    → steps + counted ≡ steps_of (e ∷ entries)
steps_more e entries counted steps counted_is steps_is = search arith

within_more : (e : Entry) (entries : List Entry) (counted steps limit : ℕ) → counted ≡ (if is_counted e then 1 else 0) →
    steps ≡ steps_of entries → steps ≤ limit
    → (is_counted e ≡ true → steps_of entries < limit) → steps + counted ≤ limit
within_more e entries counted steps limit counted_is steps_is within room = search arith

pub one_clause_more : (log : ProofLog) (limit steps counted : ℕ) (es more_es : List EntryKind) (names : List (ℕ × Name))
    (ks more_ks : List ClauseKind)
    (ls more_ls : List (List Literal)) (ns more_ns : List (List ℕ)) (rs : List KeptRound) (vs : List (List ℕ))
    (k : ClauseKind) (c : List Literal) (h : List ℕ)
    → record { limit = limit; entries = log_entries es names ks ls ns rs vs } ≡ log →
    IsKept limit steps es names ks ls ns rs vs
    → (is_counted (entry_by k c h) ≡ true → steps_of log.entries < log.limit) → MayFollow log.entries (entry_by k c h) →
    HasNumbers k h
    → counted ≡ (if is_counted (entry_by k [] []) then 1 else 0) → more_es ≡ es ++ Clause ∷ [] →
    more_ks ≡ ks ++ k ∷ [] → more_ls ≡ ls ++ c ∷ [] → more_ns ≡ ns ++ h ∷ []
    → IsMore (entry_by k c h) log limit (steps + counted) more_es names more_ks more_ls more_ns rs vs
one_clause_more log limit steps counted es more_es names ks more_ks ls more_ls ns more_ns rs vs k c h is kept room may
    own counted_is es_is ks_is ls_is ns_is =
    let cs = kept_clauses ks ls ns in
    let one : KeptClause = record { kind = k; literals = c; numbers = h } in
    let before = log_entries es names ks ls ns rs vs in
    let same : before ≡ log.entries = ap (λ (p : ProofLog). p.entries) is in
    let same_limit : limit ≡ log.limit = ap (λ (p : ProofLog). p.limit) is in
    let clauses : kept_clauses more_ks more_ls more_ns ≡ cs ++ one ∷ [] =
    rw (ks_is, ls_is, ns_is) (clauses_more ks ls ns k c h kept.literals_long kept.numbers_long) in
    let clauses_back : reverse (kept_clauses more_ks more_ls more_ns) ≡ one ∷ reverse cs =
    ap reverse clauses ∙ newest cs one in
    let kinds_back : reverse more_es ≡ Clause ∷ reverse es = ap reverse es_is ∙ newest es Clause in
    let entries : log_entries more_es names more_ks more_ls more_ns rs vs ≡ entry_by k c h ∷ before =
    rw (kinds_back, clauses_back) refl in
    let counts : counted ≡ (if is_counted (entry_by k c h) then 1 else 0) =
    counted_is ∙ ap (λ b. if b then 1 else 0) (sym (counted_by k c h)) in
    let less : is_counted (entry_by k c h) ≡ true → steps_of before < limit =
    λ counts_one. rw (same, same_limit) (room counts_one) in
    let follows : MayFollow before (entry_by k c h) = subst (λ ps. MayFollow ps (entry_by k c h)) (sym same) may in
    record {
      kept = search (arith, length-append, numbers_more, steps_more, within_more);
      entries = entries ∙ ap (λ ps. entry_by k c h ∷ ps) same;
      limit_is = same_limit;
    }

-- an entry of a variable that has none stands at the end
absent_append : {V : Type 0} (k : ℕ) (xs ys : List (ℕ × V)) → AllByRecursion (λ e. eqb k e.0 ≡ false) xs →
    AllByRecursion (λ e. eqb k e.0 ≡ false) ys
    → AllByRecursion (λ e. eqb k e.0 ≡ false) (xs ++ ys)
absent_append k [] ys left right = right
absent_append k (x ∷ xs) ys left right = (left.0, absent_append k xs ys left.1 right)

pub unnamed_absent : (entries : List Entry) (v : ℕ) → name_of entries v ≡ None →
    AllByRecursion (λ e. eqb v e.0 ≡ false) (names_of entries)
unnamed_absent [] v none = tt
unnamed_absent (Named w name ∷ entries) v none = by (eqb v w) (λ other. unnamed_absent entries v other) refl none
  where
    by : (b : Bool) → (name_of entries v ≡ None → AllByRecursion (λ e. eqb v e.0 ≡ false) (names_of entries)) →
        eqb v w ≡ b
        → (if b then Some name else name_of entries v) ≡ None →
        AllByRecursion (λ e. eqb v e.0 ≡ false) (names_of entries ++ (w, name) ∷ [])
    by true before is other = cc
    by false before is other = absent_append v (names_of entries) ((w, name) ∷ []) (before other) (is, tt)
unnamed_absent (_ ∷ entries) v none = unnamed_absent entries v none

pub one_name_more : (log : ProofLog) (limit steps var : ℕ) (name : Name) (es more_es : List EntryKind)
    (names more_names : List (ℕ × Name)) (ks : List ClauseKind)
    (ls : List (List Literal)) (ns : List (List ℕ)) (rs : List KeptRound) (vs : List (List ℕ)) →
    record { limit = limit; entries = log_entries es names ks ls ns rs vs } ≡ log
    → IsKept limit steps es names ks ls ns rs vs → IsNewName log.entries var name → more_es ≡ es ++ Naming ∷ [] →
    more_names ≡ names ++ (var, name) ∷ []
    → IsMore (Named var name) log limit steps more_es more_names ks ls ns rs vs
one_name_more log limit steps var name es more_es names more_names ks ls ns rs vs is kept asked es_is names_is =
    let before = log_entries es names ks ls ns rs vs in
    let same : before ≡ log.entries = ap (λ (p : ProofLog). p.entries) is in
    let kinds_back : reverse more_es ≡ Naming ∷ reverse es = ap reverse es_is ∙ newest es Naming in
    let names_back : reverse more_names ≡ (var, name) ∷ reverse names =
    ap reverse names_is ∙ newest names (var, name) in
    let entries : log_entries more_es more_names ks ls ns rs vs ≡ Named var name ∷ before =
    rw (kinds_back, names_back) refl in
    let follows : IsNewName before var name = subst (λ ps. IsNewName ps var name) (sym same) asked in
    record {
      kept = search arith;
      entries = entries ∙ ap (λ ps. Named var name ∷ ps) same;
      limit_is = ap (λ (p : ProofLog). p.limit) is;
    }

-- a beginning more
pub one_beginning_more : (log : ProofLog) (limit steps stays : ℕ) (more : List ℕ) (es more_es : List EntryKind)
    (names : List (ℕ × Name)) (ks : List ClauseKind)
    (ls : List (List Literal)) (ns : List (List ℕ)) (rs : List KeptRound) (counts more_counts : List ℕ)
    (added more_added : List (List ℕ))
    → record { limit = limit; entries = log_entries es names ks ls ns rs (kept_lives counts added) } ≡ log →
    IsKept limit steps es names ks ls ns rs (kept_lives counts added)
    → more_es ≡ es ++ Beginning ∷ [] → more_counts ≡ counts ++ stays ∷ [] → more_added ≡ added ++ more ∷ []
    → IsMore (Begun (take stays (last_live log.entries) ++ more)) log limit steps more_es names ks ls ns rs
    (kept_lives more_counts more_added)
one_beginning_more log limit steps stays more es more_es names ks ls ns rs counts more_counts added more_added is kept
    es_is counts_is added_is =
    let vs = kept_lives counts added in
    let before = log_entries es names ks ls ns rs vs in
    let same : before ≡ log.entries = ap (λ (p : ProofLog). p.entries) is in
    let last : last_live log.entries ≡ newest_of vs = ap last_live (sym same) ∙ newest_is_last (reverse es)
    (reverse names) (reverse (kept_clauses ks ls ns)) (reverse rs) vs kept.interleaved in
    let live = take stays (last_live log.entries) ++ more in
    let kinds_back : reverse more_es ≡ Beginning ∷ reverse es = ap reverse es_is ∙ newest es Beginning in
    let lives_are : kept_lives more_counts more_added ≡ live ∷ vs =
    live_more stays more (last_live log.entries) counts more_counts added more_added last counts_is added_is in
    let entries : log_entries more_es names ks ls ns rs (kept_lives more_counts more_added) ≡ Begun live ∷ before =
    rw (kinds_back, lives_are) refl in
    record {
      kept = search arith;
      entries = entries ∙ ap (λ ps. Begun live ∷ ps) same;
      limit_is = ap (λ (p : ProofLog). p.limit) is;
    }

pub more_log : (e : Entry) (log : ProofLog) (limit steps : ℕ) (es : List EntryKind) (names : List (ℕ × Name))
    (ks : List ClauseKind) (ls : List (List Literal))
    (ns : List (List ℕ)) (rs : List KeptRound) (vs : List (List ℕ)) → IsMore e log limit steps es names ks ls ns rs vs
    → record { limit = limit; entries = log_entries es names ks ls ns rs vs } ≡ with_entry log e
more_log e log limit steps es names ks ls ns rs vs more = search arith

pub clause_found : (log : ProofLog) (limit steps : ℕ) (es : List EntryKind) (names : List (ℕ × Name))
    (ks : List ClauseKind) (ls : List (List Literal)) (ns : List (List ℕ))
    (rs : List KeptRound) (vs : List (List ℕ)) (id : ℕ) → record
    { limit = limit; entries = log_entries es names ks ls ns rs vs } ≡ log →
    IsKept limit steps es names ks ls ns rs vs
    → IsId log.entries id → clause_at log.entries id ≡ Some (get_or ls (id - 1) [])
clause_found log limit steps es names ks ls ns rs vs id is kept known =
    let at = at_id log limit steps es names ks ls ns rs vs id is kept known in
    let k = get_or ks (id - 1) OfLemma in
    let found = at.is k (get_or_default ks (id - 1) OfLemma k at.kind_inside) in
    ap (option_and_then clause_of) found.0 ∙ clause_by k (get_or ls (id - 1) []) (get_or ns (id - 1) [])

pub hints_found : (log : ProofLog) (limit steps : ℕ) (es : List EntryKind) (names : List (ℕ × Name))
    (ks : List ClauseKind) (ls : List (List Literal)) (ns : List (List ℕ))
    (rs : List KeptRound) (vs : List (List ℕ)) (id : ℕ) (k : ClauseKind) (numbers hints : List ℕ) →
    record { limit = limit; entries = log_entries es names ks ls ns rs vs } ≡ log
    → IsKept limit steps es names ks ls ns rs vs → IsId log.entries id → k ≡ get_or ks (id - 1) k →
    numbers ≡ get_or ns (id - 1) [] → hints ≡ hints_of (entry_by k [] numbers)
    → hints_at log.entries id ≡ Some hints
hints_found log limit steps es names ks ls ns rs vs id k numbers hints is kept known k_is numbers_is hints_is =
    search (
      arith,
      (at_id log limit steps es names ks ls ns rs vs id is kept known),
      (hints_by k (get_or ls (id - 1) []) (get_or ns (id - 1) [])),
    )

pub hints_earlier : (log : ProofLog) (limit steps : ℕ) (es : List EntryKind) (names : List (ℕ × Name))
    (ks : List ClauseKind) (ls : List (List Literal)) (ns : List (List ℕ))
    (rs : List KeptRound) (vs : List (List ℕ)) (id : ℕ) (k : ClauseKind) (numbers hints : List ℕ) →
    record { limit = limit; entries = log_entries es names ks ls ns rs vs } ≡ log
    → IsKept limit steps es names ks ls ns rs vs → IsId log.entries id → k ≡ get_or ks (id - 1) k →
    numbers ≡ get_or ns (id - 1) [] → hints ≡ hints_of (entry_by k [] numbers)
    → (hint : ℕ) → Contains hints hint → (1 ≤ hint) × (hint < id)
hints_earlier log limit steps es names ks ls ns rs vs id k numbers hints is kept known k_is numbers_is hints_is
    hint has =
    let at = at_id log limit steps es names ks ls ns rs vs id is kept known in
    let found = at.is k k_is in
    let own : hints ≡ hints_of (entry_by k (get_or ls (id - 1) []) (get_or ns (id - 1) [])) =
    hints_is ∙ ap (λ xs. hints_of (entry_by k [] xs)) numbers_is ∙ sym
    (hints_by k (get_or ls (id - 1) []) (get_or ns (id - 1) [])) in
    hint_earlier log.entries id (entry_by k (get_or ls (id - 1) []) (get_or ns (id - 1) []))
    (are_earlier log.entries (lawful log limit steps es names ks ls ns rs vs is kept)) found.0 hint
    (subst (λ hs. Contains hs hint) own has)

pub origin_found : (log : ProofLog) (limit steps : ℕ) (es : List EntryKind) (names : List (ℕ × Name))
    (ks : List ClauseKind) (ls : List (List Literal)) (ns : List (List ℕ))
    (rs : List KeptRound) (vs : List (List ℕ)) (id : ℕ) (k : ClauseKind) (numbers : List ℕ) (origin : Option Origin) →
    record { limit = limit; entries = log_entries es names ks ls ns rs vs } ≡ log
    → IsKept limit steps es names ks ls ns rs vs → IsId log.entries id → k ≡ get_or ks (id - 1) k →
    numbers ≡ get_or ns (id - 1) [] → origin ≡ origin_of (entry_by k [] numbers)
    → origin_at log.entries id ≡ origin
origin_found log limit steps es names ks ls ns rs vs id k numbers origin is kept known k_is numbers_is origin_is =
    search (
      arith,
      (at_id log limit steps es names ks ls ns rs vs id is kept known),
      (origin_by k (get_or ls (id - 1) []) (get_or ns (id - 1) [])),
    )

pub origin_numbers : (log : ProofLog) (limit steps : ℕ) (es : List EntryKind) (names : List (ℕ × Name))
    (ks : List ClauseKind) (ls : List (List Literal)) (ns : List (List ℕ))
    (rs : List KeptRound) (vs : List (List ℕ)) (id : ℕ) (k : ClauseKind) (numbers : List ℕ) →
    record { limit = limit; entries = log_entries es names ks ls ns rs vs } ≡ log
    → IsKept limit steps es names ks ls ns rs vs → IsId log.entries id → k ≡ get_or ks (id - 1) k →
    numbers ≡ get_or ns (id - 1) [] → HasNumbers k numbers
origin_numbers log limit steps es names ks ls ns rs vs id k numbers is kept known k_is numbers_is =
    search (arith, (at_id log limit steps es names ks ls ns rs vs id is kept known))

pub names_found : (log : ProofLog) (limit steps : ℕ) (es : List EntryKind) (names : List (ℕ × Name))
    (ks : List ClauseKind) (ls : List (List Literal)) (ns : List (List ℕ))
    (rs : List KeptRound) (vs : List (List ℕ)) (v : ℕ) → record
    { limit = limit; entries = log_entries es names ks ls ns rs vs } ≡ log →
    IsKept limit steps es names ks ls ns rs vs
    → lookup (eqb v) names ≡ name_of log.entries v
names_found log limit steps es names ks ls ns rs vs v is kept =
    ap (lookup (eqb v)) (names_kept log limit steps es names ks ls ns rs vs is kept)
    ∙ found_names log.entries v (are_named_once log.entries (lawful log limit steps es names ks ls ns rs vs is kept))
