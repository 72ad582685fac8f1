-- Lines that are judged on the names of their pairs.
use Rattle.std.proofs.Common.{◌≡◌, ℕ, ◌+◌, ◌<◌, ◌≤◌, Bool, true, false, List, [], ◌∷◌, ◌++◌, map, drop, length, Option, None, Some, is_none, refl, sym, ◌∙◌, ap, subst, arith}
use Rattle.std.specs.List.{All}
use Rattle.std.specs.Option.{option_map}
use Rattle.std.proofs.lemmas.Bool.{cases_Bool, eqb-true}
use Rattle.dq_lits.specs.Derivation.{LiveClauses, is_empty}
use Rattle.dq_lits.specs.Expansion.{instance_at}
use Rattle.dq_lits.specs.Literal.{Literal, variable_of, on_variable}
use Rattle.dq_lits.proofs.SignedLiterals.{variable_of-on, on-on}
use Rattle.dq_formula.specs.Prefix.{IsLawful}
use Rattle.rup_core.specs.Judging.{Hinted, derive_line, is_derived_by, is_faulty, LineState}
use Rattle.rup_core.specs.Lines.{clause_of_id}
use Rattle.rup_core.specs.Proving.{ProofState, or_clause, ended}
use Rattle.rup_core.specs.Renaming.{AreKnown, AreKnownHints, renamed}
use Rattle.rup_core.proofs.JudgedLines.{line_derives}
use Rattle.rup_core.proofs.RenamedVariables.{line_fault-renamed, stays_named}
use Rattle.refutation_checker.specs.Bindings.{binding_at, AreAllBound}
use Rattle.refutation_checker.specs.declared.bindings.Binding.TheVariants.{Existential as Bound}
use Rattle.refutation_checker.specs.Pairs.{pair_of}
use Rattle.refutation_checker.specs.Rows.{row_of}
use Rattle.refutation_checker.specs.Judging.{IsNamed, AreNamed, IsClause, AreLines, AreBehind, HintsLeft, named_clause, clauses_with, normal_literals, IsJudged}
use Rattle.refutation_checker.specs.Namings.{Frame, Names, base_of, name_of, new_number, is_named, IsNaming, Extends}
use Rattle.refutation_checker.proofs.NamedPairs.{name_stays, named_pair, name_below, numbers_differ}

abbrev AreWhole : Frame → Type 0
AreWhole x = All (λ row. length row ≡ length x.formula.universals) x.rows

pub same_extends : (x : Frame) (n : Names) → Extends x n n
same_extends x n c b r whole is = is

pub then_extends : (x : Frame) (n m l : Names) → Extends x n m → Extends x m l → Extends x n l
then_extends x n m l first second c b r whole is = second c b r whole (first c b r whole is)

-- what is named has its name still
still_named : (x : Frame) (n m : Names) (v : ℕ) → AreWhole x → Extends x n m → is_named x n v ≡ true
    → (is_named x m v ≡ true) × (new_number x m v ≡ new_number x n v)
still_named x n m v whole extends named = search (arith, name_stays)

known_later : (x : Frame) (n m : Names) (literals : List Literal) → AreWhole x → Extends x n m →
    AreKnown (is_named x n) literals → AreKnown (is_named x m) literals
known_later x n m [] whole extends known = tt
known_later x n m (l ∷ literals) whole extends known =
    ((still_named x n m (variable_of l) whole extends known.0).0, known_later x n m literals whole extends known.1)

pub named_later : (x : Frame) (n m : Names) (literals named : List Literal) → AreWhole x → Extends x n m →
    AreNamed x n literals named → AreNamed x m literals named
named_later x n m literals named whole extends are = search (arith, stays_named, still_named, known_later)

known_more : (known : ℕ → Bool) (xs : List Literal) (l : Literal) → AreKnown known xs → known (variable_of l) ≡ true →
    AreKnown known (xs ++ l ∷ [])
known_more known [] l all is = (is, tt)
known_more known (k ∷ xs) l all is = (all.0, known_more known xs l all.1 is)

renamed_append : (number : ℕ → ℕ) (xs ys : List Literal) → renamed number (xs ++ ys)
    ≡ renamed number xs ++ renamed number ys
renamed_append number [] ys = refl
renamed_append number (l ∷ xs) ys = ap (λ ks. on_variable (number (variable_of l)) l ∷ ks) (renamed_append number xs ys)

-- one literal more
pub one_named_more : (x : Frame) (n : Names) (literals named : List Literal) (v : ℕ) (l m : Literal) →
    AreNamed x n literals named → IsNamed x n v l m
    → AreNamed x n (literals ++ on_variable v l ∷ []) (named ++ m ∷ [])
one_named_more x n literals named v l m are is = search (arith, variable_of-on, on-on, renamed_append, known_more)

-- Lines.
pub lines_later : (x : Frame) (n m : Names) (lines others : List (ℕ × List Literal)) → AreWhole x → Extends x n m →
    AreLines x n lines others → AreLines x m lines others
lines_later x n m [] [] whole extends are = tt
lines_later x n m [] (_ ∷ _) whole extends are = are
lines_later x n m (_ ∷ _) [] whole extends are = are
lines_later x n m (line ∷ lines) (other ∷ others) whole extends are =
    (are.0, named_later x n m line.1 other.1 whole extends are.1, lines_later x n m lines others whole extends are.2)

pub line_more : (x : Frame) (n : Names) (lines others : List (ℕ × List Literal)) (id : ℕ)
    (literals named : List Literal) → AreLines x n lines others
    → AreNamed x n literals named → AreLines x n (lines ++ (id, literals) ∷ []) (others ++ (id, named) ∷ [])
line_more x n [] [] id literals named are is = (refl, is, tt)
line_more x n [] (_ ∷ _) id literals named are is = absurd are
line_more x n (_ ∷ _) [] id literals named are is = absurd are
line_more x n (line ∷ lines) (other ∷ others) id literals named are is =
    (are.0, are.1, line_more x n lines others id literals named are.2 is)

-- the clause that has an id, on names
pub line_clause_named : (x : Frame) (n : Names) (lines others : List (ℕ × List Literal)) (id : ℕ) →
    AreLines x n lines others
    → clause_of_id others id ≡ option_map (renamed (new_number x n)) (clause_of_id lines id)
line_clause_named x n [] [] id are = refl
line_clause_named x n [] (_ ∷ _) id are = absurd are
line_clause_named x n (_ ∷ _) [] id are = absurd are
line_clause_named x n (line ∷ lines) (other ∷ others) id are =
    search (arith, (line_clause_named x n lines others id are.2))

no_line_there : (x : Frame) (lines : List (ℕ × List Literal)) (id : ℕ) (clause : List Literal) → AreBehind x lines →
    instance_at x.formula x.rows id ≡ Some clause
    → clause_of_id lines id ≡ None
no_line_there x [] id clause behind is = refl
no_line_there x (line ∷ lines) id clause behind is =
    search (arith, cases_Bool, eqb-true, (no_line_there x lines id clause behind.1 is))

-- a hint that is an instance, and one that is none
pub hint_instance : (x : Frame) (n m : Names) (lines : List (ℕ × List Literal)) (id : ℕ) (literals named : List Literal)
    → AreWhole x → Extends x n m → AreBehind x lines
    → instance_at x.formula x.rows id ≡ Some literals → AreNamed x n literals named →
    named_clause x m lines id ≡ Some named
hint_instance x n m lines id literals named whole extends behind is are =
    ap (λ o. option_map (renamed (new_number x m)) (or_clause o (instance_at x.formula x.rows id)))
    (no_line_there x lines id literals behind is)
    ∙ ap (option_map (renamed (new_number x m))) is
    ∙ ap Some (sym (named_later x n m literals named whole extends are).named_are)

or_none : (o : Option (List Literal)) → or_clause o None ≡ o
or_none None = refl
or_none (Some clause) = refl

pub hint_line : (x : Frame) (n m : Names) (lines others : List (ℕ × List Literal)) (id : ℕ) → AreWhole x →
    Extends x n m → AreLines x n lines others
    → instance_at x.formula x.rows id ≡ None → named_clause x m lines id ≡ clause_of_id others id
hint_line x n m lines others id whole extends are none = search (arith, or_none, line_clause_named, lines_later)

pub none_judged : (x : Frame) (n m : Names) (lines others : List (ℕ × List Literal)) (id : ℕ) (old new : LineState)
    (clauses : Hinted) → AreWhole x → Extends x n m
    → AreLines x n lines others → instance_at x.formula x.rows id ≡ None →
    is_derived_by new clauses ≡ is_derived_by old (clause_of_id others id ∷ clauses)
    → is_derived_by new clauses ≡ is_derived_by old (named_clause x m lines id ∷ clauses)
none_judged x n m lines others id old new clauses whole extends are none judged = search (arith, hint_line)

pub clause_judged : (x : Frame) (n m : Names) (lines : List (ℕ × List Literal)) (id : ℕ)
    (clause : Option (List Literal)) (named read : List Literal) (b : Bool)
    (old new : LineState) (clauses : Hinted) → AreWhole x → Extends x n m → AreBehind x lines →
    instance_at x.formula x.rows id ≡ clause → b ≡ true
    → IsClause x n clause named b → read ≡ named → is_derived_by new clauses ≡ is_derived_by old (Some read ∷ clauses)
    → is_derived_by new clauses ≡ is_derived_by old (named_clause x m lines id ∷ clauses)
clause_judged x n m lines id clause named read b old new clauses whole extends behind is b_is is_clause read_is judged =
    let h : IsClause x n clause named true = subst (IsClause x n clause named) b_is is_clause in
    judged ∙ ap (λ ls. is_derived_by old (Some ls ∷ clauses)) read_is
    ∙ ap (λ o. is_derived_by old (o ∷ clauses)) (sym (hint_instance x n m lines id h.0 named whole extends behind
    (is ∙ h.1.0) h.1.1))

pub no_clause : (x : Frame) (n : Names) (clause : Option (List Literal)) (named : List Literal) (b : Bool) → b ≡ false →
    IsClause x n clause named b → clause ≡ None
no_clause x n clause named b b_is is = subst (IsClause x n clause named) b_is is

pub hints_begin : (x : Frame) (n : Names) (lines : List (ℕ × List Literal)) (literals named : List Literal)
    (hints : List ℕ) (line : LineState) → AreWhole x
    → AreNamed x n literals named → ((clauses : Hinted) → is_derived_by line clauses ≡ derive_line named clauses) →
    HintsLeft x n lines literals hints line 0
hints_begin x n lines literals named hints line whole are judged m extends =
    judged (map (named_clause x m lines) hints)
    ∙ ap (λ ls. derive_line ls (map (named_clause x m lines) hints))
    (named_later x n m literals named whole extends are).named_are

pub hints_next : (x : Frame) (n l : Names) (lines : List (ℕ × List Literal)) (literals : List Literal) (hints : List ℕ)
    (line next : LineState) (i id : ℕ)
    → drop i hints ≡ id ∷ drop (i + 1) hints → Extends x n l
    → ((m : Names) → Extends x l m → (clauses : Hinted) → is_derived_by next clauses ≡ is_derived_by line
    (named_clause x m lines id ∷ clauses))
    → HintsLeft x n lines literals hints line i → HintsLeft x l lines literals hints next (i + 1)
hints_next x n l lines literals hints line next i id at extends judged left m later =
    search (arith, (then_extends x n l m extends later))

known_all : (literals : List Literal) → AreKnown (λ v. true) literals
known_all [] = tt
known_all (l ∷ literals) = (refl, known_all literals)

known_hints : (live : LiveClauses) (hints : List ℕ) → AreKnownHints (λ v. true) live hints
known_hints live [] = tt
known_hints live (id ∷ hints) = search (arith, (known_hints live hints), known_all)

-- names change no derivation
same_derivation : (x : Frame) (n : Names) (lines : List (ℕ × List Literal)) (literals : List Literal) (hints : List ℕ) →
    IsNaming x n
    → AreAllBound x.formula x.sets x.bindings → AreWhole x
    → derive_line (renamed (new_number x n) literals) (map (named_clause x n lines) hints) ≡ derive_line literals
    (map (clauses_with x lines) hints)
same_derivation x n lines literals hints naming bound whole =
    sym (line_derives (named_clause x n lines) (renamed (new_number x n) literals) hints)
    ∙ ap is_none
    (line_fault-renamed (new_number x n) (λ v. true) (numbers_differ x n naming bound whole) (clauses_with x lines)
    (named_clause x n lines) (λ id. refl) literals hints
    (known_all literals) (known_hints (clauses_with x lines) hints))
    ∙ line_derives (clauses_with x lines) literals hints

-- when all hints were judged
pub hints_end : (x : Frame) (n : Names) (lines : List (ℕ × List Literal)) (literals : List Literal) (hints : List ℕ)
    (line : LineState) (i : ℕ) → IsNaming x n
    → AreAllBound x.formula x.sets x.bindings → AreWhole x → drop i hints ≡ [] →
    HintsLeft x n lines literals hints line i
    → is_derived_by line [] ≡ derive_line literals (map (clauses_with x lines) hints)
hints_end x n lines literals hints line i naming bound whole none left =
    ap (λ ids. is_derived_by line (map (named_clause x n lines) ids)) (sym none)
    ∙ left n (same_extends x n) ∙ same_derivation x n lines literals hints naming bound whole

never_derived : (line : LineState) (clauses : Hinted) → is_faulty line ≡ true → is_derived_by line clauses ≡ false
never_derived line clauses h = search arith

-- or none can help any more
pub hints_fault : (x : Frame) (n : Names) (lines : List (ℕ × List Literal)) (literals : List Literal) (hints : List ℕ)
    (line : LineState) (i : ℕ) → IsNaming x n
    → AreAllBound x.formula x.sets x.bindings → AreWhole x → is_faulty line ≡ true →
    HintsLeft x n lines literals hints line i
    → is_derived_by line [] ≡ derive_line literals (map (clauses_with x lines) hints)
hints_fault x n lines literals hints line i naming bound whole faulty left =
    never_derived line [] faulty ∙ sym (never_derived line (map (named_clause x n lines) (drop i hints)) faulty)
    ∙ left n (same_extends x n) ∙ same_derivation x n lines literals hints naming bound whole

-- the name of a pair that is counted from its set's first one
pub named_from_base : (x : Frame) (n : Names) (k y c p base : ℕ) → IsNaming x n → IsLawful x.formula →
    AreAllBound x.formula x.sets x.bindings → AreWhole x
    → k < length x.rows → binding_at x.bindings y ≡ Bound c p → base_of x n c (row_of x.rows k) ≡ Some base
    → (name_of x n (pair_of x.formula x.rows (row_of x.rows k) y) ≡ Some (base + p)) × (1 ≤ base + p) ×
    (base + p < n.next)
named_from_base x n k y c p base naming lawful bound whole k_in is based =
    let named = named_pair x n k y c p base naming lawful bound whole k_in is based in
    let below = name_below x n naming bound whole (pair_of x.formula x.rows (row_of x.rows k) y) (base + p) named in
    (named, below.0, below.1)

-- what a line that was judged leaves
empty_renamed : (number : ℕ → ℕ) (x : Frame) (literals : List Literal) →
    is_empty (renamed number (normal_literals x literals)) ≡ is_empty literals
empty_renamed number x [] = refl
empty_renamed number x (l ∷ literals) = refl

pub line_judged : (x : Frame) (n : Names) (lines : List (ℕ × List Literal)) (id : ℕ) (literals named : List Literal)
    (p q : ProofState) (d : Bool)
    → AreLines x n lines p.lines → p.fault ≡ None → AreNamed x n (normal_literals x literals) named →
    q ≡ ended d id named p → IsJudged x n lines id literals q d
line_judged x n lines id literals named p q true are going is q_is = search (arith, line_more, empty_renamed)
line_judged x n lines id literals named p q false are going is q_is = search arith
