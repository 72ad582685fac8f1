-- Lines that are judged clause by clause.
use Rattle.std.proofs.Common.{◌≡◌, ℕ, suc, ◌+◌, ◌<◌, ◌==◌, Bool, true, false, not, cond, ◌||◌, ◌&&◌, is_none, is_some, inl, inr, List, [], ◌∷◌, ◌++◌, map, take, length, get_or, Option, None, Some, refl, sym, ◌∙◌, ap, ap₂, subst, arith, eq-eqb}
use Rattle.std.specs.List.{All, filter}
use Rattle.std.proofs.lemmas.Bool.{cases_eq, ne_eqb, or_cases, eqb-true}
use Rattle.std.proofs.lemmas.List.{take_more}
use Rattle.std.proofs.lemmas.List.Folds.{list_any-append}
use Rattle.list_laws.proofs.Numbers.{equal-swap}
use mathlib.Core.Path.{fun_ext}
use Rattle.dq_lits.specs.Literal.{Literal, opposite, same_literal}
use Rattle.dq_lits.specs.Derivation.{LiveClauses, with_clause, ClauseStatus, falsified, unit, stuck, status_of, fault_by, hint_fault, is_tautology, line_fault, ProofStep, is_empty, AreSame}
use Rattle.rup_core.specs.Items.{derived, gone, is_among, without_clauses}
use Rattle.rup_core.specs.Judging.{Hinted, no_line, is_last, refute_by, refute, derive_line}
use Rattle.rup_core.specs.Lines.{clause_of_id}
use Rattle.rup_core.specs.Proving.{ProofState, or_clause, with_lines, run_over, with_derived, ended, without_lines}
use Rattle.rup_core.specs.Runs.{with_line, with_item, unless_faulty, advanced}
use Rattle.dq_lits.proofs.EqualTruths.{status_of-same}

-- what is true as a set is all that counts
refute_by-same : (s : ClauseStatus) (last : Bool) (f g : Literal → Bool) → ((l : Literal) → f l ≡ g l) →
    refute_by s last f ≡ refute_by s last g
refute_by-same falsified last f g same = refl
refute_by-same (unit l) last f g same = same l
refute_by-same stuck last f g same = refl

refute-same : (clauses : Hinted) (xs ys : List Literal) → AreSame xs ys → refute xs clauses ≡ refute ys clauses
refute-same [] xs ys same = refl
refute-same (clause ∷ clauses) xs ys same =
    ap (λ s. refute_by s (is_last clauses) (λ l. refute (l ∷ xs) clauses)) (status_of-same xs ys clause same)
    ∙ refute_by-same (status_of ys clause) (is_last clauses) (λ l. refute (l ∷ xs) clauses)
    (λ l. refute (l ∷ ys) clauses)
    (λ l. refute-same clauses (l ∷ xs) (l ∷ ys) (λ k. ap (λ b. same_literal k l || b) (same k)))

pub begun : (line trues : List Literal) (consistent : Bool) → consistent ≡ true → consistent ≡ not (is_tautology line) →
    AreSame trues (map opposite line) → (clauses : Hinted) →
    refute trues clauses ≡ derive_line line clauses
begun line trues consistent is plain same clauses =
    refute-same clauses trues (map opposite line) same ∙ sym
    (ap (λ b. b && refute (map opposite line) clauses) (sym plain ∙ is))

-- the fault of a line
none_by : (s : ClauseStatus) (place : ℕ) (hints : List ℕ) (clauses : Hinted) (next : Literal → Option ℕ)
    (refutes : Literal → Bool) → is_last clauses ≡ is_last (map Some (map (λ _. []) hints)) →
    ((l : Literal) → is_none (next l) ≡ refutes l) → is_none (fault_by s place hints next) ≡ refute_by s
    (is_last clauses) refutes
none_by falsified place [] clauses next refutes last same = sym last
none_by falsified place (hint ∷ hints) clauses next refutes last same = sym last
none_by (unit l) place hints clauses next refutes last same = same l
none_by stuck place hints clauses next refutes last same = refl

last_hint : (live : LiveClauses) (hints : List ℕ) → is_last (map live hints) ≡ is_last (map Some (map (λ _. []) hints))
last_hint live [] = refl
last_hint live (hint ∷ hints) = refl

hints_refute : (live : LiveClauses) (hints : List ℕ) (trues : List Literal) (place : ℕ) →
    is_none (hint_fault live trues place hints) ≡ refute trues (map live hints)
hints_refute live [] trues place = refl
hints_refute live (hint ∷ hints) trues place =
    none_by (status_of trues (live hint)) place hints (map live hints)
    (λ l. hint_fault live (l ∷ trues) (place + 1) hints) (λ l. refute (l ∷ trues) (map live hints))
    (last_hint live hints)
    (λ l. hints_refute live hints (l ∷ trues) (place + 1))

none_if : (b : Bool) (o : Option ℕ) → is_none (cond b (Some 0) o) ≡ (not b && is_none o)
none_if true o = refl
none_if false o = refl

-- a line is derived where it has no fault
pub line_derives : (live : LiveClauses) (literals : List Literal) (hints : List ℕ) →
    is_none (line_fault live literals hints) ≡ derive_line literals (map live hints)
line_derives live literals hints =
    none_if (is_tautology literals) (hint_fault live (map opposite literals) 1 hints)
    ∙ ap (λ b. not (is_tautology literals) && b) (hints_refute live hints (map opposite literals) 1)

-- one more line
lines_put : (lines : List (ℕ × List Literal)) (id : ℕ) (clause : List Literal) → All (λ line. line.0 < id) lines →
    (i : ℕ) →
    clause_of_id (lines ++ (id, clause) ∷ []) i ≡ cond (i == id) (Some clause) (clause_of_id lines i)
lines_put [] id clause above i = ap (λ b. cond b (Some clause) None) (equal-swap id i)
lines_put (line ∷ lines) id clause above i =
    ap (λ o. cond (line.0 == i) (Some line.1) o) (lines_put lines id clause
    (λ k d below. above (suc k) d (omega (arith, below))) i)
    ∙ elim (cases_eq line.0 i) [
      | inl same ↦
          let less : line.0 < id = above 0 line (omega arith) in
          ap (λ b. cond b (Some line.1) (cond (i == id) (Some clause) (clause_of_id lines i))) (eq-eqb line.0 i same)
          ∙ sym (ap (λ b. cond b (Some clause) (cond (line.0 == i) (Some line.1) (clause_of_id lines i)))
          (ne_eqb i id (λ e. omega (arith, e, less, same)))
          ∙ ap (λ b. cond b (Some line.1) (clause_of_id lines i)) (eq-eqb line.0 i same))
      | inr other ↦
          ap (λ b. cond b (Some line.1) (cond (i == id) (Some clause) (clause_of_id lines i))) (ne_eqb line.0 i other)
          ∙ ap (λ o. cond (i == id) (Some clause) o) (sym (ap (λ b. cond b (Some line.1) (clause_of_id lines i))
          (ne_eqb line.0 i other)))
    ]

or_by : (b : Bool) (clause : List Literal) (one other : Option (List Literal)) →
    or_clause (cond b (Some clause) one) other ≡ cond b (Some clause) (or_clause one other)
or_by true clause one other = refl
or_by false clause one other = refl

pub live_put : (live : LiveClauses) (lines : List (ℕ × List Literal)) (id : ℕ) (clause : List Literal) →
    All (λ line. line.0 < id) lines →
    with_lines live (lines ++ (id, clause) ∷ []) ≡ with_clause (with_lines live lines) id clause
live_put live lines id clause above =
    fun_ext (λ i. ap (λ o. or_clause o (live i)) (lines_put lines id clause above i) ∙ or_by (i == id) clause
    (clause_of_id lines i) (live i))

-- a line that is judged is an item of the run
line_run : (fault : Option ℕ) (is_derived : Bool) (live : LiveClauses) (p : ProofState) (step : ProofStep) →
    is_none fault ≡ is_derived → p.fault ≡ None →
    All (λ line. line.0 < step.id) p.lines → run_over live (with_derived None is_derived step.id step.literals p)
    ≡ with_line fault (run_over live p) step
line_run None true live p step is going above =
    ap₂ (λ l f. record { finished = is_empty step.literals; live = l; fault = f })
    (live_put live p.lines step.id step.literals above) going
line_run (Some place) false live p step is going above = refl
line_run None false live p step is going above = cc
line_run (Some place) true live p step is going above = cc

item_run : (fault : Option ℕ) (is_derived : Bool) (live : LiveClauses) (p : ProofState) (step : ProofStep) →
    p.fault ≡ fault →
    is_none (line_fault (with_lines live p.lines) step.literals step.hints) ≡ is_derived →
    All (λ line. line.0 < step.id) p.lines → run_over live (with_derived fault is_derived step.id step.literals p)
    ≡ with_item (run_over live p) (derived step)
item_run (Some id) is_derived live p step going is above =
    sym (ap (λ f. unless_faulty f (run_over live p) (advanced (run_over live p) (derived step))) going)
item_run None is_derived live p step going is above =
    line_run (line_fault (with_lines live p.lines) step.literals step.hints) is_derived live p step is going above
    ∙ sym (ap (λ f. unless_faulty f (run_over live p) (advanced (run_over live p) (derived step))) going)

pub derived_is_item : (live : LiveClauses) (p : ProofState) (is_derived : Bool) (step : ProofStep) →
    All (λ line. line.0 < step.id) p.lines →
    is_derived ≡ derive_line step.literals (map (with_lines live p.lines) step.hints) →
    run_over live (ended is_derived step.id step.literals p) ≡ with_item (run_over live p) (derived step)
derived_is_item live p is_derived step above is =
    item_run p.fault is_derived live p step refl (line_derives (with_lines live p.lines) step.literals step.hints
    ∙ sym is) above

-- ids that are deleted
among_holds : (P : ℕ → Type 0) (ids : List ℕ) (i : ℕ) → is_among ids i ≡ true → All P ids → P i
among_holds P [] i among all = cc
among_holds P (id ∷ ids) i among all = elim (or_cases (id == i) (is_among ids i) among) [
  | inl same ↦ subst P (eqb-true id i same) (all 0 id (omega arith))
  | inr later ↦ among_holds P ids i later (λ k d below. all (suc k) d (omega (arith, below)))
]

lines_without : (lines : List (ℕ × List Literal)) (ids : List ℕ) (i : ℕ) →
    clause_of_id (filter (λ line. not (is_among ids line.0)) lines) i ≡ cond (is_among ids i) None
    (clause_of_id lines i)
lines_without [] ids i = elim (is_among ids i) as (λ b. clause_of_id [] i ≡ cond b None (clause_of_id [] i))
    [ true ↦ refl | false ↦ refl ]
lines_without (line ∷ lines) ids i = let rest = filter (λ l. not (is_among ids l.0)) lines in elim (cases_eq line.0 i) [
  | inl same ↦
      ap (λ b. clause_of_id (cond (not b) (line ∷ rest) rest) i) (ap (is_among ids) same)
      ∙ here rest (is_among ids i) (eq-eqb line.0 i same) (lines_without lines ids i)
  | inr other ↦
      there rest (is_among ids line.0) (ne_eqb line.0 i other)
      ∙ lines_without lines ids i
      ∙ ap (λ b. cond (is_among ids i) None (cond b (Some line.1) (clause_of_id lines i))) (sym (ne_eqb line.0 i other))
]
  where
    here : (rest : List (ℕ × List Literal)) (b : Bool) → (line.0 == i) ≡ true →
        clause_of_id rest i ≡ cond b None (clause_of_id lines i) →
        clause_of_id (cond (not b) (line ∷ rest) rest) i ≡ cond b None
        (cond (line.0 == i) (Some line.1) (clause_of_id lines i))
    here rest true same left = left
    here rest false same left = ap (λ b. cond b (Some line.1) (clause_of_id rest i)) same ∙ sym
        (ap (λ b. cond b (Some line.1) (clause_of_id lines i)) same)

    there : (rest : List (ℕ × List Literal)) (b : Bool) → (line.0 == i) ≡ false →
        clause_of_id (cond (not b) (line ∷ rest) rest) i ≡ clause_of_id rest i
    there rest true other = refl
    there rest false other = ap (λ b. cond b (Some line.1) (clause_of_id rest i)) other

or_without : (b : Bool) (one other : Option (List Literal)) → (b ≡ true → other ≡ None) →
    or_clause (cond b None one) other ≡ cond b None (or_clause one other)
or_without true one other none = none refl
or_without false one other none = refl

live_without : (live : LiveClauses) (lines : List (ℕ × List Literal)) (ids : List ℕ) → All (λ id. live id ≡ None) ids →
    with_lines live (filter (λ line. not (is_among ids line.0)) lines) ≡ without_clauses (with_lines live lines) ids
live_without live lines ids behind =
    fun_ext (λ i. ap (λ o. or_clause o (live i)) (lines_without lines ids i)
    ∙ or_without (is_among ids i) (clause_of_id lines i) (live i)
    (λ among. among_holds (λ id. live id ≡ None) ids i among behind))

gone_run : (fault : Option ℕ) (live : LiveClauses) (p : ProofState) (ids : List ℕ) → p.fault ≡ fault →
    All (λ id. live id ≡ None) ids →
    run_over live (without_lines fault ids p) ≡ with_item (run_over live p) (gone ids)
gone_run (Some id) live p ids going behind = sym (ap (λ f. unless_faulty f (run_over live p)
    (advanced (run_over live p) (gone ids))) going)
gone_run None live p ids going behind =
    ap (λ l. record { finished = p.finished; live = l; fault = p.fault }) (live_without live p.lines ids behind)
    ∙ sym (ap (λ f. unless_faulty f (run_over live p) (advanced (run_over live p) (gone ids))) going)

pub gone_is_item : (live : LiveClauses) (p : ProofState) (ids : List ℕ) → All (λ id. live id ≡ None) ids →
    run_over live (without_lines p.fault ids p) ≡ with_item (run_over live p) (gone ids)
gone_is_item live p ids behind = gone_run p.fault live p ids refl behind

-- ids that are forgotten one by one
filter-all : {X : Type 0} (p : X → Bool) → ((x : X) → p x ≡ true) → (xs : List X) → filter p xs ≡ xs
filter-all p all [] = refl
filter-all p all (x ∷ xs) = ap (λ b. cond b (x ∷ filter p xs) (filter p xs)) (all x) ∙ ap (λ ys. x ∷ ys)
    (filter-all p all xs)

filter-both : {X : Type 0} (p q r : X → Bool) → ((x : X) → r x ≡ (q x && p x)) → (xs : List X) →
    filter p (filter q xs) ≡ filter r xs
filter-both p q r both [] = refl
filter-both p q r both (x ∷ xs) =
    by (q x) (filter-both p q r both xs) ∙ ap (λ b. cond b (x ∷ filter r xs) (filter r xs)) (sym (both x))
  where
    by : (b : Bool) → filter p (filter q xs) ≡ filter r xs →
        filter p (cond b (x ∷ filter q xs) (filter q xs)) ≡ cond (b && p x) (x ∷ filter r xs) (filter r xs)
    by true rest = ap (λ ys. cond (p x) (x ∷ ys) ys) rest
    by false rest = rest

pub none_forgotten : (lines : List (ℕ × List Literal)) → lines ≡ filter (λ line. not (is_among [] line.0)) lines
none_forgotten lines = sym (filter-all (λ line. not (is_among [] line.0)) (λ line. refl) lines)

neither : (a b : Bool) → not (a || (b || false)) ≡ (not a && not b)
neither true b = refl
neither false true = refl
neither false false = refl

pub one_forgotten : (ids : List ℕ) (n : ℕ) (lines now new : List (ℕ × List Literal)) → n < length ids →
    now ≡ filter (λ line. not (is_among (take n ids) line.0)) lines →
    new ≡ filter (λ line. not (line.0 == get_or ids n 0)) now →
    new ≡ filter (λ line. not (is_among (take (n + 1) ids) line.0)) lines
one_forgotten ids n lines now new below before is =
    let id = get_or ids n 0 in
    is ∙ ap (filter (λ line. not (line.0 == id))) before
    ∙ filter-both (λ line. not (line.0 == id)) (λ line. not (is_among (take n ids) line.0))
    (λ line. not (is_among (take (n + 1) ids) line.0))
    (λ line.
    ap (λ xs. not (is_among xs line.0)) (take_more ids n 0 below)
    ∙ ap not (list_any-append (λ j. j == line.0) (take n ids) (id ∷ []))
    ∙ neither (is_among (take n ids) line.0) (id == line.0)
    ∙ ap (λ b. not (is_among (take n ids) line.0) && not b) (equal-swap id line.0))
    lines

none_here : (fault : Option ℕ) → is_none fault ≡ true → fault ≡ None
none_here None h = refl
none_here (Some id) h = cc

pub gone_state : (live : LiveClauses) (before p : ProofState) (lines : List (ℕ × List Literal)) (ids : List ℕ) →
    before ≡ p → is_none before.fault ≡ true →
    lines ≡ filter (λ line. not (is_among ids line.0)) before.lines → All (λ id. live id ≡ None) ids →
    run_over live (record before { lines = lines }) ≡ with_item (run_over live p) (gone ids)
gone_state live before p lines ids view going fewer behind =
    let P : ProofState → Type 0 = λ q. run_over live (record before { lines = lines }) ≡ with_item (run_over live q)
    (gone ids) in
    subst P view
    (ap (λ ls. run_over live (record before { lines = ls })) fewer
    ∙ ap (λ f. run_over live (without_lines f ids before)) (sym (none_here before.fault going))
    ∙ gone_is_item live before ids behind)

-- a line that was judged at once
pub line_state : (live : LiveClauses) (before p : ProofState) (is_derived : Bool) (step : ProofStep) →
    before ≡ record p { line = no_line } → is_none before.fault ≡ true →
    is_derived ≡ derive_line step.literals (map (with_lines live before.lines) step.hints) →
    All (λ line. line.0 < step.id) p.lines → (new : ProofState) →
    new ≡ with_derived None is_derived step.id step.literals before →
    run_over live new ≡ with_item (run_over live p) (derived step)
line_state live before p is_derived step view going is above new added =
    let P : List (ℕ × List Literal) → Type 0 = λ ls. All (λ line. line.0 < step.id) ls in
    ap (run_over live) added
    ∙ ap (λ f. run_over live (with_derived f is_derived step.id step.literals before))
    (sym (none_here before.fault going))
    ∙ derived_is_item live before is_derived step (subst P (sym (ap (λ q. q.lines) view)) above) is
    ∙ ap (λ q. with_item (run_over live q) (derived step)) view

-- what a test says
pub none_said : (o : Option ℕ) (b : Bool) → is_some o ≡ not b → b ≡ is_none o
none_said None true h = refl
none_said None false h = cc
none_said (Some n) true h = cc
none_said (Some n) false h = refl
