-- Clauses in pages, and the lines that they are.
use Rattle.std.proofs.Common.{◌≡◌, ℕ, ◌+◌, ◌-◌, ◌*◌, ◌/◌, ◌%◌, ◌<◌, ◌≤◌, ◌==◌, true, false, not, cond, inl, inr, List, [], ◌∷◌, ◌++◌, set, length, get_or, Option, None, Some, IsSome, is_some, refl, sym, ◌∙◌, ap, ap₂, subst, arith, eq-eqb}
use Rattle.std.specs.List.{All, filter}
use Rattle.std.proofs.Math.Nat.{div-add-mod}
use Rattle.std.proofs.lemmas.Bool.{cases_eq, cases_lt, ne_eqb}
use Rattle.std.proofs.lemmas.List.{get_or_past, get_or_default, get_or-set_same, get_or-set_other}
use Rattle.std.proofs.lemmas.Nat.{le-div}
use Rattle.dq_lits.specs.Literal.{Literal}
use Rattle.rup_core.specs.Lines.{clause_of_id, lines_below}
use Rattle.rup_core.specs.Paging.{Clauses, clause_at, clause_among, AreSameClauses, Sets, stored_lines}
use Rattle.rup_core.specs.declared.stores.TheConstants.{PAGE}
use Rattle.rup_core.proofs.HeldLines.{lines_same, lines_enough, line_put, line_gone, before_stays, nothing_gone, clause_of_place, id_before, lines_before, one_line_less, none_from, no_lines}

pub none_past : (pages : List Clauses) (k : ℕ) → length pages * PAGE ≤ k → clause_among pages k ≡ None
none_past pages k past =
    ap (λ page. clause_at page (k % PAGE)) (get_or_past pages (k / PAGE) []
    (le-div (length pages) k PAGE (omega arith) past))

-- a page that is one of the pages
same_place : (k p : ℕ) → k / PAGE ≡ p / PAGE → k % PAGE ≡ p % PAGE → k ≡ p
same_place k p page place =
    sym (div-add-mod k PAGE) ∙ ap₂ (λ a b. PAGE * a + b) page place ∙ div-add-mod p PAGE

pub page_sets : (pages : List Clauses) (page : Clauses) (place : ℕ) (clause : Option (List Literal)) →
    place / PAGE < length pages →
    Sets (clause_at (get_or pages (place / PAGE) [])) (clause_at page) (place % PAGE) clause →
    Sets (clause_among pages) (clause_among (set pages (place / PAGE) page)) place clause
page_sets pages page place clause below sets k = elim (cases_eq (k / PAGE) (place / PAGE)) [
  | inl same ↦
      ap (λ p. clause_at (get_or (set pages (place / PAGE) page) p []) (k % PAGE)) same
      ∙ ap (λ p. clause_at p (k % PAGE)) (get_or-set_same pages (place / PAGE) page [] below)
      ∙ sets (k % PAGE)
      ∙ elim (cases_eq (k % PAGE) (place % PAGE)) [
        | inl here ↦
            ap (λ b. cond b clause (clause_at (get_or pages (place / PAGE) []) (k % PAGE)))
            (eq-eqb (k % PAGE) (place % PAGE) here)
            ∙ sym (ap (λ b. cond b clause (clause_among pages k)) (eq-eqb k place (same_place k place same here)))
        | inr other ↦
            ap (λ b. cond b clause (clause_at (get_or pages (place / PAGE) []) (k % PAGE)))
            (ne_eqb (k % PAGE) (place % PAGE) other)
            ∙ ap (λ p. clause_at (get_or pages p []) (k % PAGE)) (sym same)
            ∙ sym (ap (λ b. cond b clause (clause_among pages k)) (ne_eqb k place (λ e. other (ap (λ n. n % PAGE) e))))
      ]
  | inr other ↦
      ap (λ p. clause_at p (k % PAGE)) (get_or-set_other pages (place / PAGE) (k / PAGE) page [] other)
      ∙ sym (ap (λ b. cond b clause (clause_among pages k)) (ne_eqb k place (λ e. other (ap (λ n. n / PAGE) e))))
]

pub page_same : (pages : List Clauses) (page : Clauses) (p : ℕ) → p < length pages →
    AreSameClauses (clause_at (get_or pages p [])) (clause_at page) →
    AreSameClauses (clause_among pages) (clause_among (set pages p page))
page_same pages page p below same k = elim (cases_eq (k / PAGE) p) [
  | inl here ↦
      ap (λ n. clause_at (get_or (set pages p page) n []) (k % PAGE)) here ∙ ap (λ x. clause_at x (k % PAGE))
      (get_or-set_same pages p page [] below)
      ∙ same (k % PAGE) ∙ ap (λ n. clause_at (get_or pages n []) (k % PAGE)) (sym here)
  | inr other ↦ ap (λ x. clause_at x (k % PAGE)) (get_or-set_other pages p (k / PAGE) page [] other)
]

abbrev Lines : Type 0
Lines = List (ℕ × List Literal)

pub clause_stored : (first : ℕ) (pages : List Clauses) (id : ℕ) → first ≤ id →
    clause_of_id (stored_lines first pages) id ≡ clause_among pages (id - first)
clause_stored first pages id le =
    ap (clause_of_id (stored_lines first pages)) (let e : id ≡ first + (id - first) = omega (arith, le) in e)
    ∙ clause_of_place first (length pages * PAGE) (id - first) (clause_among pages) (none_past pages)

pub found_before : (lines : Lines) (first : ℕ) (pages : List Clauses) (id : ℕ) → stored_lines first pages ≡ lines →
    id < first → clause_of_id lines id ≡ None
found_before lines first pages id view before =
    ap (λ ls. clause_of_id ls id) (sym view) ∙ id_before first (length pages * PAGE) (clause_among pages) id before

pub found_from : (lines : Lines) (first : ℕ) (pages read : List Clauses) (id : ℕ) → stored_lines first pages ≡ lines →
    read ≡ pages → first ≤ id →
    clause_of_id lines id ≡ clause_among read (id - first)
found_from lines first pages read id view same le =
    ap (λ ls. clause_of_id ls id) (sym view) ∙ clause_stored first pages id le ∙ ap (λ ps. clause_among ps (id - first))
    (sym same)

pub sets_along : (old new pages : List Clauses) (place : ℕ) (clause : Option (List Literal)) →
    AreSameClauses (clause_among old) (clause_among new) → Sets (clause_among new) (clause_among pages) place clause →
    Sets (clause_among old) (clause_among pages) place clause
sets_along old new pages place clause same sets k = sets k ∙ ap (λ o. cond (k == place) clause o) (same k)

pub same_along : (old new pages : List Clauses) → AreSameClauses (clause_among old) (clause_among new) →
    AreSameClauses (clause_among new) (clause_among pages) → AreSameClauses (clause_among old) (clause_among pages)
same_along old new pages same sets k = sets k ∙ same k

-- where the page was read by its place
pub put_in_page : (old mid : List Clauses) (before after other : Clauses) (place : ℕ) (clause : Option (List Literal)) →
    AreSameClauses (clause_among old) (clause_among mid) → place / PAGE < length mid →
    before ≡ get_or mid (place / PAGE) other → Sets (clause_at before) (clause_at after) (place % PAGE) clause →
    Sets (clause_among old) (clause_among (set mid (place / PAGE) after)) place clause
put_in_page old mid before after other place clause same below is sets =
    let P : Clauses → Type 0 = λ page. Sets (clause_at page) (clause_at after) (place % PAGE) clause in
    sets_along old mid (set mid (place / PAGE) after) place clause same
    (page_sets mid after place clause below (subst P (is ∙ get_or_default mid (place / PAGE) other [] below) sets))

pub same_in_page : (old mid : List Clauses) (before after other : Clauses) (p : ℕ) →
    AreSameClauses (clause_among old) (clause_among mid) → p < length mid → before ≡ get_or mid p other →
    AreSameClauses (clause_at before) (clause_at after) → AreSameClauses (clause_among old)
    (clause_among (set mid p after))
same_in_page old mid before after other p same below is clauses =
    let P : Clauses → Type 0 = λ page. AreSameClauses (clause_at page) (clause_at after) in
    same_along old mid (set mid p after) same (page_same mid after p below
    (subst P (is ∙ get_or_default mid p other [] below) clauses))

pub free_from : (lines : Lines) (first : ℕ) (pages : List Clauses) (place id : ℕ) → stored_lines first pages ≡ lines →
    id ≡ first + place → All (λ line. line.0 < id) lines →
    (k : ℕ) → place ≤ k → clause_among pages k ≡ None
free_from lines first pages place id view is above k past = elim (cases_lt k (length pages * PAGE)) [
  | inl below ↦
      let P : Lines → Type 0 = λ ls. All (λ line. line.0 < first + place) ls in
      let Q : ℕ → Type 0 = λ n. All (λ line. line.0 < n) lines in
      none_from first (length pages * PAGE) place (clause_among pages)
      (subst P (sym view) (subst Q is above)) k past below
  | inr beyond ↦ none_past pages k beyond
]

-- a line behind the others
pub stored_put : (lines : Lines) (first : ℕ) (old new : List Clauses) (place id : ℕ) (clause : List Literal) →
    stored_lines first old ≡ lines → id ≡ first + place →
    All (λ line. line.0 < id) lines → Sets (clause_among old) (clause_among new) place (Some clause) →
    place < length new * PAGE →
    stored_lines first new ≡ lines ++ (id, clause) ∷ []
stored_put lines first old new place id clause view is above sets within =
    line_put first (length old * PAGE) (length new * PAGE) place (clause_among old) (clause_among new) clause
    (none_past old) (free_from lines first old place id view is above) sets within
    ∙ ap₂ (λ ls n. ls ++ (n, clause) ∷ []) view (sym is)

pub few_stored : (lines : Lines) (first : ℕ) (pages : List Clauses) (place id : ℕ) → stored_lines first pages ≡ lines →
    id ≡ first + place → All (λ line. line.0 < id) lines →
    length (stored_lines first pages) ≤ place
few_stored lines first pages place id view is above =
    lines_before first (length pages * PAGE) place (clause_among pages) (none_past pages)
    (free_from lines first pages place id view is above)

pub stored_same : (first : ℕ) (old new : List Clauses) → AreSameClauses (clause_among old) (clause_among new) →
    stored_lines first new ≡ stored_lines first old
stored_same first old new same =
    lines_enough first (length old * PAGE) (length new * PAGE) (clause_among new)
    (λ k past. same k ∙ none_past old k past) (none_past new)
    ∙ lines_same first (length old * PAGE) (clause_among old) (clause_among new) (λ k below. same k)

-- a line that is gone
pub stored_gone : (lines : Lines) (first : ℕ) (old new : List Clauses) (id : ℕ) → stored_lines first old ≡ lines →
    first ≤ id →
    Sets (clause_among old) (clause_among new) (id - first) None → length new ≡ length old →
    stored_lines first new ≡ filter (λ line. not (line.0 == id)) lines
stored_gone lines first old new id view le sets long =
    ap (λ n. lines_below first (n * PAGE) (clause_among new)) long
    ∙ line_gone first (length old * PAGE) (id - first) (clause_among old) (clause_among new) sets
    ∙ ap₂ (λ n ls. filter (λ line. not (line.0 == n)) ls) (let e : first + (id - first) ≡ id =
    omega (arith, le) in e) view

pub fewer_stored : (first : ℕ) (old new : List Clauses) (place : ℕ) →
    Sets (clause_among old) (clause_among new) place None → IsSome (clause_among old place) → length new ≡ length old →
    length (stored_lines first new) + 1 ≡ length (stored_lines first old)
fewer_stored first old new place sets some long =
    ap (λ n. length (lines_below first (n * PAGE) (clause_among new)) + 1) long
    ∙ one_line_less first (length old * PAGE) place (clause_among old) (clause_among new) (none_past old) sets some

-- a line that wasn't there
pub stored_stays : (lines : Lines) (first : ℕ) (pages : List Clauses) (id : ℕ) → stored_lines first pages ≡ lines →
    first ≤ id → clause_among pages (id - first) ≡ None →
    lines ≡ filter (λ line. not (line.0 == id)) lines
stored_stays lines first pages id view le none =
    sym view ∙ stored_gone lines first pages pages id view le (nothing_gone (clause_among pages) (id - first) none) refl

pub before_first : (lines : Lines) (first : ℕ) (pages : List Clauses) (id : ℕ) → stored_lines first pages ≡ lines →
    id < first → lines ≡ filter (λ line. not (line.0 == id)) lines
before_first lines first pages id view before =
    sym view ∙ sym (before_stays first (length pages * PAGE) id (clause_among pages) before) ∙ ap
    (filter (λ line. not (line.0 == id))) view

-- where a new line has an id before the first place, there is none
pub none_before : (lines : Lines) (first : ℕ) (pages : List Clauses) (id : ℕ) → stored_lines first pages ≡ lines →
    All (λ line. line.0 < id) lines → id < first → lines ≡ []
none_before lines first pages id view above before =
    let P : Lines → Type 0 = λ ls. All (λ line. line.0 < id) ls in
    sym view ∙ no_lines first (length pages * PAGE) (clause_among pages) id (subst P (sym view) above) before

-- what a test says
some_of : (o : Option (List Literal)) → is_some o ≡ true → IsSome o
some_of None h = cc
some_of (Some clause) h = refl

none_of : (o : Option (List Literal)) → is_some o ≡ false → o ≡ None
none_of None h = refl
none_of (Some clause) h = cc

pub has_some : (pages read : List Clauses) (place : ℕ) → read ≡ pages → is_some (clause_among read place) ≡ true →
    IsSome (clause_among pages place)
has_some pages read place same h = some_of (clause_among pages place)
    (ap (λ ps. is_some (clause_among ps place)) (sym same) ∙ h)

pub has_none : (pages read : List Clauses) (place : ℕ) → read ≡ pages → is_some (clause_among read place) ≡ false →
    clause_among pages place ≡ None
has_none pages read place same h = none_of (clause_among pages place)
    (ap (λ ps. is_some (clause_among ps place)) (sym same) ∙ h)
