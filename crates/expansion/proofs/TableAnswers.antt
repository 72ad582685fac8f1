-- The table's search, by what the solver's ensures.
use Rattle.std.proofs.Common.{◌≡◌, ℕ, zero, suc, Bool, true, false, true≢false, inl, inr, List, [], ◌∷◌, ◌++◌, map, Some, refl, sym, ◌∙◌, ap, subst, arith}
use Rattle.std.specs.List.{All, Contains}
use Rattle.std.proofs.lemmas.Bool.{or_cases}
use Rattle.std.proofs.lemmas.List.{append-nil}
use Rattle.std.proofs.lemmas.List.Elements.{All-nil, All-tail, All-contains, Contains-append_right}
use Rattle.list_laws.proofs.Members.{mapped_from, contains_cases, contains_later}
use Rattle.dq_lits.specs.Literal.{Literal, positive, negative, variable_of, opposite, same_literal}
use Rattle.dq_lits.specs.Formula.{Dqbf}
use Rattle.dq_lits.specs.Derivation.{holds}
use Rattle.dq_lits.specs.Expansion.{IsExpansionUnsatisfiable}
use Rattle.dq_lits.proofs.Truth.{same_literal-sound}
use Rattle.dq_lits.proofs.HeldLiterals.{all_held}
use Rattle.hint_log.specs.Entries.{Entry, Given, Learned, Answer, ProofLog, name_of}
use Rattle.hint_log.specs.declared.names.Name.TheVariants.{Selector}
use Rattle.hint_log.specs.declared.origins.Origin.{Origin}
use Rattle.hint_log.specs.declared.origins.Origin.TheVariants.{Instance}
use Rattle.hint_log.specs.Deciding.{ReachesGiven, IsInstance, AreNegatedSelectors, DecidesFalse}
use Rattle.hint_log.specs.Growth.{Each, EachOf, Grew}
use Rattle.hint_log.specs.Naming.{rows_of}
use Rattle.hint_log.specs.Origins.{IsOriginsClause}
use Rattle.hint_log.proofs.NamedEntries.{is_selector_here}
use Rattle.log_laws.specs.Engines.{Engine, instances, origin_engine, is_own, IsInGroup, IsOwnGiven, IsAddedBy}
use Rattle.log_laws.specs.Meaning.{InstancesHaveNoModel}
use Rattle.log_laws.proofs.Found.{split_at, each_at}
use Rattle.oracle.specs.Calls.{IsMade, assumed, IsLearnedEntry, IsRefutedUnder}
use Rattle.oracle.specs.declared.groups.Group.{Group}
use Rattle.oracle.specs.Searched.{IsSearched, IsGivenToGroup, IsOfGroup}
use Rattle.expansion.specs.Searches.{switches, HoldInstances, IsSearchEntry}
use Rattle.expansion.specs.Table.{TableState, IsTable, IsFullTable, IsRefutedBy}
use Rattle.expansion.proofs.Told.{switch_is}
use Rattle.log_laws.proofs.LargerLogs.{each_grown, filter_grown}
use Rattle.log_laws.proofs.Kept.{each_of_weaker}

-- what was learned is what a search adds
learned_is_found : (silent : Bool) (earlier : List Entry) (e : Entry) → IsLearnedEntry earlier e →
    IsSearchEntry silent earlier e
learned_is_found silent earlier (Learned c hints) h = tt
learned_is_found silent earlier _ h = absurd h

pub learned_grew : (silent : Bool) (old new : ProofLog) → Grew IsLearnedEntry old new →
    Grew (IsSearchEntry silent) old new
learned_grew silent old new g = search (arith, each_of_weaker, learned_is_found)

-- a search that ends with an answer
pub refuted_grew : (silent : Bool) → silent ≡ false → (assumptions : List Literal) (old new : ProofLog) (id : ℕ) →
    IsRefutedUnder old new assumptions id → Grew (IsSearchEntry silent) old new
refuted_grew silent loud assumptions old new id r =
    let g = learned_grew silent old r.before r.learned in
    record {
      more = Answer r.clause r.hints ∷ g.more;
      grown = ap (λ (l : ProofLog). l.entries) r.answered ∙ ap (λ es. Answer r.clause r.hints ∷ es) g.grown;
      each = (loud, g.each);
      limit = ap (λ (l : ProofLog). l.limit) r.answered ∙ g.limit;
    }

module _ (f : Dqbf) (engine : Engine) (group : ℕ) (silent : Bool) (old : List Entry) where
  found_is_added : (earlier : List Entry) (e : Entry) → IsSearchEntry silent earlier e →
      IsAddedBy f engine group silent old earlier e
  found_is_added earlier (Learned c hints) h = tt
  found_is_added earlier (Answer c hints) h = λ quiet. absurd (true≢false (sym quiet ∙ h))
  found_is_added earlier _ h = absurd h

pub searched_grew : (f : Dqbf) (engine : Engine) (group : ℕ) (silent : Bool) (old new : ProofLog) →
    Grew (IsSearchEntry silent) old new → Grew (IsAddedBy f engine group silent old.entries) old new
searched_grew f engine group silent old new g = search (arith, each_of_weaker, found_is_added)

found_not_own : (silent : Bool) (engine : Engine) (earlier : List Entry) (e : Entry) → IsSearchEntry silent earlier e →
    is_own engine e ≡ false
found_not_own silent engine earlier (Learned c hints) h = refl
found_not_own silent engine earlier (Answer c hints) h = refl
found_not_own silent engine earlier _ h = absurd h

found_own_given : (silent : Bool) (f : Dqbf) (engine : Engine) (group : ℕ) (earlier : List Entry) (e : Entry) →
    IsSearchEntry silent earlier e → IsOwnGiven f engine group earlier e
found_own_given silent f engine group earlier (Learned c hints) h = tt
found_own_given silent f engine group earlier (Answer c hints) h = tt
found_own_given silent f engine group earlier _ h = absurd h

-- a search names nothing, gives nothing, and adds no round
pub found_names : (silent : Bool) (more old : List Entry) (v : ℕ) → EachOf (IsSearchEntry silent) more old →
    name_of (more ++ old) v ≡ name_of old v
found_names silent [] old v h = refl
found_names silent (Learned c hints ∷ more) old v h = found_names silent more old v h.1
found_names silent (Answer c hints ∷ more) old v h = found_names silent more old v h.1
found_names silent (_ ∷ more) old v h = absurd h.0

pub found_rows : (silent : Bool) (more old : List Entry) → EachOf (IsSearchEntry silent) more old →
    rows_of (more ++ old) ≡ rows_of old
found_rows silent [] old h = refl
found_rows silent (Learned c hints ∷ more) old h = found_rows silent more old h.1
found_rows silent (Answer c hints ∷ more) old h = found_rows silent more old h.1
found_rows silent (_ ∷ more) old h = absurd h.0

pub found_givens : (silent : Bool) (more old : List Entry) (origin : Origin) (c : List Literal) →
    EachOf (IsSearchEntry silent) more old → Contains (more ++ old) (Given origin c) → Contains old (Given origin c)
found_givens silent [] old origin c h has = has
found_givens silent (e ∷ more) old origin c h has =
    search (arith, contains_cases, (found_givens silent more old origin c h.1))

pub table_searched : (silent : Bool) (f : Dqbf) (t : TableState) (old new : ProofLog) →
    Grew (IsSearchEntry silent) old new → IsTable f t old.entries → IsTable f t new.entries
table_searched silent f t old new g table =
    search (arith, found_names, each_grown, found_own_given, filter_grown, found_not_own)

-- the rounds stay
pub full_searched : (silent : Bool) (f : Dqbf) (t : TableState) (old new : ProofLog) →
    Grew (IsSearchEntry silent) old new → IsFullTable f t old.entries → IsFullTable f t new.entries
full_searched silent f t old new g full =
    search (arith, (table_searched silent f t old new g full.table), (found_rows silent g.more old.entries g.each))

-- a literal among the negated selectors of some groups
only_selector : (g : ℕ) (l : Literal) → same_literal (opposite l) (positive g) ≡ true → l ≡ negative g
only_selector g (positive v) h = cc
only_selector g (negative v) h = search (arith, same_literal-sound)

one_of_groups : (gs : List ℕ) (l : Literal) → holds (map positive gs) (opposite l) ≡ true →
    (g : ℕ) × Contains gs g × (l ≡ negative g)
one_of_groups [] l h = cc
one_of_groups (g ∷ gs) l h = search (arith, or_cases, only_selector, (one_of_groups gs l), contains_later)

instance_of : (origin : Origin) → origin_engine origin ≡ instances → IsInstance origin
instance_of (Instance k j) h = tt
instance_of _ h = cc

-- the literals that switch groups on, by the groups' numbers
pub switches_are : (t : TableState) (more : List Group) (entries : List Entry) → All (IsMade entries) more →
    switches t more ≡ map positive (t.group ∷ map (λ g. variable_of g.selector) more)
switches_are t more entries made = ap (λ ls. positive t.group ∷ ls) (by more made)
  where
    by : (gs : List Group) → All (IsMade entries) gs →
        map (λ g. g.selector) gs ≡ map positive (map (λ g. variable_of g.selector) gs)
    by [] all = refl
    by (g ∷ gs) all =
        let here = (all 0 g (omega arith)).positive in
        let first = switch_is g.selector (variable_of g.selector) here refl in
        let rest = by gs (All-tail (IsMade entries) g gs all) in
        ap (λ l. l ∷ map (λ h. h.selector) gs) first ∙ ap (λ ls. positive (variable_of g.selector) ∷ ls) rest

-- an answer to groups rests on what was given to them
module _ (gs : List ℕ) (old new : ProofLog) (id : ℕ) (searched_new : IsSearched new.entries)
    (named : (g : ℕ) → Contains gs g → name_of old.entries g ≡ Some (Selector g))
    (r : IsRefutedUnder old new (map positive gs) id) where
  abbrev es : List Entry
  es = r.before.entries

  answered : new.entries ≡ Answer r.clause r.hints ∷ es
  answered = ap (λ (l : ProofLog). l.entries) r.answered

  pub searched : IsSearched (Answer r.clause r.hints ∷ es)
  searched = subst IsSearched answered searched_new

  abbrev learned : Grew (IsSearchEntry false) old r.before
  learned = learned_grew false old r.before r.learned

  pub named_there : (g : ℕ) → Contains gs g → name_of es g ≡ Some (Selector g)
  named_there g has = ap (λ xs. name_of xs g) learned.grown
      ∙ found_names false learned.more old.entries g learned.each ∙ named g has

  pub negated_selectors : AreNegatedSelectors es r.clause
  negated_selectors = all_held
      (λ l. (l ≡ negative (variable_of l)) × (name_of es (variable_of l) ≡ Some (Selector (variable_of l))))
      r.clause (λ l h. let one = one_of_groups gs l (r.negated l h) in
      is_selector_here es one.0 l (named_there one.0 one.1) one.2)

  pub in_active : (origin : Origin) (c : List Literal) → ReachesGiven es r.hints origin c →
      (g : ℕ) × Contains gs g × IsInGroup g c
  in_active origin c reached =
      let place = split_at es reached.id (Given origin c) reached.is_given in
      let grouped : IsOfGroup place.1 c = each_at IsGivenToGroup place.0 place.1 (Given origin c)
      (subst (Each IsGivenToGroup) place.2 searched.grouped.1) in
      let there = subst (ReachesGiven es r.hints origin) grouped.clause_is reached in
      let kept = searched.kept.0 origin grouped.group grouped.rest there in
      let one = one_of_groups gs (negative grouped.group) (r.negated (negative grouped.group) kept) in
      (one.0, one.1, (grouped.rest, grouped.clause_is ∙ ap (λ l. l ∷ grouped.rest) one.2))

  pub given_before : (origin : Origin) (c : List Literal) → ReachesGiven es r.hints origin c →
      Contains old.entries (Given origin c)
  given_before origin c reached =
      let place = split_at es reached.id (Given origin c) reached.is_given in
      found_givens false learned.more old.entries origin c learned.each
      (subst (λ xs. Contains xs (Given origin c)) learned.grown
      (subst (λ xs. Contains xs (Given origin c)) (sym place.2) (Contains-append_right place.0
      (Given origin c ∷ place.1) (Given origin c) (0, omega arith, refl))))

  pub shown_by : ((origin : Origin) (c : List Literal) → ReachesGiven es r.hints origin c → IsInstance origin) →
      IsRefutedBy new.entries id
  shown_by right = record {
    clause = r.clause;
    hints = r.hints;
    earlier = es;
    answered = answered;
    last = r.last;
    decides = record { selectors = negated_selectors; instances = right };
  }

-- a table's answer
module _ (f : Dqbf) (t : TableState) (more : List Group) (old new : ProofLog) (id : ℕ) (full : IsFullTable f t old.entries)
    (made : All (IsMade old.entries) more) (searched_new : IsSearched new.entries)
    (r : IsRefutedUnder old new (switches t more) id) where
  abbrev pub active : List ℕ
  active = t.group ∷ map (λ g. variable_of g.selector) more

  abbrev pub by_numbers : IsRefutedUnder old new (map positive active) id
  by_numbers = subst (λ ls. IsRefutedUnder old new ls id) (switches_are t more old.entries made) r

  pub active_named : (g : ℕ) → Contains active g → name_of old.entries g ≡ Some (Selector g)
  active_named g has =
      elim (contains_cases t.group g (map (λ h. variable_of h.selector) more) has) [
        | inl here ↦ subst (λ v. name_of old.entries v ≡ Some (Selector v)) here full.table.group
        | inr behind ↦ among behind
      ]
    where
      among : Contains (map (λ h. variable_of h.selector) more) g → name_of old.entries g ≡ Some (Selector g)
      among has' = let m = mapped_from (λ h. variable_of h.selector) more g has' in
          subst (λ v. name_of old.entries v ≡ Some (Selector v)) m.2 (All-contains (IsMade old.entries) more m.0 made m.1).named

  pub own_instance : (origin : Origin) (c : List Literal) →
      ReachesGiven by_numbers.before.entries by_numbers.hints origin c → IsInGroup t.group c →
      (more' earlier : List Entry) → by_numbers.before.entries ≡ more' ++ Given origin c ∷ earlier →
      IsInstance origin × IsOriginsClause f earlier origin c
  own_instance origin c reached inside more' earlier is =
      let before = table_searched false f t old by_numbers.before (learned_grew false old by_numbers.before
      by_numbers.learned) full.table in
      let own = each_at (IsOwnGiven f instances t.group) more' earlier (Given origin c)
      (subst (Each (IsOwnGiven f instances t.group)) is before.own_group) inside in
      (instance_of origin own.0, own.1)

  pub table_shown : HoldInstances more old.entries → IsRefutedBy new.entries id
  table_shown hold = shown_by active old new id searched_new active_named by_numbers right
    where
      right : (origin : Origin) (c : List Literal) →
          ReachesGiven by_numbers.before.entries by_numbers.hints origin c → IsInstance origin
      right origin c reached =
          let place = split_at by_numbers.before.entries reached.id (Given origin c) reached.is_given in
          let one = in_active active old new id searched_new active_named by_numbers origin c reached in
          elim (contains_cases t.group one.0 (map (λ h. variable_of h.selector) more) one.1) [
            | inl here ↦ (own_instance origin c reached
                (subst (λ g. IsInGroup g c) (sym here) one.2) place.0 place.1 place.2).0
            | inr behind ↦
                (let m = mapped_from (λ h. variable_of h.selector) more one.0 behind in
                hold m.0 origin c m.1 (given_before active old new id searched_new active_named by_numbers origin c
                reached) (subst (λ g. IsInGroup g c) (sym m.2) one.2))
          ]

-- the table alone
pub table_refuted : InstancesHaveNoModel → (f : Dqbf) (t : TableState) (old new : ProofLog) (id : ℕ) →
    IsFullTable f t old.entries → IsSearched new.entries
    → IsRefutedUnder old new (positive t.group ∷ []) id → IsExpansionUnsatisfiable f t.rows
table_refuted law f t old new id full searched_new r =
    let none : All (IsMade old.entries) [] = All-nil (IsMade old.entries) in
    let q = by_numbers f t [] old new id full none searched_new r in
    let named = active_named f t [] old new id full none searched_new r in
    let s = searched (t.group ∷ []) old new id searched_new named q in
    let es = q.before.entries in
    let learned = learned_grew false old q.before q.learned in
    let right : (more earlier : List Entry) (origin : Origin) (c : List Literal) →
    es ≡ more ++ Given origin c ∷ earlier → ReachesGiven es q.hints origin c →
    IsInstance origin × IsOriginsClause f earlier origin c =
    λ more earlier origin c is reached.
    let one = in_active (t.group ∷ []) old new id searched_new named
    q origin c reached in
    let mine : t.group ≡ one.0 = only_one t.group one.0 one.1 in
    own_instance f t [] old new id full none searched_new r origin c reached
    (subst (λ g. IsInGroup g c) (sym mine) one.2) more earlier is in
    let rows : rows_of es ≡ t.rows = ap rows_of learned.grown ∙ found_rows false learned.more old.entries learned.each
    ∙ full.rows in
    let decides : DecidesFalse es q.clause q.hints = record {
      selectors = negated_selectors (t.group ∷ []) old new id searched_new
          named q;
      instances = λ origin c reached. let place = split_at es reached.id (Given origin c) reached.is_given in
          (right place.0 place.1 origin c place.2 reached).0;
    } in
    subst (IsExpansionUnsatisfiable f) rows
    (law f es q.clause q.hints (record {
      logged = s.logged.1;
      lemmas_are_derived = s.derived.1;
      derived = s.derived.0;
      givens_match_origins = λ more earlier origin c is reached. (right more earlier origin c is reached).1;
    }) decides)
  where
    only_one : (g h : ℕ) → Contains (g ∷ []) h → g ≡ h
    only_one g h (zero, below, is) = is
    only_one g h (suc k, below, is) = absurd (omega (arith, below))

-- what is assumed where the table's group and further ones are active
pub assumed_are : (t : TableState) (active groups more : List Group) → active ≡ groups →
    map (λ g. g.selector) groups ≡ switches t more → assumed active [] ≡ switches t more
assumed_are t active groups more same are = search (arith, append-nil)
