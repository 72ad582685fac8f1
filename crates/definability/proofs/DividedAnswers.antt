-- What an answer of the copies rests on: the first copy on one side, the second copy and equations
-- on the other.
use Rattle.std.proofs.Common.{◌≡◌, ◌⊎◌, ℕ, zero, suc, ◌+◌, ◌<◌, true, false, true≢false, ◌&&◌, inl, inr, List, [], ◌∷◌, ◌++◌, map, length, Option, Some, None, IsSome, get_or, slice_get, refl, sym, ◌∙◌, ap, subst, arith}
use Rattle.std.specs.List.{All, Contains, list_any}
use Rattle.std.proofs.lemmas.Bool.{or_cases, or_left, or_right, and_parts, eqb-true, eq-eqb}
use Rattle.std.proofs.lemmas.List.Folds.{list_any-append}
use Rattle.std.proofs.lemmas.List.Elements.{All-contains, Contains-append_cases}
use Rattle.std.proofs.lemmas.Option.{slice_get-get_or}
use Rattle.dq_lits.specs.Literal.{Literal, positive, negative, variable_of, is_negative, opposite, same_literal}
use Rattle.dq_lits.specs.Derivation.{holds}
use Rattle.dq_lits.specs.Formula.{Dqbf, declared}
use Rattle.dq_lits.proofs.HeldLiterals.{any_gives, holds_cases}
use Rattle.dq_lits.proofs.SignedLiterals.{same_literal-refl, opposite-opposite, as_positive}
use Rattle.hint_log.specs.Conditions.{IsId, AreLogged}
use Rattle.hint_log.specs.Deciding.{ReachesGiven}
use Rattle.hint_log.specs.Entries.{Entry, Given, Answer, has_id, numbered, last_id, name_of}
use Rattle.hint_log.specs.Growth.{Each}
use Rattle.hint_log.specs.Naming.{AreNamedAs, is_selector, is_selector_name}
use Rattle.hint_log.specs.ProductiveLog.{MatchesOrigin}
use Rattle.hint_log.specs.Reached.{Reaches}
use Rattle.hint_log.specs.declared.names.Name.{Name}
use Rattle.hint_log.specs.declared.names.Name.TheVariants.{Selector, Copy as CopyOf}
use Rattle.hint_log.specs.declared.origins.Origin.{Origin}
use Rattle.hint_log.specs.declared.origins.Origin.TheVariants.{Copy, Link}
use Rattle.aig_graph.specs.declared.nodes.Node.{Node}
use Rattle.interpolants.specs.Interpolant.{Partition, partition, IsReachedGiven, IsOther}
use Rattle.log_laws.proofs.Found.{named_variable}
use Rattle.log_laws.proofs.Kept.{NamesStay, named_stay}
use Rattle.oracle.specs.Calls.{assumed, IsMade, IsPlain}
use Rattle.oracle.specs.Searched.{IsSearched}
use Rattle.oracle.specs.declared.groups.Group.{Group}
use Rattle.definability.specs.Copies.{is_copied_at, is_copy_of, is_link_of, group_variable, IsCopyGiven, IsGroupGiven, IsSideGiven, copy_names, IsLink, IsDefinability}
use Rattle.definability.specs.Dividing.{asked_of, IsRead, IsLinkGiven, IsSelectorLiteral, IsCopyLiteral, Divides, AreActive}
use Rattle.definability.specs.declared.definability.Definability.{Definability}
use Rattle.definability.proofs.Reached.{IsOfCopies, IsOfAnswer, of_answer, is_given_entry, reached_given, earlier_stay, group_named, own_at, side_at}

link_given : (es earlier : List Entry) (f : Dqbf) (places : List ℕ) (x : ℕ) (origin : Origin) (c : List Literal) →
    NamesStay earlier es → IsRead f places x → is_link_of x origin ≡ true →
    MatchesOrigin f earlier (Given origin c) → IsLinkGiven es f places c
link_given es earlier f places x (Link v i) c stay seen test right = search (arith, eqb-true, named_stay)
link_given es earlier f places x _ c stay seen test right = cc

pub of_copies : (side : ℕ) (origin : Origin) → is_copy_of side origin ≡ true → IsOfCopies origin
of_copies side (Copy s j) h = refl
of_copies side _ h = cc

of_links : (x : ℕ) (origin : Origin) → is_link_of x origin ≡ true → IsOfCopies origin
of_links x (Link v i) h = refl
of_links x _ h = cc

pub selector_not_copy : (o : Option Name) (g side v : ℕ) → o ≡ Some (Selector g) → o ≡ Some (CopyOf side v) → ⊥
selector_not_copy o g side v a b = let e : Some (Selector g) ≡ Some (CopyOf side v) = sym a ∙ b in cc

pub same_variable : (a b : ℕ) → positive a ≡ positive b → a ≡ b
same_variable a b e = ap variable_of e

-- what stands at a place
pub read_at : (f : Dqbf) (places : List ℕ) → All (λ k. k < length (declared f)) places → (k : ℕ) → Contains places k →
    (x : ℕ) × (slice_get (declared f) k ≡ Some x)
read_at f places within k (i, lt, at) = (
  get_or (declared f) k 0,
  slice_get-get_or (declared f) k 0 (subst (λ n. n < length (declared f)) at (within i k lt)),
)

-- an assumption: a selector of one of the groups, or a copy of what is asked
pub data IsAssumed (p : Definability) (places : List ℕ) (first second : List Literal) : Literal → Type 0 where
  by_first : (l : Literal) (g : Group) → Contains p.first.groups.items g → l ≡ g.selector →
      IsAssumed p places first second l
  by_second : (l : Literal) (g : Group) → Contains p.second.groups.items g → l ≡ g.selector →
      IsAssumed p places first second l
  by_link : (l : Literal) (k : ℕ) (g : Group) → Contains places k → slice_get p.links.items k ≡ Some g →
      l ≡ g.selector → IsAssumed p places first second l
  by_one : (l : Literal) → holds first l ≡ true → IsAssumed p places first second l
  by_other : (l : Literal) → holds second l ≡ true → IsAssumed p places first second l

pub element_of : (gs : List Group) (more : List Literal) (l : Literal) → holds (map (λ g. g.selector) gs ++ more) l ≡ true →
    ((g : Group) × Contains gs g × (l ≡ g.selector)) ⊎ (holds more l ≡ true)
element_of [] more l h = inr h
element_of (g ∷ gs) more l h = elim (holds_cases g.selector (map (λ x. x.selector) gs ++ more) l h) [
  | inl here ↦ inl (g, (0, omega arith, refl), here)
  | inr later ↦ elim (element_of gs more l later) [
    | inl found ↦ inl (found.0, (suc found.1.0, (let b = found.1.1 in omega (arith, b)), found.1.2), found.2)
    | inr rest ↦ inr rest
  ]
]

pub held_in_either : (xs ys : List Literal) (l : Literal) → holds (xs ++ ys) l ≡ true →
    (holds xs l ≡ true) ⊎ (holds ys l ≡ true)
held_in_either xs ys l h = or_cases (holds xs l) (holds ys l) (sym (list_any-append (same_literal l) xs ys) ∙ h)

-- the selector of an active group is assumed, and what is assumed beside
pub selector_held : (gs : List Group) (more : List Literal) (g : Group) → Contains gs g →
    holds (map (λ x. x.selector) gs ++ more) g.selector ≡ true
selector_held [] more g (k, lt, at) = absurd (omega (arith, lt))
selector_held (h ∷ gs) more g (zero, lt, at) = search (arith, or_left, same_literal-refl)
selector_held (h ∷ gs) more g (suc k, lt, at) = search (arith, or_right, (selector_held gs more g))

pub beside_held : (gs : List Group) (more : List Literal) (l : Literal) → holds more l ≡ true →
    holds (map (λ x. x.selector) gs ++ more) l ≡ true
beside_held [] more l h = h
beside_held (g ∷ gs) more l h = search (arith, or_right, (beside_held gs more l h))

pub which_assumed : (p : Definability) (places : List ℕ) (active : List Group) (first second : List Literal) (l : Literal) →
    AreActive p places active → holds (assumed active (first ++ second)) l ≡ true →
    IsAssumed p places first second l
which_assumed p places active first second l are h = elim (element_of active (first ++ second) l h) [
  | inl found ↦ (
      let g = found.0 in
      let behind = p.second.groups.items ++ are.links in
      elim (Contains-append_cases p.first.groups.items behind g
      (subst (λ gs. Contains gs g) are.active_is found.1)) [
        | inl one ↦ by_first l g one found.2
        | inr later ↦ elim (Contains-append_cases p.second.groups.items are.links g later) [
          | inl two ↦ by_second l g two found.2
          | inr link ↦ (let r = are.sound g link in by_link l r.0 g r.1 r.2 found.2)
        ]
      ])
  | inr last ↦ elim (held_in_either first second l last)
      [ inl in_first ↦ by_one l in_first | inr in_second ↦ by_other l in_second ]
]

-- a literal that is named as a copy is a copy of one of the literals that were copied
pub copy_among : (es : List Entry) (side : ℕ) (originals lits : List Literal) →
    AreNamedAs es lits (copy_names side originals) → (l : Literal) → holds lits l ≡ true →
    IsCopyLiteral es side originals l
copy_among es side originals [] are l h = cc
copy_among es side [] (k ∷ lits) are l h = cc
copy_among es side (o ∷ originals) (k ∷ lits) are l h =
    search (arith, holds_cases, or_left, same_literal-refl, (copy_among es side originals lits), or_right)

-- so it is no selector
pub copy_name : (es : List Entry) (side : ℕ) (originals : List Literal) (l : Literal)
    (c : IsCopyLiteral es side originals l) →
    (name_of es (variable_of l) ≡ Some (CopyOf side (variable_of c.original))) ×
    (is_negative l ≡ is_negative c.original)
copy_name es side originals l c = search (arith, named_variable)

module _ (f : Dqbf) (v : ℕ) (conditions : List Literal) (p : Definability) (places : List ℕ) (active : List Group)
    (ones others : List Literal) (es before : List Entry) (clause : List Literal) (hints : List ℕ)
    (stays : (e : Entry) (entries : List Entry) (id : ℕ) → IsId entries id →
    numbered has_id (e ∷ entries) id ≡ numbered has_id entries id)
    (are_ids : (entries : List Entry) (id i : ℕ) → AreLogged entries → IsId entries id → Reaches entries id i →
    IsId entries i)
    (es_is : es ≡ Answer clause hints ∷ before) (searched : IsSearched (Answer clause hints ∷ before))
    (definability : IsDefinability f p (Answer clause hints ∷ before))
    (within : All (λ k. k < length (declared f)) places)
    (flagged : All (λ k. is_copied_at p.copied.items k ≡ true) places) (are_active : AreActive p places active)
    (ones_are : AreNamedAs (Answer clause hints ∷ before) ones (copy_names 1 (asked_of conditions (positive v))))
    (others_are : AreNamedAs (Answer clause hints ∷ before) others (copy_names 2 (asked_of conditions (negative v))))
    (negated : (l : Literal) → holds clause l ≡ true → holds (assumed active (ones ++ others)) (opposite l)
    ≡ true) where
  abbrev all : List Entry
  all = Answer clause hints ∷ before

  abbrev a_side : List Literal
  a_side = assumed p.first.groups.items ones

  first_copy : (l : Literal) → holds ones l ≡ true → IsCopyLiteral all 1 (asked_of conditions (positive v)) l
  first_copy = copy_among all 1 (asked_of conditions (positive v)) ones ones_are

  second_copy : (l : Literal) → holds others l ≡ true → IsCopyLiteral all 2 (asked_of conditions (negative v)) l
  second_copy = copy_among all 2 (asked_of conditions (negative v)) others others_are

  first_made : (g : Group) → Contains p.first.groups.items g → IsMade all g
  first_made g among = All-contains (IsMade all) p.first.groups.items g definability.first.made among

  second_made : (g : Group) → Contains p.second.groups.items g → IsMade all g
  second_made g among = All-contains (IsMade all) p.second.groups.items g definability.second.made among

  flag_at : (k : ℕ) → Contains places k → is_copied_at p.copied.items k ≡ true
  flag_at k among = All-contains (λ i. is_copied_at p.copied.items i ≡ true) places k flagged among

  selector_is : (g : Group) → IsMade all g → g.selector ≡ positive (group_variable g)
  selector_is g made = as_positive g.selector made.positive

  not_copy : (side : ℕ) (originals : List Literal) (g : ℕ) (l : Literal) → l ≡ positive g →
      name_of all g ≡ Some (Selector g) → IsCopyLiteral all side originals l → ⊥
  not_copy side originals g l is named copy = search (arith, selector_not_copy, copy_name)

  -- the group of a given clause that is reached
  module _ (origin : Origin) (c : List Literal) (is : IsOfAnswer before clause origin c) where
    abbrev g : ℕ
    g = is.grouped.group

    stay : NamesStay is.earlier all
    stay = earlier_stay f before clause hints searched origin c is

    g_named : name_of all g ≡ Some (Selector g)
    g_named = group_named f before clause hints searched origin c is

    data IsInSome : Type 0 where
      in_first : (h : Group) → Contains p.first.groups.items h → g ≡ group_variable h → IsInSome
      in_second : (h : Group) → Contains p.second.groups.items h → g ≡ group_variable h → IsInSome
      in_link : (k x : ℕ) (link : Group) → IsRead f places x → IsLink f x link all → g ≡ group_variable link → IsInSome

    group_of : (h : Group) → IsMade all h → positive g ≡ h.selector → g ≡ group_variable h
    group_of h made same = same_variable g (group_variable h) (same ∙ selector_is h made)

    in_some : IsAssumed p places ones others (positive g) → IsInSome
    in_some (by_first l h among same) = in_first h among (group_of h (first_made h among) same)
    in_some (by_second l h among same) = in_second h among (group_of h (second_made h among) same)
    in_some (by_link l k h among at same) =
        let r = read_at f places within k among in
        let link = definability.links k r.0 h (flag_at k among) r.1 at in
        in_link k r.0 h (k, r.1, among) link (group_of h link.made same)
    in_some (by_one l held) = absurd (not_copy 1 (asked_of conditions (positive v)) g (positive g) refl g_named
        (first_copy (positive g) held))
    in_some (by_other l held) = search (arith, not_copy, g_named, second_copy)

    classified : IsInSome
    classified = in_some (which_assumed p places active ones others (positive g) are_active
        (negated (negative g) is.kept))

    own_side : (side h : ℕ) → g ≡ h → Each (IsSideGiven f side h) all →
        (is_copy_of side origin ≡ true) × IsCopyGiven all f side c
    own_side = side_at f before clause hints searched origin c is

    own_link : (x h : ℕ) → g ≡ h → Each (IsGroupGiven f (is_link_of x) h) all →
        (is_link_of x origin ≡ true) × MatchesOrigin f is.earlier (Given origin c)
    own_link x = own_at f before clause hints searched origin c is (is_link_of x)

    is_of_copies : IsOfCopies origin
    is_of_copies = by classified
      where
        by : IsInSome → IsOfCopies origin
        by (in_first h among same) = of_copies 1 origin
            (own_side 1 (group_variable h) same (definability.first.own h among)).0
        by (in_second h among same) = of_copies 2 origin
            (own_side 2 (group_variable h) same (definability.second.own h among)).0
        by (in_link k x link seen is_link same) = of_links x origin
            (own_link x (group_variable link) same is_link.own).0

    -- the side of the clause is its group's
    on_a_group : list_any (λ l. holds a_side (opposite l) && is_selector all (variable_of l)) c ≡ true →
        (h : Group) × Contains p.first.groups.items h × (g ≡ group_variable h)
    on_a_group h =
        let w = any_gives (λ l. holds a_side (opposite l) && is_selector all (variable_of l))
        (negative g ∷ is.grouped.rest) (sym (ap (list_any
        (λ l. holds a_side (opposite l) && is_selector all (variable_of l))) is.grouped.clause_is) ∙ h) in
        let l = w.0 in
        let both = and_parts (holds a_side (opposite l)) (is_selector all (variable_of l)) w.2 in
        elim (holds_cases (negative g) is.grouped.rest l w.1) [
          | inl here ↦ elim (element_of p.first.groups.items ones (opposite l) both.0) [
            | inl switch ↦ search (arith, first_made)
            | inr last ↦ absurd (not_copy 1 (asked_of conditions (positive v)) g (opposite l) (ap opposite here) g_named
                (first_copy (opposite l) last))
          ]
          | inr later ↦ absurd (not_plain l (is.grouped.plain l later) both.1)
        ]
      where
        not_plain : (l : Literal) → IsPlain is.earlier l → is_selector all (variable_of l) ≡ true → ⊥
        not_plain l plain h = by (name_of is.earlier (variable_of l)) refl plain.named
          where
            by : (o : Option Name) → name_of is.earlier (variable_of l) ≡ o → IsSome o → ⊥
            by None e some = cc
            by (Some n) e some =
                let there = stay (variable_of l) n e in
                true≢false (sym h ∙ ap is_selector_name there ∙ sym (ap is_selector_name e) ∙ plain.no_selector)

    on_a_first : (h : Group) → Contains p.first.groups.items h → g ≡ group_variable h →
        list_any (λ l. holds a_side (opposite l) && is_selector all (variable_of l)) c ≡ true
    on_a_first h among same = search (arith, selector_is, first_made, selector_held, g_named, or_left)

    pub a_clause : list_any (λ l. holds a_side (opposite l) && is_selector all (variable_of l)) c ≡ true →
        IsCopyGiven all f 1 c
    a_clause h = let r = on_a_group h in (own_side 1 (group_variable r.0) r.2 (definability.first.own r.0 r.1)).1

    pub b_clause : list_any (λ l. holds a_side (opposite l) && is_selector all (variable_of l)) c ≡ false →
        IsCopyGiven all f 2 c ⊎ IsLinkGiven all f places c
    b_clause h = by classified
      where
        by : IsInSome → IsCopyGiven all f 2 c ⊎ IsLinkGiven all f places c
        by (in_first group among same) = absurd (true≢false (sym (on_a_first group among same) ∙ h))
        by (in_second group among same) =
            inl (own_side 2 (group_variable group) same (definability.second.own group among)).1
        by (in_link k x link seen is_link same) =
            let r = own_link x (group_variable link) same is_link.own in
            inr (link_given all is.earlier f places x origin c stay seen r.0 r.1)

  selector_literal : (h : Group) → IsMade all h → (l : Literal) → l ≡ h.selector → IsSelectorLiteral all l
  selector_literal h made l same = (group_variable h, same ∙ selector_is h made, made.named)

  module _ (shared : List (ℕ × Node)) where
    abbrev q : Partition
    q = partition all (last_id before + 1) a_side shared

    given_entry : (at : ℕ) (c : List Literal) → IsReachedGiven q at c →
        (origin : Origin) × (numbered has_id all at ≡ Some (Given origin c))
    given_entry at c given = is_given_entry all at c given.given given.clause_is

    from_given : (at : ℕ) (c : List Literal) → IsReachedGiven q at c →
        (e : (origin : Origin) × (numbered has_id all at ≡ Some (Given origin c))) → IsOfAnswer before clause e.0 c
    from_given at c given e = search (arith, of_answer, reached_given)

    answer_holds : (l : Literal) → IsOther q l → holds clause (opposite l) ≡ true
    answer_holds l o = search (arith, eq-eqb)

    other_kind : (l : Literal) → holds a_side l ≡ false → IsAssumed p places ones others l →
        IsSelectorLiteral all l ⊎ IsCopyLiteral all 2 (asked_of conditions (negative v)) l
    other_kind l none (by_first k h among same) = search (arith, true≢false, selector_held)
    other_kind l none (by_second k h among same) = inl (selector_literal h (second_made h among) l same)
    other_kind l none (by_link k place h among at same) =
        let r = read_at f places within place among in inl (selector_literal h
        (definability.links place r.0 h (flag_at place among) r.1 at).made l same)
    other_kind l none (by_one k held) = absurd (true≢false (sym (beside_held p.first.groups.items ones l held) ∙ none))
    other_kind l none (by_other k held) = inr (second_copy l held)

    pub divides : Divides f places v conditions q
    divides = record {
      a_given = λ at c given on_a. let e = given_entry at c given in a_clause e.0 c (from_given at c given e) on_a;
      b_given = λ at c given on_b. let e = given_entry at c given in b_clause e.0 c (from_given at c given e) on_b;
      assumed = λ l h. elim (element_of p.first.groups.items ones l h) [
        | inl switch ↦ inl (selector_literal switch.0 (first_made switch.0 switch.1) l switch.2)
        | inr held ↦ inr (first_copy l held)
      ];
      others = λ l other_l. other_kind l other_l.not_a
          (which_assumed p places active ones others l are_active
          (ap (holds (assumed active (ones ++ others))) (sym (opposite-opposite l)) ∙ negated (opposite l)
          (answer_holds l other_l)));
    }

  pub only_copies : (origin : Origin) (c : List Literal) → ReachesGiven before hints origin c → IsOfCopies origin
  only_copies origin c reached = is_of_copies origin c (of_answer before clause hints searched origin c reached)
