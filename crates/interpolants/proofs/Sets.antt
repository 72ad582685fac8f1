-- Sets of literals, as they are kept: the variables of the positive ones and those of the negative ones.
use Rattle.std.proofs.Common.{◌≡◌, ℕ, ◌+◌, ◌<◌, nat_eq, Bool, true, false, cond, ◌||◌, ◌&&◌, inl, inr, List, [], ◌∷◌, ◌++◌, map, take, length, get_or, refl, sym, ◌∙◌, ap, arith}
use Rattle.std.specs.List.{list_any}
use Rattle.std.proofs.lemmas.Bool.{cases_Bool, eqb-true}
use Rattle.std.proofs.lemmas.List.{take_more}
use Rattle.std.proofs.lemmas.List.Folds.{list_any-append}
use Rattle.dq_lits.specs.Literal.{Literal, positive, negative, variable_of, is_negative, same_literal}
use Rattle.dq_lits.specs.Derivation.{holds, AreSame}
use Rattle.dq_lits.proofs.Truth.{same_literal-sound}
use Rattle.hint_log.specs.Entries.{Entry}
use Rattle.hint_log.specs.Naming.{is_selector}
use Rattle.interpolants.specs.Interpolant.{stands_on}
use Rattle.interpolants.specs.Sides.{AreSelectors}
use Rattle.interpolants.proofs.Truth.{stands_same}

abbrev pub members : List ℕ → List ℕ → List Literal
members ps ns = map positive ps ++ map negative ns

pub as_positive : (l : Literal) → is_negative l ≡ false → positive (variable_of l) ≡ l
as_positive (positive v) h = refl
as_positive (negative v) h = cc

pub as_negative : (l : Literal) → is_negative l ≡ true → negative (variable_of l) ≡ l
as_negative (positive v) h = cc
as_negative (negative v) h = refl

negatives_only : (ns : List ℕ) (v : ℕ) → holds (map negative ns) (positive v) ≡ false
negatives_only [] v = refl
negatives_only (n ∷ ns) v = negatives_only ns v

pub has_positive : (ps ns : List ℕ) (v : ℕ) → holds (members ps ns) (positive v) ≡ list_any (nat_eq v) ps
has_positive [] ns v = negatives_only ns v
has_positive (p ∷ ps) ns v = ap (λ b. nat_eq v p || b) (has_positive ps ns v)

has_among : (ns : List ℕ) (v : ℕ) → holds (map negative ns) (negative v) ≡ list_any (nat_eq v) ns
has_among [] v = refl
has_among (n ∷ ns) v = ap (λ b. nat_eq v n || b) (has_among ns v)

pub has_negative : (ps ns : List ℕ) (v : ℕ) → holds (members ps ns) (negative v) ≡ list_any (nat_eq v) ns
has_negative [] ns v = has_among ns v
has_negative (p ∷ ps) ns v = has_negative ps ns v

either_way : (a b : Bool) → (b || (a || false)) ≡ (a || b)
either_way true true = refl
either_way true false = refl
either_way false true = refl
either_way false false = refl

absorbed : (a b : Bool) → (a ≡ true → b ≡ true) → b ≡ (a || b)
absorbed true b h = h refl
absorbed false b h = refl

inserted : (ks more : List ℕ) (v w : ℕ) → more ≡ cond (list_any (nat_eq v) ks) ks (ks ++ v ∷ []) →
    list_any (nat_eq w) more ≡ (nat_eq w v || list_any (nat_eq w) ks)
inserted ks more v w is =
    elim (cases_Bool (list_any (nat_eq v) ks)) [
      | inl had ↦
          ap (list_any (nat_eq w)) (is ∙ ap (λ b. cond b ks (ks ++ v ∷ [])) had)
          ∙ absorbed (nat_eq w v) (list_any (nat_eq w) ks) (λ same. ap (λ n. list_any (nat_eq n) ks)
          (eqb-true w v same) ∙ had)
      | inr none ↦
          ap (list_any (nat_eq w)) (is ∙ ap (λ b. cond b ks (ks ++ v ∷ [])) none) ∙ list_any-append (nat_eq w) ks
          (v ∷ [])
          ∙ either_way (nat_eq w v) (list_any (nat_eq w) ks)
    ]

positive_added : (ps more ns : List ℕ) (v : ℕ) (k : Literal) → more ≡ cond (list_any (nat_eq v) ps) ps (ps ++ v ∷ []) →
    holds (members more ns) k ≡ (same_literal k (positive v) || holds (members ps ns) k)
positive_added ps more ns v (positive w) is =
    has_positive more ns w ∙ inserted ps more v w is ∙ ap (λ b. nat_eq w v || b) (sym (has_positive ps ns w))
positive_added ps more ns v (negative w) is = has_negative more ns w ∙ sym (has_negative ps ns w)

negative_added : (ps ns more : List ℕ) (v : ℕ) (k : Literal) → more ≡ cond (list_any (nat_eq v) ns) ns (ns ++ v ∷ []) →
    holds (members ps more) k ≡ (same_literal k (negative v) || holds (members ps ns) k)
negative_added ps ns more v (positive w) is = has_positive ps more w ∙ sym (has_positive ps ns w)
negative_added ps ns more v (negative w) is =
    has_negative ps more w ∙ inserted ns more v w is ∙ ap (λ b. nat_eq w v || b) (sym (has_negative ps ns w))

pub add_positive : (ps more ns : List ℕ) (old : List Literal) (v : ℕ) (l : Literal) → members ps ns ≡ old →
    v ≡ variable_of l → is_negative l ≡ false →
    more ≡ cond (list_any (nat_eq v) ps) ps (ps ++ v ∷ []) → (k : Literal) →
    holds (members more ns) k ≡ (same_literal k l || holds old k)
add_positive ps more ns old v l is at sign more_is k = search (arith, positive_added, as_positive)

pub add_negative : (ps ns more : List ℕ) (old : List Literal) (v : ℕ) (l : Literal) → members ps ns ≡ old →
    v ≡ variable_of l → is_negative l ≡ true →
    more ≡ cond (list_any (nat_eq v) ns) ns (ns ++ v ∷ []) → (k : Literal) →
    holds (members ps more) k ≡ (same_literal k l || holds old k)
add_negative ps ns more old v l is at sign more_is k = search (arith, negative_added, as_negative)

pub find_positive : (ps ns : List ℕ) (now : List Literal) (v : ℕ) (l : Literal) → members ps ns ≡ now →
    v ≡ variable_of l → is_negative l ≡ false →
    list_any (nat_eq v) ps ≡ holds now l
find_positive ps ns now v l is at sign = search (arith, has_positive, as_positive)

pub find_negative : (ps ns : List ℕ) (now : List Literal) (v : ℕ) (l : Literal) → members ps ns ≡ now →
    v ≡ variable_of l → is_negative l ≡ true →
    list_any (nat_eq v) ns ≡ holds now l
find_negative ps ns now v l is at sign = search (arith, has_negative, as_negative)

-- a list as a set, literal by literal
pub holds-more : (xs : List Literal) (x l : Literal) → holds (xs ++ x ∷ []) l ≡ (same_literal l x || holds xs l)
holds-more xs x l = list_any-append (same_literal l) xs (x ∷ []) ∙ either_way (same_literal l x) (holds xs l)

module _ (xs : List Literal) (i : ℕ) (x : Literal) (lt : i < length xs) (at : get_or xs i x ≡ x) where
  taken : take (i + 1) xs ≡ take i xs ++ x ∷ []
  taken = take_more xs i x lt ∙ ap (λ y. take i xs ++ y ∷ []) at

  pub set_more : (old new : List Literal) → AreSame old (take i xs) →
      ((k : Literal) → holds new k ≡ (same_literal k x || holds old k)) → AreSame new (take (i + 1) xs)
  set_more old new same added l =
      added l ∙ ap (λ b. same_literal l x || b) (same l) ∙ sym
      (ap (λ ys. holds ys l) taken ∙ holds-more (take i xs) x l)

  module _ (es : List Entry) (old : List Literal) (before : AreSelectors es (take i xs) old) where
    more_of : (l : Literal) → (holds (take (i + 1) xs) l && is_selector es (variable_of l)) ≡
        ((same_literal l x || holds (take i xs) l) && is_selector es (variable_of l))
    more_of l = ap (λ b. b && is_selector es (variable_of l)) (ap (λ ys. holds ys l) taken ∙ holds-more (take i xs) x l)

    pub selector_more : (new : List Literal) → is_selector es (variable_of x) ≡ true →
        ((k : Literal) → holds new k ≡ (same_literal k x || holds old k)) →
        AreSelectors es (take (i + 1) xs) new
    selector_more new is added l =
        added l ∙ ap (λ b. same_literal l x || b) (before l)
        ∙ by (same_literal l x) (holds (take i xs) l) (is_selector es (variable_of l))
        (λ h. ap (λ k. is_selector es (variable_of k)) (same_literal-sound l x h) ∙ is)
        ∙ sym (more_of l)
      where
        by : (a b s : Bool) → (a ≡ true → s ≡ true) → (a || (b && s)) ≡ ((a || b) && s)
        by true b s h = sym (h refl)
        by false b s h = refl

    pub selector_past : is_selector es (variable_of x) ≡ false → AreSelectors es (take (i + 1) xs) old
    selector_past is l =
        before l
        ∙ by (same_literal l x) (holds (take i xs) l) (is_selector es (variable_of l))
        (λ h. ap (λ k. is_selector es (variable_of k)) (same_literal-sound l x h) ∙ is)
        ∙ sym (more_of l)
      where
        by : (a b s : Bool) → (a ≡ true → s ≡ false) → (b && s) ≡ ((a || b) && s)
        by true true s h = refl
        by true false s h = sym (h refl)
        by false b s h = refl

-- equal sets stand on the same variables, and have the same selectors
pub stands_alike : (xs ys : List Literal) → AreSame xs ys → (v : ℕ) → stands_on xs v ≡ stands_on ys v
stands_alike xs ys same v =
    both (stands_on xs v) (stands_on ys v) (stands_same xs ys same v) (stands_same ys xs (λ l. sym (same l)) v)
  where
    both : (a b : Bool) → (a ≡ true → b ≡ true) → (b ≡ true → a ≡ true) → a ≡ b
    both true b there back = sym (there refl)
    both false true there back = back refl
    both false false there back = refl

pub selectors_alike : (es : List Entry) (xs ys selectors : List Literal) → AreSame xs ys →
    AreSelectors es ys selectors → AreSelectors es xs selectors
selectors_alike es xs ys selectors same are l = are l ∙ ap (λ b. b && is_selector es (variable_of l)) (sym (same l))
