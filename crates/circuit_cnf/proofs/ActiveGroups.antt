-- The groups that a search has.
use Rattle.std.proofs.Common.{◌≡◌, ℕ, ◌+◌, ◌<◌, Bool, true, ◌⊎◌, inl, inr, List, [], ◌∷◌, ◌++◌, map, length, get_or, None, sym, ◌∙◌, ap, subst, arith}
use Rattle.std.specs.List.{All, Contains}
use Rattle.std.proofs.lemmas.List.{append-nil, get_or_default}
use Rattle.std.proofs.lemmas.List.Elements.{Contains-append_left, Contains-get_or, Contains-push, Contains-push_cases}
use Rattle.list_laws.proofs.Members.{contains_cases, contains_first, contains_later}
use Rattle.list_laws.proofs.Numbers.{below_or_here}
use Rattle.dq_lits.specs.Literal.{variable_of}
use Rattle.hint_log.specs.Entries.{Entry, name_of}
use Rattle.oracle.specs.Calls.{IsMade, assumed}
use Rattle.oracle.specs.declared.groups.Group.{Group}
use Rattle.circuit_cnf.specs.declared.checkers.Checker.{Checker}
use Rattle.circuit_cnf.specs.Checking.{gate_groups}
use Rattle.circuit_cnf.specs.Turning.{AreActive, AreOfTurn}

pub all_are : {X : Type 0} (P : X → Type 0) (xs : List X) → ((x : X) → Contains xs x → P x) → All P xs
all_are P xs each k d below = each _ (Contains-get_or xs k d below)

-- what is assumed where nothing but groups is
pub assumed_are : (slice active : List Group) → slice ≡ active → assumed slice [] ≡ map (λ g. g.selector) active
assumed_are slice active same = append-nil (map (λ (g : Group). g.selector) slice) ∙ ap (map (λ (g : Group). g.selector)) same

module _ (checker : Checker) (faults : Group) (are_all : Bool) (active : List Group)
    (are : AreActive checker faults are_all active) where
  pub active_made : (es : List Entry) → ((h : Group) → Contains (gate_groups checker) h → IsMade es h) →
      IsMade es faults → (h : Group) → Contains active h → IsMade es h
  active_made es gates made h inside = elim (are.each h inside) [
    | inl mine ↦ gates h mine
    | inr same ↦ subst (IsMade es) (sym same) made
  ]

  pub active_cases : (h : Group) → Contains active h →
      Contains (gate_groups checker) h ⊎ (variable_of h.selector ≡ variable_of faults.selector)
  active_cases h inside = elim (are.each h inside) [
    | inl mine ↦ inl mine
    | inr same ↦ inr (ap (λ (x : Group). variable_of x.selector) same)
  ]

  pub active_of_turn : (old : List Entry) → name_of old (variable_of faults.selector) ≡ None →
      AreOfTurn checker old active
  active_of_turn old unnamed h inside = elim (are.each h inside) [
    | inl mine ↦ inl mine
    | inr same ↦ inr (ap (λ (x : Group). name_of old (variable_of x.selector)) same ∙ unnamed)
  ]

-- the earlier groups up to a place
pub record GroupsSoFar (earlier : List Group) (are_all : Bool) (place : ℕ) (active : List Group) : Type 0 where
  pub each : (g : Group) → Contains active g → Contains earlier g
  pub all : are_all ≡ true → (k : ℕ) (d : Group) → k < place → Contains active (get_or earlier k d)

pub no_groups : (earlier : List Group) (are_all : Bool) → GroupsSoFar earlier are_all 0 []
no_groups earlier are_all = record {
  each = λ g (k, below, is). absurd (omega (arith, below));
  all = λ whole k d below. absurd (omega (arith, below));
}

pub group_kept : (earlier active : List Group) (are_all : Bool) (place : ℕ) (g : Group) → place < length earlier →
    g ≡ get_or earlier place g → GroupsSoFar earlier are_all place active →
    GroupsSoFar earlier are_all (place + 1) (active ++ (g ∷ []))
group_kept earlier active are_all place g inside is so_far = record {
  each = λ h has. elim (Contains-push_cases active g h has) [
    | inl was ↦ so_far.each h was
    | inr here ↦ subst (Contains earlier) (sym is ∙ here) (Contains-get_or earlier place g inside)
  ];
  all = λ whole k d below. elim (below_or_here k place (let b : k < place + 1 = below in b)) [
    | inl less ↦ Contains-append_left active (g ∷ []) (get_or earlier k d) (so_far.all whole k d less)
    | inr same ↦ (let here : g ≡ get_or earlier k d = is ∙ get_or_default earlier place g d inside
        ∙ ap (λ n. get_or earlier n d) (sym same) in
        subst (Contains (active ++ (g ∷ []))) here (Contains-push active g))
  ];
}

pub group_left_out : (earlier active : List Group) (are_all : Bool) (place : ℕ) → (are_all ≡ true → ⊥) →
    GroupsSoFar earlier are_all place active → GroupsSoFar earlier are_all (place + 1) active
group_left_out earlier active are_all place some so_far = record {
  each = so_far.each;
  all = λ whole. absurd (some whole);
}

pub are_active : (checker : Checker) (faults : Group) (are_all : Bool) (place : ℕ) (active : List Group) →
    (place < length checker.gates.earlier.items → ⊥) →
    GroupsSoFar checker.gates.earlier.items are_all place active →
    AreActive checker faults are_all ((active ++ (checker.gates.group ∷ [])) ++ (faults ∷ []))
are_active checker faults are_all place active ended so_far = record {
  each = λ g has. elim (Contains-push_cases (active ++ (own ∷ [])) faults g has) [
    | inl before ↦ elim (Contains-push_cases active own g before) [
      | inl mine ↦ inl (contains_later own g earlier (so_far.each g mine))
      | inr here ↦ inl (subst (Contains (own ∷ earlier)) here (contains_first own earlier))
    ]
    | inr here ↦ inr (sym here)
  ];
  all = λ whole g has. Contains-append_left (active ++ (own ∷ [])) (faults ∷ []) g (elim (contains_cases own g earlier has) [
    | inl here ↦ subst (Contains (active ++ (own ∷ []))) here (Contains-push active own)
    | inr (k, below, is) ↦ Contains-append_left active (own ∷ []) g (subst (Contains active) is
        (so_far.all whole k g (omega (arith, below, ended))))
  ]);
  with_faults = Contains-push (active ++ (own ∷ [])) faults;
} where
  own : Group
  own = checker.gates.group

  earlier : List Group
  earlier = checker.gates.earlier.items
