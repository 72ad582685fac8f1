-- What the two sides have in common: the first copies of what stands at the places.
use Rattle.std.proofs.Common.{◌≡◌, ◌⊎◌, ℕ, ◌==◌, Bool, true, false, true≢false, ◌&&◌, inl, inr, List, [], ◌∷◌, map, Option, Some, refl, sym, ◌∙◌, ap, arith}
use Rattle.std.specs.List.{All, list_any}
use Rattle.std.proofs.lemmas.Bool.{cases_Bool, or_cases, or_left, and_parts, eqb-true}
use Rattle.std.proofs.lemmas.List.Elements.{All-head, All-tail, All-cons, All-nil}
use Rattle.dq_lits.specs.Literal.{Literal, positive, negative, variable_of, opposite, same_literal}
use Rattle.dq_lits.specs.Derivation.{holds}
use Rattle.dq_lits.specs.Formula.{Dqbf}
use Rattle.dq_lits.proofs.Truth.{same_literal-sound}
use Rattle.dq_lits.proofs.HeldLiterals.{any_gives}
use Rattle.hint_log.specs.Entries.{Entry, name_of}
use Rattle.hint_log.specs.Naming.{NamedLiteral, name_literal, AreNamedAs, is_selector, is_selector_name}
use Rattle.hint_log.specs.Origins.{link_names}
use Rattle.hint_log.specs.declared.names.Name.{Name}
use Rattle.hint_log.specs.declared.names.Name.TheVariants.{Selector, Copy as CopyOf}
use Rattle.aig_graph.specs.Graph.{AigGraph}
use Rattle.interpolants.specs.Interpolant.{Partition, is_on_a, stands_on, IsOfA, IsOfB, SharesAll}
use Rattle.interpolants.proofs.Truth.{stands_there}
use Rattle.log_laws.proofs.Found.{named_variable}
use Rattle.definability.specs.Copies.{copy_names}
use Rattle.definability.specs.Dividing.{IsRead, Divides, AreSharedCopies}
use Rattle.definability.proofs.DividedAnswers.{copy_name}

-- a variable of named literals
named_all : (es : List Entry) (P : Name → Type 0) (ks : List Literal) (ns : List NamedLiteral) → AreNamedAs es ks ns →
    All (λ n. P n.name) ns → (v : ℕ) → stands_on ks v ≡ true →
    (m : Name) × (name_of es v ≡ Some m) × P m
named_all es P [] ns are ps v h = cc
named_all es P (k ∷ ks) [] are ps v h = cc
named_all es P (k ∷ ks) (n ∷ ns) are ps v h =
    let here : name_literal es k ≡ Some n = cc in
    let later : map (name_literal es) ks ≡ map Some ns = cc in
    elim (or_cases (variable_of k == v) (stands_on ks v) h) [
      | inl this ↦ search (arith, named_variable, eqb-true, All-head)
      | inr further ↦ named_all es P ks ns later (All-tail (λ x. P x.name) n ns ps) v further
    ]

abbrev pub IsCopy : ℕ → Name → Type 0
IsCopy side m = (x : ℕ) × (m ≡ CopyOf side x)

are_copies : (side : ℕ) (ls : List Literal) → All (λ n. IsCopy side n.name) (copy_names side ls)
are_copies side [] = All-nil (λ n. IsCopy side n.name)
are_copies side (l ∷ ls) = All-cons (λ n. IsCopy side n.name) _ (copy_names side ls) (variable_of l, refl)
    (are_copies side ls)

abbrev IsLinked : ℕ → Name → Type 0
IsLinked x m = (m ≡ CopyOf 1 x) ⊎ (m ≡ CopyOf 2 x)

are_linked : (x i : ℕ) → (i ≡ 1) ⊎ (i ≡ 2) → All (λ n. IsLinked x n.name) (link_names x i)
are_linked x i (inl one) = search (arith, All-cons, All-nil)
are_linked x i (inr two) = search (arith, All-cons, All-nil)

-- the variables of the A side: selectors of it, and copies of side 1
abbrev IsA : Partition → ℕ → Type 0
IsA q v = ((name_of q.entries v ≡ Some (Selector v)) × (holds q.a_side (positive v) ≡ true)) ⊎
    ((m : Name) × (name_of q.entries v ≡ Some m) × IsCopy 1 m)

-- those of the B side
abbrev IsB : Partition → Dqbf → List ℕ → ℕ → Type 0
IsB q f places v =
    ((name_of q.entries v ≡ Some (Selector v)) × (holds q.a_side (positive v) ≡ false))
    ⊎ (((m : Name) × (name_of q.entries v ≡ Some m) × IsCopy 2 m) ⊎
    ((x : ℕ) × (name_of q.entries v ≡ Some (CopyOf 1 x)) × IsRead f places x))

selector_copy : (n : Option Name) (g side x : ℕ) → n ≡ Some (Selector g) → n ≡ Some (CopyOf side x) → ⊥
selector_copy n g side x a b = let e : Some (Selector g) ≡ Some (CopyOf side x) = sym a ∙ b in cc

copy_sides : (n : Option Name) (x z : ℕ) → n ≡ Some (CopyOf 1 x) → n ≡ Some (CopyOf 2 z) → ⊥
copy_sides n x z a b = let e : Some (CopyOf 1 x) ≡ Some (CopyOf 2 z) = sym a ∙ b in cc

no_selector : (n : Option Name) (m : Name) → n ≡ Some m → IsCopy 1 m → is_selector_name n ≡ true → ⊥
no_selector n m is copy h = true≢false (sym h ∙ ap is_selector_name (is ∙ ap Some copy.1))

module _ (q : Partition) (f : Dqbf) (places : List ℕ) (y : ℕ) (conditions : List Literal)
    (divides : Divides f places y conditions q) where
  abbrev test : Literal → Bool
  test l = holds q.a_side (opposite l) && is_selector q.entries (variable_of l)

  a_kind : (v : ℕ) → IsOfA q v → IsA q v
  a_kind v (inl h) =
      let w = any_gives (λ l. variable_of l == v) q.a_side h in
      let at : variable_of w.0 ≡ v = eqb-true (variable_of w.0) v w.2 in
      elim (divides.assumed w.0 w.1) [
        | inl selector ↦ search arith
        | inr copy ↦ search (arith, copy_name)
      ]
  a_kind v (inr side) =
      let copy = divides.a_given side.at side.clause side.given side.on_side in
      let w = any_gives test (negative copy.group ∷ copy.rest)
      (sym (ap (list_any test) copy.clause_is) ∙ side.on_side) in
      let both = and_parts (holds q.a_side (opposite w.0)) (is_selector q.entries (variable_of w.0)) w.2 in
      elim (or_cases (copy.group == v) (stands_on copy.rest v)
      (sym (ap (λ c. stands_on c v) copy.clause_is) ∙ side.stands)) [
        | inr later ↦ inr (named_all q.entries (IsCopy 1) copy.rest (copy_names 1 copy.original) copy.copied
            (are_copies 1 copy.original) v later)
        | inl here ↦ elim (or_cases (same_literal w.0 (negative copy.group)) (holds copy.rest w.0) w.1) [
          | inl first ↦ search (arith, eqb-true, same_literal-sound)
          | inr rest ↦ (
              let named = named_all q.entries (IsCopy 1) copy.rest (copy_names 1 copy.original) copy.copied
              (are_copies 1 copy.original) (variable_of w.0) (stands_there copy.rest w.0 rest) in
              absurd (no_selector (name_of q.entries (variable_of w.0)) named.0 named.1 named.2 both.1))
        ]
      ]

  group_of_b : (group : ℕ) (rest clause : List Literal) → clause ≡ negative group ∷ rest →
      name_of q.entries group ≡ Some (Selector group) → is_on_a q clause ≡ false →
      holds q.a_side (positive group) ≡ false
  group_of_b group rest clause is named on_b = search (arith, cases_Bool, true≢false, or_left)

  b_group : (v group : ℕ) (rest clause : List Literal) → clause ≡ negative group ∷ rest →
      name_of q.entries group ≡ Some (Selector group) → is_on_a q clause ≡ false → group ≡ v → IsB q f places v
  b_group v group rest clause is named on_b same = search (arith, group_of_b)

  b_kind : (v : ℕ) → IsOfB q v → IsB q f places v
  b_kind v (inl (l, other, at)) =
      elim (divides.others l other) [
        | inl selector ↦ search arith
        | inr copy ↦ search (arith, copy_name)
      ]
  b_kind v (inr side) =
      elim (divides.b_given side.at side.clause side.given side.on_side) [
        | inl copy ↦ elim (or_cases (copy.group == v) (stands_on copy.rest v)
            (sym (ap (λ c. stands_on c v) copy.clause_is) ∙ side.stands)) [
              | inl here ↦ b_group v copy.group copy.rest side.clause copy.clause_is copy.is_group side.on_side
                  (eqb-true copy.group v here)
              | inr later ↦ inr (inl (named_all q.entries (IsCopy 2) copy.rest (copy_names 2 copy.original) copy.copied
                  (are_copies 2 copy.original) v later))
            ]
        | inr link ↦ elim (or_cases (link.group == v) (stands_on link.rest v)
            (sym (ap (λ c. stands_on c v) link.clause_is) ∙ side.stands)) [
              | inl here ↦ b_group v link.group link.rest side.clause link.clause_is link.is_group side.on_side
                  (eqb-true link.group v here)
              | inr later ↦ (
                  let named = named_all q.entries (IsLinked link.variable) link.rest
                  (link_names link.variable link.part) link.named
                  (are_linked link.variable link.part link.which) v later in
                  elim named.2 [
                    | inl one ↦ inr (inr (link.variable, named.1 ∙ ap Some one, link.read))
                    | inr two ↦ inr (inl (named.0, named.1, (link.variable, two)))
                  ])
            ]
      ]

  pub copies_share : (graph : AigGraph) → AreSharedCopies f places q.entries graph q.shared → SharesAll q
  copies_share graph shared v of_a of_b =
      search (arith, (a_kind v of_a), (b_kind v of_b), true≢false, selector_copy, copy_sides)
