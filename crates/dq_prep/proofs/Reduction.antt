-- Universal reduction keeps what a choice makes true.
use Rattle.std.proofs.Common.{◌≡◌, ℕ, ◌<◌, ◌==◌, Bool, true, false, not, cond, ◌⊎◌, inl, inr, List, [], ◌∷◌, map, length, get_or, Some, refl, sym, ◌∙◌, ap, arith}
use Rattle.std.specs.List.{All, Contains, list_any, filter}
use Rattle.std.proofs.lemmas.Bool.{true≢false, eq-eqb, or_cases, or_left, or_right, and_parts}
use Rattle.std.proofs.lemmas.List.{get_or-map, length-map}
use Rattle.std.proofs.lemmas.List.Elements.{All-contains, All-head, All-tail, Contains-append_cases}
use Rattle.std.proofs.lemmas.List.Folds.{list_any_at}
use Rattle.list_laws.proofs.Members.{contains_tested}
use Rattle.dq_lits.specs.Literal.{Assignment, Literal, positive, negative, variable_of, opposite, literal_true, clause_true}
use Rattle.dq_lits.specs.Formula.{Existential, Dqbf, declared, is_universal, existential_of, HasLawfulPrefix}
use Rattle.dq_lits.specs.Henkin.{same_bits, HenkinChoice, Follows}
use Rattle.dq_lits.specs.Derivation.{holds, is_tautology}
use Rattle.dq_lits.proofs.SignedLiterals.{same_literal-refl}
use Rattle.dq_lits.proofs.Followers.{map-agree}
use Rattle.dq_formula.specs.Prefix.{IsLawful}
use Rattle.dq_prep.specs.Reduction.{sees_in, is_seen, stays, reduced}
use Rattle.dq_prep.specs.LoweredRows.{is_lost, lowered}
use Rattle.dq_lits.proofs.LiftedExpansion.{literal_true-agree}

any-cond : (q : Literal → Bool) (b : Bool) (x : Literal) (xs : List Literal) → list_any q xs ≡ true
    → list_any q (cond b (x ∷ xs) xs) ≡ true
any-cond q true x xs h = or_right (q x) (list_any q xs) h
any-cond q false x xs h = h

-- where what passes one test is kept and passes another
pub any-kept : (p q g : Literal → Bool) (xs : List Literal) → All (λ x. p x ≡ true → (g x ≡ true) × (q x ≡ true)) xs
    → list_any p xs ≡ true → list_any q (filter g xs) ≡ true
any-kept p q g [] good h = h
any-kept p q g (x ∷ xs) good h =
    let Good : Literal → Type 0 = λ z. p z ≡ true → (g z ≡ true) × (q z ≡ true) in
    elim (or_cases (p x) (list_any p xs) h) [
      | inl here ↦
          let two = All-head Good x xs good here in
          ap (λ b. list_any q (cond b (x ∷ filter g xs) (filter g xs))) two.0
          ∙ or_left (q x) (list_any q (filter g xs)) two.1
      | inr later ↦ any-cond q (g x) x (filter g xs) (any-kept p q g xs (All-tail Good x xs good) later)
    ]

pub holds-at : (clause : List Literal) (k : ℕ) (d : Literal) → k < length clause
    → holds clause (get_or clause k d) ≡ true
holds-at clause k d below = search (arith, list_any_at, same_literal-refl)

-- the law that every row extends to an assignment that follows a choice
abbrev pub Extending : Type 0
Extending =
    (f : Dqbf) (choice : HenkinChoice) (m : Assignment) → HasLawfulPrefix f
    → (n : Assignment) × All (λ x. n x ≡ m x) f.universals × Follows f choice n

-- what is fixed while a clause is reduced
record Setting : Type 0 where
  f : Dqbf
  lawful : IsLawful f
  choice : HenkinChoice
  clause : List Literal
  bound : All (λ l. Contains (declared f) (variable_of l)) clause
  plain : is_tautology clause ≡ false
  m : Assignment
  follows : Follows f choice m
  n : Assignment
  universals : All (λ x. n x ≡ lowered f clause m x) f.universals
  follows_too : Follows f choice n

pub unlost : (f : Dqbf) (clause : List Literal) (m : Assignment) (v : ℕ) → is_seen f clause v ≡ true
    → lowered f clause m v ≡ m v
unlost f clause m v seen = search arith

pub true-or-false : (b : Bool) → (b ≡ true) ⊎ (b ≡ false)
true-or-false true = inl refl
true-or-false false = inr refl

no_opposite : (clause : List Literal) (k : ℕ) (d : Literal) → k < length clause → is_tautology clause ≡ false
    → holds clause (opposite (get_or clause k d)) ≡ false
no_opposite clause k d below plain = search (arith, true-or-false, true≢false, list_any_at)

-- a lost literal is false there
pub lost_false : (f : Dqbf) (clause : List Literal) (m : Assignment) (l : Literal) → holds clause l ≡ true
    → holds clause (opposite l) ≡ false → is_lost f clause (variable_of l) ≡ true
    → literal_true (lowered f clause m) l ≡ false
lost_false f clause m (positive v) here none lost = search arith
lost_false f clause m (negative v) here none lost = search arith

pub kept_by : (f : Dqbf) (clause : List Literal) (l : Literal) → is_lost f clause (variable_of l) ≡ false
    → stays f clause l ≡ true
kept_by f clause l h = search (arith, true≢false)

pub not_lost : (f : Dqbf) (clause : List Literal) (v : ℕ) → is_seen f clause v ≡ true → is_lost f clause v ≡ false
not_lost f clause v h = search arith

pub unlost_value : (f : Dqbf) (clause : List Literal) (m : Assignment) (v : ℕ) → is_lost f clause v ≡ false
    → lowered f clause m v ≡ m v
unlost_value f clause m v h = search arith

-- an existential of the clause keeps its value
existential_same : (s : Setting) (k : ℕ) (d : Literal) → k < length s.clause
    → Contains (map (λ y. y.variable) s.f.existentials) (variable_of (get_or s.clause k d)) →
    s.n (variable_of (get_or s.clause k d)) ≡ s.m (variable_of (get_or s.clause k d))
existential_same s k d below (j, in_map, is) =
    let f = s.f in
    let ys = f.existentials in
    let l = get_or s.clause k d in
    let v = variable_of l in
    let nobody : Existential = record { variable = 0; sees = [] } in
    let y = get_or ys j nobody in
    let inside : j < length ys = rw (length-map ys (λ z. z.variable)) at in_map in
    let names : y.variable ≡ v = sym (get_or-map (λ z. z.variable) ys j nobody v inside) ∙ is in
    let own : existential_of f v ≡ Some y = ap (existential_of f) (sym names) ∙ s.lawful.named j nobody inside in
    let seen : (x : ℕ) → list_any (λ z. z == x) y.sees ≡ true → is_seen f s.clause x ≡ true =
    λ x h. list_any_at (λ q. sees_in x (existential_of f (variable_of q))) s.clause k d below
    (ap (sees_in x) own ∙ h) in
    let same_seen : All (λ x. s.n x ≡ s.m x) y.sees =
    λ i e under.
    let x = get_or y.sees i e in
    let universal : Contains f.universals x = s.lawful.prefix.sees_universals j nobody inside i e under in
    All-contains (λ z. s.n z ≡ lowered f s.clause s.m z) f.universals x s.universals universal
    ∙ unlost_value f s.clause s.m x
    (not_lost f s.clause x (seen x (list_any_at (λ z. z == x) y.sees i e under (eq-eqb x x refl)))) in
    sym (ap s.n names)
    ∙ s.follows_too j nobody inside
    ∙ ap (λ bits. list_any (same_bits bits) (s.choice y)) (map-agree s.n s.m y.sees same_seen)
    ∙ sym (s.follows j nobody inside)
    ∙ ap s.m names

universal_same : (s : Setting) (v : ℕ) → Contains s.f.universals v → s.n v ≡ lowered s.f s.clause s.m v
universal_same s v inside = search (arith, All-contains)

literal_stays : (s : Setting) (k : ℕ) (d : Literal) → k < length s.clause
    → literal_true s.n (get_or s.clause k d) ≡ true →
    (stays s.f s.clause (get_or s.clause k d) ≡ true) × (literal_true s.m (get_or s.clause k d) ≡ true)
literal_stays s k d below truth =
    let f = s.f in
    let l = get_or s.clause k d in
    let v = variable_of l in
    elim (true-or-false (is_lost f s.clause v)) [
      | inl lost ↦
          let universal = (and_parts (is_universal f v) (not (is_seen f s.clause v)) lost).0 in
          let there = universal_same s v (contains_tested f.universals v universal) in
          let low = lost_false f s.clause s.m l (holds-at s.clause k d below)
          (no_opposite s.clause k d below s.plain) lost in
          absurd (true≢false (sym truth ∙ literal_true-agree s.n (lowered f s.clause s.m) l there ∙ low))
      | inr kept ↦
          let same : s.n v ≡ s.m v =
          elim (Contains-append_cases f.universals (map (λ y. y.variable) f.existentials) v (s.bound k d below)) [
            | inl universal ↦ universal_same s v universal ∙ unlost_value f s.clause s.m v kept
            | inr existential ↦ existential_same s k d below existential
          ] in
          (kept_by f s.clause l kept, sym (literal_true-agree s.n s.m l same) ∙ truth)
    ]

-- universal reduction: what is true wherever the choice is followed stays so
pub reduced-true : Extending → (f : Dqbf) → IsLawful f → (choice : HenkinChoice) (clause : List Literal) →
    All (λ l. Contains (declared f) (variable_of l)) clause →
    ((m : Assignment) → Follows f choice m → clause_true m clause ≡ true) →
    (m : Assignment) → Follows f choice m → clause_true m (reduced f clause) ≡ true
reduced-true extends f lawful choice clause bound always m follows =
    by (is_tautology clause) refl
  where
    by : (b : Bool) → is_tautology clause ≡ b → clause_true m (cond b clause (filter (stays f clause) clause)) ≡ true
    by true e = always m follows
    by false e =
        let more = extends f choice (lowered f clause m) lawful.prefix in
        let s : Setting = record {
          f = f;
          lawful = lawful;
          choice = choice;
          clause = clause;
          bound = bound;
          plain = e;
          m = m;
          follows = follows;
          n = more.0;
          universals = more.1;
          follows_too = more.2;
        } in
        any-kept (literal_true more.0) (literal_true m) (stays f clause) clause (literal_stays s)
        (always more.0 more.2)
