-- Hints lead to a conflict, as literals are taken back from a trail.
use Rattle.std.proofs.Common.{◌≡◌, ◌≢◌, ℕ, ◌+◌, ◌==◌, Bool, true, false, cond, ◌||◌, ◌⊎◌, inl, inr, List, [], ◌∷◌, map, Some, refl, sym, ◌∙◌, ap, arith}
use Rattle.std.proofs.lemmas.Bool.{false≢true, or_left, or_right, false_from_ne_true, eq-eqb}
use Rattle.dq_lits.specs.Literal.{Literal, variable_of, opposite}
use Rattle.dq_lits.specs.Derivation.{LiveClauses, unit, holds, status_of, fault_by, hint_fault, is_tautology, IsDerived}
use Rattle.dq_lits.proofs.HeldLiterals.{any_one, holds_cases, holds_here, holds_later, holds-map}
use Rattle.dq_lits.proofs.SignedLiterals.{opposite_variable, opposite-opposite}
use Rattle.dq_lits.specs.Truth.{IsFree}
use Rattle.learning_trail.specs.Marks.{marked, stands_on}
use Rattle.learning_trail.specs.Analyses.{Leads}
use Rattle.dq_lits.proofs.LiteralValues.{free_variable}
use Rattle.learning_trail.proofs.StatusLaws.{IsImplied, is_falsified, is_unit}

-- a clause that is false by what is kept and marked
pub leads_first : (live : LiveClauses) (marks : List Bool) (trail kept clause : List Literal) (id : ℕ) →
    live id ≡ Some clause
    → ((l : Literal) → holds clause l ≡ true → (holds kept (opposite l) ≡ true) ⊎
    ((holds trail (opposite l) ≡ true) × (marked marks (variable_of l) ≡ true)))
    → Leads live marks trail kept (id ∷ [])
leads_first live marks trail kept clause id is false_by trues place keeps covers within =
    search (arith, is_falsified, opposite_variable)

-- a marked literal is resolved against its reason
pub leads_next : (live : LiveClauses) (before after : List Bool) (rest kept clause : List Literal) (q : Literal)
    (id : ℕ) (hints : List ℕ) → live id ≡ Some clause
    → IsImplied rest clause q
    → ((v : ℕ) → v ≢ variable_of q → marked after v ≡ (marked before v || stands_on clause v))
    → ((l : Literal) → holds kept l ≡ true → IsFree (q ∷ rest) l)
    → Leads live before (q ∷ rest) kept hints → Leads live after rest kept (id ∷ hints)
leads_next live before after rest kept clause q id hints is implied marks gone leads trues place keeps covers within =
    let fresh : holds trues q ≡ false = false_from_ne_true (holds trues q) (λ t.
    elim (within q t) [
      | inl k ↦ false≢true (sym (gone q k).0 ∙ holds_here q rest)
      | inr r ↦ false≢true (sym implied.free.0 ∙ r)
    ]) in
    let not_false : holds trues (opposite q) ≡ false = false_from_ne_true (holds trues (opposite q)) (λ t.
    elim (within (opposite q) t) [
      | inl k ↦ false≢true (sym (gone (opposite q) k).1 ∙ ap (holds (q ∷ rest)) (opposite-opposite q)
          ∙ holds_here q rest)
      | inr r ↦ false≢true (sym implied.free.1 ∙ r)
    ]) in
    let s : status_of trues (live id) ≡ unit q = ap (status_of trues) is ∙ is_unit trues clause q implied.among
    (λ l m n.
    let on_rest = implied.others l m n in
    let other : variable_of l ≢ variable_of q = λ e. free_variable rest q (opposite l) implied.free on_rest
    (opposite_variable l ∙ e) in
    let mark : marked after (variable_of l) ≡ true =
    marks (variable_of l) other ∙ or_right (marked before (variable_of l)) (stands_on clause (variable_of l))
    (any_one (λ k. variable_of k == variable_of l) clause l m (eq-eqb (variable_of l) (variable_of l) refl)) in
    covers (opposite l) on_rest (ap (marked after) (opposite_variable l) ∙ mark)) (fresh, not_false) in
    ap (λ x. fault_by x place hints (λ l. hint_fault live (l ∷ trues) (place + 1) hints)) s
    ∙ leads (q ∷ trues) (place + 1)
    (λ t k. holds_later q trues t (keeps t k))
    (λ t on m. elim (holds_cases q rest t on) [
      | inl e ↦ ap (holds (q ∷ trues)) e ∙ holds_here q trues
      | inr r ↦
          let other : variable_of t ≢ variable_of q = λ e. free_variable rest q t implied.free r e in
          holds_later q trues t (covers t r (marks (variable_of t) other ∙ or_left (marked before (variable_of t))
          (stands_on clause (variable_of t)) m))
    ])
    (λ t m. elim (holds_cases q trues t m) [
      | inl e ↦ inr (ap (holds (q ∷ rest)) e ∙ holds_here q rest)
      | inr r ↦ elim (within t r) [ inl k ↦ inl k | inr w ↦ inr (holds_later q rest t w) ]
    ])

-- a literal that isn't marked is taken back
pub leads_past : (live : LiveClauses) (marks : List Bool) (rest kept : List Literal) (q : Literal) (hints : List ℕ) →
    marked marks (variable_of q) ≡ false
    → Leads live marks (q ∷ rest) kept hints → Leads live marks rest kept hints
leads_past live marks rest kept q hints unmarked leads trues place keeps covers within =
    leads trues place keeps
    (λ t on m. elim (holds_cases q rest t on) [
      | inl e ↦ absurd (false≢true (sym unmarked ∙ ap (λ k. marked marks (variable_of k)) (sym e) ∙ m))
      | inr r ↦ covers t r m
    ])
    (λ t m. elim (within t m) [ inl k ↦ inl k | inr r ↦ inr (holds_later q rest t r) ])

-- a literal is taken back and kept
pub leads_kept : (live : LiveClauses) (marks : List Bool) (rest kept more : List Literal) (q : Literal) (hints : List ℕ)
    → ((t : Literal) → holds kept t ≡ true → holds more t ≡ true) → holds more q ≡ true
    → ((t : Literal) → holds more t ≡ true → (holds kept t ≡ true) ⊎ (t ≡ q))
    → Leads live marks (q ∷ rest) kept hints → Leads live marks rest more hints
leads_kept live marks rest kept more q hints still has only leads trues place keeps covers within =
    search (arith, holds_cases, holds_here, holds_later)

-- the clause of the negations of what is kept and marked is derived
pub leads_line : (live : LiveClauses) (marks : List Bool) (trail kept clause : List Literal) (hints : List ℕ) →
    Leads live marks trail kept hints
    → ((t : Literal) → holds kept t ≡ true → holds clause (opposite t) ≡ true)
    → ((t : Literal) → holds trail t ≡ true → marked marks (variable_of t) ≡ true → holds clause (opposite t) ≡ true)
    → ((l : Literal) → holds clause l ≡ true → (holds kept (opposite l) ≡ true) ⊎ (holds trail (opposite l) ≡ true))
    → is_tautology clause ≡ false → IsDerived live clause hints
leads_line live marks trail kept clause hints leads keeps covers within plain =
    ap (λ b. cond b (Some 0) (hint_fault live (map opposite clause) 1 hints)) plain
    ∙ leads (map opposite clause) 1 (λ t k. negated t (keeps t k)) (λ t on m. negated t (covers t on m))
    (λ t m.
    let held : holds clause (opposite t) ≡ true = sym (holds-map clause (opposite t)) ∙ ap (holds (map opposite clause))
    (opposite-opposite t) ∙ m in
    elim (within (opposite t) held) [
      | inl k ↦ inl (ap (holds kept) (sym (opposite-opposite t)) ∙ k)
      | inr r ↦ inr (ap (holds trail) (sym (opposite-opposite t)) ∙ r)
    ])
  where
    negated : (t : Literal) → holds clause (opposite t) ≡ true → holds (map opposite clause) t ≡ true
    negated t h = ap (holds (map opposite clause)) (sym (opposite-opposite t)) ∙ holds-map clause (opposite t) ∙ h
