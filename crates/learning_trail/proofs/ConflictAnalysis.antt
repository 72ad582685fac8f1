-- The analysis of a conflict, as literals are taken back.
use Rattle.std.proofs.Common.{◌≡◌, ◌≢◌, ℕ, ◌==◌, Bool, true, false, not, ◌||◌, ◌&&◌, ◌⊎◌, inl, inr, List, [], ◌∷◌, Some, is_some, arith, Contains, refl, sym, ◌∙◌, ap, subst}
use Rattle.std.proofs.lemmas.Bool.{cases_eq, false≢true, or_left, or_right, or_cases, or_parts, and_parts, false_from_ne_true, eq-eqb, ne_eqb, eqb-true}
use Rattle.list_laws.proofs.Members.{no_element}
use Rattle.dq_lits.specs.Literal.{Literal, variable_of, is_negative, opposite, same_literal}
use Rattle.dq_lits.specs.Derivation.{LiveClauses, holds, status_of, falsified}
use Rattle.dq_lits.proofs.Truth.{same_literal-sound}
use Rattle.dq_lits.proofs.HeldLiterals.{any_one, any_gives, holds_cases, holds_here, holds_later}
use Rattle.dq_lits.proofs.SignedLiterals.{same_literal-refl, opposite_variable, opposite-opposite, opposite-other, one_variable, opposite-negative}
use Rattle.hint_log.specs.Entries.{Entry}
use Rattle.hint_log.specs.Naming.{is_selector}
use Rattle.oracle.specs.Searched.{Stands}
use Rattle.learning_trail.specs.declared.trails.Step.{Step}
use Rattle.learning_trail.specs.Steps.{literals_of}
use Rattle.dq_lits.specs.Truth.{IsFree}
use Rattle.learning_trail.specs.Marks.{marked, stands_on}
use Rattle.learning_trail.specs.Sound.{IsSound}
use Rattle.learning_trail.specs.Analyses.{IsAnalysis}
use Rattle.learning_trail.proofs.StatusLaws.{IsImplied, falsified_tells}
use Rattle.learning_trail.proofs.LeadingHints.{leads_first, leads_next, leads_past, leads_kept}

pub contains_cases : (y : ℕ) (ys : List ℕ) (x : ℕ) → Contains (y ∷ ys) x → (x ≡ y) ⊎ Contains ys x
contains_cases y ys x c = search arith

abbrev pub AreConsistent : List Literal → Type 0
AreConsistent trail = (l : Literal) → holds trail l ≡ true → holds trail (opposite l) ≡ true → ⊥

pub free_later : (q : Literal) (rest : List Literal) (l : Literal) → IsFree (q ∷ rest) l → IsFree rest l
free_later q rest l free = search (arith, or_parts)

pub consistent_more : (q : Literal) (rest : List Literal) → IsFree rest q → AreConsistent rest →
    AreConsistent (q ∷ rest)
consistent_more q rest free before l h o = search (arith, holds_cases, opposite-other, false≢true, opposite-opposite)

pub sound_consistent : (live : LiveClauses) (steps : List Step) → IsSound live steps → AreConsistent (literals_of steps)
sound_consistent live [] sound = λ l h o. false≢true h
sound_consistent live (s ∷ steps) sound = search (arith, consistent_more, (sound_consistent live steps sound.1))

-- the trail's literal of a clause's variable is the negation
negation_of : (rest : List Literal) (t l : Literal) → AreConsistent rest → holds rest t ≡ true →
    holds rest (opposite l) ≡ true → variable_of l ≡ variable_of t → t ≡ opposite l
negation_of rest t l consistent ht hl same = search (arith, one_variable, opposite_variable)

module _ (entries : List Entry) (live : LiveClauses) (before after : List Bool) (rest kept clause : List Literal)
    (q : Literal) (id : ℕ) (hints : List ℕ)
    (is : live id ≡ Some clause) (implied : IsImplied rest clause q)
    (stand : (l : Literal) → holds clause l ≡ true → Stands entries l)
    (consistent : AreConsistent rest) (mark : marked before (variable_of q) ≡ true)
    (marks : (v : ℕ) → marked after v ≡ (not (variable_of q == v) && (marked before v || stands_on clause v)))
    (old : IsAnalysis entries live (q ∷ rest) kept before hints) where
  other : (v : ℕ) → v ≢ variable_of q → marked after v ≡ (marked before v || stands_on clause v)
  other v n = search (arith, ne_eqb)

  -- q is no selector
  no_selector : is_selector entries (variable_of q) ≡ true → ⊥
  no_selector sel = false≢true (sym (old.plain q (holds_here q rest) mark sel) ∙ (stand q implied.among).negated sel)

  on_rest : (l : Literal) → holds clause l ≡ true → variable_of l ≢ variable_of q →
      (holds rest (opposite l) ≡ true) × (marked after (variable_of l) ≡ true)
  on_rest l m n = search (arith, other, or_right, any_one, eq-eqb)

  pub analysis_next : IsAnalysis entries live rest kept after (id ∷ hints)
  analysis_next = record {
    leads = leads_next live before after rest kept clause q id hints is implied other
        (λ l k. (old.gone l k).0) old.leads;
    tied = λ h d l has at m sel. elim (contains_cases id hints h has) [
      | inl e ↦
          let same : Some clause ≡ Some d = sym is ∙ ap live (sym e) ∙ at in
          let c : clause ≡ d = cc in
          let mm : holds clause l ≡ true = ap (λ x. holds x l) c ∙ m in
          elim (cases_eq (variable_of l) (variable_of q)) [
            | inl v ↦ absurd (no_selector (ap (is_selector entries) (sym v) ∙ sel))
            | inr n ↦ inr (on_rest l mm n)
          ]
      | inr later ↦ elim (old.tied h d l later at m sel) [
        | inl k ↦ inl k
        | inr t ↦ elim (cases_eq (variable_of l) (variable_of q)) [
          | inl v ↦ absurd (no_selector (ap (is_selector entries) (sym v) ∙ sel))
          | inr n ↦ elim (holds_cases q rest (opposite l) t.0) [
            | inl e ↦ absurd (n (sym (opposite_variable l) ∙ ap variable_of e))
            | inr r ↦ inr (
              r,
              other (variable_of l) n ∙ or_left (marked before (variable_of l))
                  (stands_on clause (variable_of l)) t.1,
            )
          ]
        ]
      ]
    ];
    ids = λ h has. elim (contains_cases id hints h has) [
      | inl e ↦ ap is_some (ap live e ∙ is)
      | inr later ↦ old.ids h later
    ];
    gone = λ l k. (free_later q rest l (old.gone l k).0, (old.gone l k).1);
    plain = λ t on m sel. elim (cases_eq (variable_of t) (variable_of q)) [
      | inl v ↦ absurd (no_selector (ap (is_selector entries) (sym v) ∙ sel))
      | inr n ↦ elim (or_cases (marked before (variable_of t)) (stands_on clause (variable_of t))
          (sym (other (variable_of t) n) ∙ m)) [
            | inl b ↦ old.plain t (holds_later q rest t on) b sel
            | inr c ↦
                let r = any_gives (λ k. variable_of k == variable_of t) clause c in
                let v : variable_of r.0 ≡ variable_of t = eqb-true (variable_of r.0) (variable_of t) r.2 in
                let h = on_rest r.0 r.1 (λ e. n (sym v ∙ e)) in
                let e = negation_of rest t r.0 consistent on h.0 v in
                let neg = (stand r.0 r.1).negated (ap (is_selector entries) v ∙ sel) in
                ap is_negative e ∙ opposite-negative r.0 ∙ ap not neg
          ]
    ];
  }

pub analysis_past : (entries : List Entry) (live : LiveClauses) (marks : List Bool) (rest kept : List Literal)
    (q : Literal) (hints : List ℕ)
    → marked marks (variable_of q) ≡ false → IsAnalysis entries live (q ∷ rest) kept marks hints →
    IsAnalysis entries live rest kept marks hints
analysis_past entries live marks rest kept q hints unmarked old = record {
  leads = leads_past live marks rest kept q hints unmarked old.leads;
  tied = λ h d l has at m sel. elim (old.tied h d l has at m sel) [
    | inl k ↦ inl k
    | inr t ↦ elim (holds_cases q rest (opposite l) t.0) [
      | inl e ↦ absurd (false≢true (sym unmarked ∙ ap (λ x. marked marks (variable_of x)) (sym e) ∙ ap (marked marks)
          (opposite_variable l) ∙ t.1))
      | inr r ↦ inr (r, t.1)
    ]
  ];
  ids = old.ids;
  gone = λ l k. (free_later q rest l (old.gone l k).0, (old.gone l k).1);
  plain = λ t on m sel. old.plain t (holds_later q rest t on) m sel;
}

pub analysis_kept : (entries : List Entry) (live : LiveClauses) (marks : List Bool) (rest kept more : List Literal)
    (q : Literal) (hints : List ℕ)
    → IsFree rest q → ((t : Literal) → holds more t ≡ (holds kept t || same_literal t q))
    → IsAnalysis entries live (q ∷ rest) kept marks hints → IsAnalysis entries live rest more marks hints
analysis_kept entries live marks rest kept more q hints free more_is old =
    let still : (t : Literal) → holds kept t ≡ true → holds more t ≡ true =
    λ t k. more_is t ∙ or_left (holds kept t) (same_literal t q) k in
    let has : holds more q ≡ true = more_is q ∙ or_right (holds kept q) (same_literal q q) (same_literal-refl q) in
    let only : (t : Literal) → holds more t ≡ true → (holds kept t ≡ true) ⊎ (t ≡ q) =
    λ t m. elim (or_cases (holds kept t) (same_literal t q) (sym (more_is t) ∙ m))
    [ inl k ↦ inl k | inr s ↦ inr (same_literal-sound t q s) ] in
    record {
      leads = leads_kept live marks rest kept more q hints still has only old.leads;
      tied = λ h d l hin at m sel. elim (old.tied h d l hin at m sel) [
        | inl k ↦ inl (still (opposite l) k)
        | inr t ↦ elim (holds_cases q rest (opposite l) t.0) [
          | inl e ↦ inl (ap (holds more) e ∙ has)
          | inr r ↦ inr (r, t.1)
        ]
      ];
      ids = old.ids;
      gone = λ l k. elim (only l k) [
        | inl o ↦
            let g = old.gone l o in (
              free_later q rest l g.0,
              false_from_ne_true (holds more (opposite l)) (λ b. elim (only (opposite l) b) [
                | inl p ↦ false≢true (sym g.1 ∙ p)
                | inr e ↦ false≢true (sym g.0.1 ∙ ap (holds (q ∷ rest)) e ∙ holds_here q rest)
              ]),
            )
        | inr e ↦ (
          subst (IsFree rest) (sym e) free,
          false_from_ne_true (holds more (opposite l)) (λ b. elim (only (opposite l) b) [
            | inl p ↦
                let g = old.gone (opposite l) p in
                false≢true (sym g.0.1 ∙ ap (holds (q ∷ rest)) (opposite-opposite l ∙ e) ∙ holds_here q rest)
            | inr f ↦ opposite-other l (e ∙ sym f)
          ]),
        )
      ];
      plain = λ t on m sel. old.plain t (holds_later q rest t on) m sel;
    }

-- what is kept matters as a set
pub analysis_same : (entries : List Entry) (live : LiveClauses) (marks : List Bool) (trail kept other : List Literal)
    (hints : List ℕ) → ((t : Literal) → holds other t ≡ holds kept t)
    → IsAnalysis entries live trail kept marks hints → IsAnalysis entries live trail other marks hints
analysis_same entries live marks trail kept other hints same old = record {
  leads = λ trues place keeps covers only. old.leads trues place (λ t k. keeps t (same t ∙ k)) covers
      (λ t m. elim (only t m) [ inl k ↦ inl (sym (same t) ∙ k) | inr r ↦ inr r ]);
  tied = λ h d l has at m sel. elim (old.tied h d l has at m sel)
      [ inl k ↦ inl (same (opposite l) ∙ k) | inr t ↦ inr t ];
  ids = old.ids;
  gone = λ l k. let g = old.gone l (sym (same l) ∙ k) in (g.0, same (opposite l) ∙ g.1);
  plain = old.plain;
}

-- an analysis begins at a falsified clause
pub analysis_first : (entries : List Entry) (live : LiveClauses) (marks : List Bool) (trail clause : List Literal)
    (id : ℕ) → live id ≡ Some clause
    → status_of trail (Some clause) ≡ falsified → ((l : Literal) → holds clause l ≡ true → Stands entries l) →
    AreConsistent trail
    → ((v : ℕ) → marked marks v ≡ stands_on clause v) → IsAnalysis entries live trail [] marks (id ∷ [])
analysis_first entries live marks trail clause id is false_now stand consistent marks_are =
    let on : (l : Literal) → holds clause l ≡ true → (holds trail (opposite l) ≡ true) ×
    (marked marks (variable_of l) ≡ true) = λ l m. (
      falsified_tells trail clause false_now l m,
      marks_are (variable_of l) ∙ any_one (λ k. variable_of k == variable_of l) clause l m
          (eq-eqb (variable_of l) (variable_of l) refl),
    ) in
    record {
      leads = leads_first live marks trail [] clause id is (λ l m. inr (on l m));
      tied = λ h d l has at m sel. elim (contains_cases id [] h has) [
        | inl e ↦
            let same : Some clause ≡ Some d = sym is ∙ ap live (sym e) ∙ at in
            let c : clause ≡ d = cc in
            inr (on l (ap (λ x. holds x l) c ∙ m))
        | inr none ↦ absurd (no_element h none)
      ];
      ids = λ h has. elim (contains_cases id [] h has) [
        | inl e ↦ ap is_some (ap live e ∙ is)
        | inr none ↦ absurd (no_element h none)
      ];
      gone = λ l k. absurd (false≢true k);
      plain = λ t ht m sel.
          let r = any_gives (λ k. variable_of k == variable_of t) clause (sym (marks_are (variable_of t)) ∙ m) in
          let v : variable_of r.0 ≡ variable_of t = eqb-true (variable_of r.0) (variable_of t) r.2 in
          let e = negation_of trail t r.0 consistent ht (on r.0 r.1).0 v in
          let neg = (stand r.0 r.1).negated (ap (is_selector entries) v ∙ sel) in
          ap is_negative e ∙ opposite-negative r.0 ∙ ap not neg;
    }

-- an analysis begins at the reason of a false assumption, which is kept
pub analysis_false : (entries : List Entry) (live : LiveClauses) (marks : List Bool) (rest clause : List Literal)
    (a : Literal) (id : ℕ) → live id ≡ Some clause
    → IsImplied rest clause (opposite a) → ((l : Literal) → holds clause l ≡ true → Stands entries l) →
    AreConsistent rest
    → ((v : ℕ) → marked marks v ≡ (not (variable_of a == v) && stands_on clause v)) →
    IsAnalysis entries live rest (a ∷ []) marks (id ∷ [])
analysis_false entries live marks rest clause a id is implied stand consistent marks_are =
    let free_a : IsFree rest a = (ap (holds rest) (sym (opposite-opposite a)) ∙ implied.free.1, implied.free.0) in
    let on : (l : Literal) → holds clause l ≡ true → (holds (a ∷ []) (opposite l) ≡ true) ⊎
    ((holds rest (opposite l) ≡ true) × (marked marks (variable_of l) ≡ true)) = λ l m.
    elim (cases_eq (variable_of l) (variable_of a)) [
      | inl v ↦ elim (one_variable l a v) [
        | inl e ↦
            let n : l ≢ opposite a = λ f. opposite-other a (sym e ∙ f) in
            absurd (false≢true (sym free_a.1 ∙ ap (λ x. holds rest (opposite x)) (sym e) ∙ implied.others l m n))
        | inr e ↦ inl (ap (λ x. holds (a ∷ []) (opposite x)) e ∙ ap (holds (a ∷ [])) (opposite-opposite a)
            ∙ holds_here a [])
      ]
      | inr n ↦
          let h = implied.others l m (λ e. n (ap variable_of e ∙ opposite_variable a)) in
          inr (
            h,
            marks_are (variable_of l) ∙ ap (λ b. not b && stands_on clause (variable_of l))
                (ne_eqb (variable_of a) (variable_of l) (λ e. n (sym e)))
                ∙ any_one (λ k. variable_of k == variable_of l) clause l m
                (eq-eqb (variable_of l) (variable_of l) refl),
          )
    ] in
    record {
      leads = leads_first live marks rest (a ∷ []) clause id is on;
      tied = λ h d l has at m sel. elim (contains_cases id [] h has) [
        | inl e ↦
            let same : Some clause ≡ Some d = sym is ∙ ap live (sym e) ∙ at in
            let c : clause ≡ d = cc in
            on l (ap (λ x. holds x l) c ∙ m)
        | inr none ↦ absurd (no_element h none)
      ];
      ids = λ h has. elim (contains_cases id [] h has) [
        | inl e ↦ ap is_some (ap live e ∙ is)
        | inr none ↦ absurd (no_element h none)
      ];
      gone = λ l k. elim (holds_cases a [] l k) [
        | inl e ↦ (
          subst (IsFree rest) (sym e) free_a,
          false_from_ne_true (holds (a ∷ []) (opposite l)) (λ h. elim (holds_cases a [] (opposite l) h) [
            | inl f ↦ opposite-other l (e ∙ sym f)
            | inr none ↦ false≢true none
          ]),
        )
        | inr none ↦ absurd (false≢true none)
      ];
      plain = λ t ht m sel.
          let p = and_parts (not (variable_of a == variable_of t)) (stands_on clause (variable_of t))
          (sym (marks_are (variable_of t)) ∙ m) in
          let r = any_gives (λ k. variable_of k == variable_of t) clause p.1 in
          let v : variable_of r.0 ≡ variable_of t = eqb-true (variable_of r.0) (variable_of t) r.2 in
          elim (on r.0 r.1) [
            | inl k ↦ elim (holds_cases a [] (opposite r.0) k) [
              | inl e ↦
                  let w : variable_of a ≡ variable_of t = ap variable_of (sym e) ∙ opposite_variable r.0 ∙ v in
                  absurd (false≢true (sym (ap not (eq-eqb (variable_of a) (variable_of t) w)) ∙ p.0))
              | inr none ↦ absurd (false≢true none)
            ]
            | inr h ↦
                let e = negation_of rest t r.0 consistent ht h.0 v in
                let neg = (stand r.0 r.1).negated (ap (is_selector entries) v ∙ sel) in
                ap is_negative e ∙ opposite-negative r.0 ∙ ap not neg
          ];
    }
