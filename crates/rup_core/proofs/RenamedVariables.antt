-- What is derived doesn't depend on the numbers of the variables.
use Rattle.std.proofs.Common.{◌≡◌, ℕ, ◌+◌, ◌==◌, Bool, true, false, not, cond, ◌||◌, ◌&&◌, List, [], ◌∷◌, map, Option, None, Some, refl, sym, ◌∙◌, ap, ap₂}
use Rattle.std.specs.List.{AllByRecursion, list_any, list_all, filter}
use Rattle.std.specs.Option.{option_map}
use Rattle.dq_lits.specs.Literal.{Literal, positive, negative, variable_of, opposite, on_variable, same_literal}
use Rattle.dq_lits.specs.Derivation.{LiveClauses, with_clause, ClauseStatus, falsified, unit, stuck, holds, status_by, status_of, fault_by, hint_fault, is_tautology, line_fault}
use Rattle.rup_core.specs.Items.{is_among, without_clauses}
use Rattle.rup_core.specs.Renaming.{KeepsApart, AreKnown as AreKnownLiterals, IsKnownClause as IsKnownHint, renamed, AreRenamed}
use Rattle.list_laws.proofs.Truths.{same_test}

module _ (number : ℕ → ℕ) (told : ℕ → Bool) (apart : KeepsApart number told) where
  abbrev IsKnown : Literal → Type 0
  IsKnown l = told (variable_of l) ≡ true

  abbrev AreKnown : List Literal → Type 0
  AreKnown literals = AreKnownLiterals told literals

  abbrev IsKnownClause : Option (List Literal) → Type 0
  IsKnownClause clause = IsKnownHint told clause

  abbrev IsKnownStatus : ClauseStatus → Type 0
  IsKnownStatus falsified = Unit {0}
  IsKnownStatus (unit l) = IsKnown l
  IsKnownStatus stuck = Unit {0}

  abbrev name : Literal → Literal
  name l = on_variable (number (variable_of l)) l

  same-renamed : (k l : Literal) → IsKnown k → IsKnown l → same_literal (name k) (name l) ≡ same_literal k l
  same-renamed (positive v) (positive w) kv kw = same_test (number v) (number w) v w (ap number) (apart v w kv kw)
  same-renamed (positive v) (negative w) kv kw = refl
  same-renamed (negative v) (positive w) kv kw = refl
  same-renamed (negative v) (negative w) kv kw = same_test (number v) (number w) v w (ap number) (apart v w kv kw)

  holds-renamed : (trues : List Literal) (l : Literal) → AreKnown trues → IsKnown l →
      holds (map name trues) (name l) ≡ holds trues l
  holds-renamed [] l known here = refl
  holds-renamed (t ∷ trues) l known here =
      ap (λ b. b || holds (map name trues) (name l)) (same-renamed l t here known.0)
      ∙ ap (λ b. same_literal l t || b) (holds-renamed trues l known.1 here)

  opposite-renamed : (l : Literal) → name (opposite l) ≡ opposite (name l)
  opposite-renamed (positive v) = refl
  opposite-renamed (negative v) = refl

  opposite-known : (l : Literal) → IsKnown l → IsKnown (opposite l)
  opposite-known (positive v) known = known
  opposite-known (negative v) known = known

  holds-opposite : (trues : List Literal) (l : Literal) → AreKnown trues → IsKnown l
      → holds (map name trues) (opposite (name l)) ≡ holds trues (opposite l)
  holds-opposite trues l known here =
      ap (holds (map name trues)) (sym (opposite-renamed l)) ∙ holds-renamed trues (opposite l) known
      (opposite-known l here)

  -- the literals that aren't false
  abbrev left : List Literal → List Literal → List Literal
  left trues clause = filter (λ l. not (holds trues (opposite l))) clause

  left-known : (trues clause : List Literal) → AreKnown clause → AreKnown (left trues clause)
  left-known trues [] known = tt
  left-known trues (l ∷ clause) known = by (not (holds trues (opposite l))) (left-known trues clause known.1)
    where
      by : (b : Bool) → AreKnown (left trues clause) → AreKnown (cond b (l ∷ left trues clause) (left trues clause))
      by true rest = (known.0, rest)
      by false rest = rest

  left-renamed : (trues clause : List Literal) → AreKnown trues → AreKnown clause
      → left (map name trues) (map name clause) ≡ map name (left trues clause)
  left-renamed trues [] known here = refl
  left-renamed trues (l ∷ clause) known here =
      ap (λ b. cond (not b) (name l ∷ left (map name trues) (map name clause))
      (left (map name trues) (map name clause))) (holds-opposite trues l known here.0)
      ∙ ap (λ rest. cond (not (holds trues (opposite l))) (name l ∷ rest) rest) (left-renamed trues clause known here.1)
      ∙ by (not (holds trues (opposite l)))
    where
      by : (b : Bool) → cond b (name l ∷ map name (left trues clause)) (map name (left trues clause)) ≡ map name
          (cond b (l ∷ left trues clause) (left trues clause))
      by true = refl
      by false = refl

  all-renamed : (l : Literal) (rest : List Literal) → IsKnown l → AreKnown rest
      → list_all (same_literal (name l)) (map name rest) ≡ list_all (same_literal l) rest
  all-renamed l [] here known = refl
  all-renamed l (k ∷ rest) here known =
      ap (λ b. b && list_all (same_literal (name l)) (map name rest)) (same-renamed l k here known.0)
      ∙ ap (λ b. same_literal l k && b) (all-renamed l rest here known.1)

  abbrev name_status : ClauseStatus → ClauseStatus
  name_status falsified = falsified
  name_status (unit l) = unit (name l)
  name_status stuck = stuck

  record IsRenamedStatus (status renamed : ClauseStatus) : Type 0 where
    is : renamed ≡ name_status status
    is_known : IsKnownStatus status

  status_by-renamed : (trues clause : List Literal) → AreKnown trues → AreKnown clause
      → IsRenamedStatus (status_by trues clause) (status_by (map name trues) (map name clause))
  status_by-renamed trues [] known here = record { is = refl; is_known = tt }
  status_by-renamed trues (l ∷ rest) known here = record {
    is = ap (λ b. cond (b && not (holds (map name trues) (name l))) (unit (name l)) stuck)
        (all-renamed l rest here.0 here.1)
        ∙ ap (λ b. cond (list_all (same_literal l) rest && not b) (unit (name l)) stuck)
        (holds-renamed trues l known here.0)
        ∙ by (list_all (same_literal l) rest && not (holds trues l));
    is_known = kept (list_all (same_literal l) rest && not (holds trues l));
  }
    where
      by : (b : Bool) → cond b (unit (name l)) stuck ≡ name_status (cond b (unit l) stuck)
      by true = refl
      by false = refl

      kept : (b : Bool) → IsKnownStatus (cond b (unit l) stuck)
      kept true = here.0
      kept false = tt

  status_of-renamed : (trues : List Literal) (clause : Option (List Literal)) → AreKnown trues → IsKnownClause clause
      → IsRenamedStatus (status_of trues clause) (status_of (map name trues) (option_map (map name) clause))
  status_of-renamed trues None known here = record { is = refl; is_known = tt }
  status_of-renamed trues (Some clause) known here =
      let r = status_by-renamed trues (left trues clause) known (left-known trues clause here) in record {
        is = ap (status_by (map name trues)) (left-renamed trues clause known here) ∙ r.is;
        is_known = r.is_known;
      }

  hint_fault-renamed : (live other : LiveClauses) → AreRenamed number live other →
      (hints : List ℕ) (trues : List Literal) (place : ℕ) → AreKnown trues
      → AllByRecursion (λ id. IsKnownClause (live id)) hints
      → hint_fault other (map name trues) place hints ≡ hint_fault live trues place hints
  hint_fault-renamed live other same [] trues place known hinted = refl
  hint_fault-renamed live other same (hint ∷ hints) trues place known hinted =
      let r = status_of-renamed trues (live hint) known hinted.0 in
      ap (λ s. fault_by s place hints (λ l. hint_fault other (l ∷ map name trues) (place + 1) hints))
      (ap (status_of (map name trues)) (same hint) ∙ r.is)
      ∙ by (status_of trues (live hint)) r.is_known hints (λ ts k. hint_fault-renamed live other same hints ts
      (place + 1) k hinted.1)
    where
      by : (s : ClauseStatus) → IsKnownStatus s → (hs : List ℕ)
          → ((ts : List Literal) → AreKnown ts → hint_fault other (map name ts) (place + 1) hs ≡ hint_fault live ts
          (place + 1) hs)
          → fault_by (name_status s) place hs (λ l. hint_fault other (l ∷ map name trues) (place + 1) hs)
          ≡ fault_by s place hs (λ l. hint_fault live (l ∷ trues) (place + 1) hs)
      by falsified k [] next = refl
      by falsified k (_ ∷ _) next = refl
      by (unit l) k hs next = next (l ∷ trues) (k, known)
      by stuck k hs next = refl

  tautology-renamed : (clause literals : List Literal) → AreKnown clause → AreKnown literals
      → list_any (λ l. holds (map name clause) (opposite l)) (map name literals) ≡ list_any
      (λ l. holds clause (opposite l)) literals
  tautology-renamed clause [] known here = refl
  tautology-renamed clause (l ∷ literals) known here =
      ap (λ b. b || list_any (λ k. holds (map name clause) (opposite k)) (map name literals))
      (holds-opposite clause l known here.0)
      ∙ ap (λ b. holds clause (opposite l) || b) (tautology-renamed clause literals known here.1)

  opposites-renamed : (literals : List Literal) → map opposite (map name literals) ≡ map name (map opposite literals)
  opposites-renamed [] = refl
  opposites-renamed (l ∷ literals) = ap (λ k. k ∷ map opposite (map name literals)) (sym (opposite-renamed l)) ∙ ap
      (λ ls. name (opposite l) ∷ ls) (opposites-renamed literals)

  opposites-known : (literals : List Literal) → AreKnown literals → AreKnown (map opposite literals)
  opposites-known [] known = tt
  opposites-known (l ∷ literals) known = (opposite-known l known.0, opposites-known literals known.1)

  -- a line is judged the same under the names
  pub line_fault-renamed : (live other : LiveClauses) → AreRenamed number live other →
      (literals : List Literal) (hints : List ℕ) → AreKnown literals
      → AllByRecursion (λ id. IsKnownClause (live id)) hints
      → line_fault other (map name literals) hints ≡ line_fault live literals hints
  line_fault-renamed live other same literals hints known hinted =
      ap (λ b. cond b (Some 0) (hint_fault other (map opposite (map name literals)) 1 hints))
      (tautology-renamed literals literals known known)
      ∙ ap (λ ls. cond (is_tautology literals) (Some 0) (hint_fault other ls 1 hints)) (opposites-renamed literals)
      ∙ ap (λ (o : Option ℕ). cond (is_tautology literals) (Some 0) o)
      (hint_fault-renamed live other same hints (map opposite literals) 1 (opposites-known literals known) hinted)

-- so are they with one more
pub with-renamed : (number : ℕ → ℕ) (live other : LiveClauses) → AreRenamed number live other →
    (id : ℕ) (clause : List Literal)
    → AreRenamed number (with_clause live id clause) (with_clause other id (renamed number clause))
with-renamed number live other same id clause i =
    ap (λ (o : Option (List Literal)). cond (i == id) (Some (renamed number clause)) o) (same i) ∙ by (i == id)
  where
    by : (b : Bool) → cond b (Some (renamed number clause)) (option_map (renamed number) (live i)) ≡ option_map
        (renamed number) (cond b (Some clause) (live i))
    by true = refl
    by false = refl

-- the clauses without some ids are renamed too
pub without-renamed : (number : ℕ → ℕ) (live other : LiveClauses) → AreRenamed number live other → (ids : List ℕ)
    → AreRenamed number (without_clauses live ids) (without_clauses other ids)
without-renamed number live other same ids i =
    ap (λ (o : Option (List Literal)). cond (is_among ids i) None o) (same i) ∙ by (is_among ids i)
  where
    by : (b : Bool) → cond b None (option_map (renamed number) (live i)) ≡ option_map (renamed number)
        (cond b None (live i))
    by true = refl
    by false = refl

-- names that stay: a clause of known variables has the same new numbers where more variables have one
pub stays_named : (number later : ℕ → ℕ) (told : ℕ → Bool) → ((v : ℕ) → told v ≡ true → later v ≡ number v) →
    (clause : List Literal) →
    AreKnownLiterals told clause → renamed later clause ≡ renamed number clause
stays_named number later told same [] known = refl
stays_named number later told same (l ∷ clause) known =
    ap₂ (λ k ks. k ∷ ks) (ap (λ v. on_variable v l) (same (variable_of l) known.0))
    (stays_named number later told same clause known.1)
