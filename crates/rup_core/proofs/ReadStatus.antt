-- A clause's status, as its literals are read one by one.
use Rattle.std.proofs.Common.{◌≡◌, ℕ, zero, suc, ◌+◌, ◌<◌, ◌≤◌, Bool, true, false, cond, inl, inr, List, [], ◌∷◌, ◌++◌, take, length, get_or, Option, None, Some, IfSome, refl, sym, ◌∙◌, ap, subst, arith}
use Rattle.std.specs.List.{slice_get}
use Rattle.std.proofs.lemmas.Bool.{cases_lt}
use Rattle.std.proofs.lemmas.List.{take_all, take_more}
use Rattle.std.proofs.lemmas.List.Elements.{All-get_or}
use Rattle.std.proofs.lemmas.Option.{get_or_from_slice_get, slice_get-get_or}
use Rattle.dq_lits.specs.Literal.{Literal, positive, variable_of, same_literal}
use Rattle.dq_lits.specs.Derivation.{ClauseStatus, falsified, unit, stuck, status_by, status_of}
use Rattle.dq_lits.specs.Extension.{not_false}
use Rattle.rup_core.specs.Extension.{UnitIsFree, UnitStandsWithin}
use Rattle.dq_lits.specs.Extension.{with_literal}
use Rattle.rup_core.specs.Range.{StandsWithin}
use Rattle.rup_core.specs.Reading.{clause_size, literal_at}
use Rattle.dq_lits.specs.Truth.{literal_value}
use Rattle.dq_lits.specs.declared.truth_values.TruthValue.{TruthValue}
use Rattle.dq_lits.specs.declared.truth_values.TruthValue.TheVariants.{True, False, Unassigned}
use Rattle.dq_lits.proofs.ReadStatus.{status_more}

-- the literal of a unit clause stays unassigned
free_more : (trues : List Literal) (s : ClauseStatus) (l : Literal) (t : TruthValue) → UnitIsFree trues s →
    t ≡ literal_value trues l →
    UnitIsFree trues (with_literal s l t)
free_more trues s l False free is = free
free_more trues s l True free is = tt
free_more trues falsified l Unassigned free is = sym is
free_more trues (unit k) l Unassigned free is = unit_or_stuck (same_literal k l)
  where
    unit_or_stuck : (b : Bool) → UnitIsFree trues (cond b (unit k) stuck)
    unit_or_stuck true = free
    unit_or_stuck false = tt
free_more trues stuck l Unassigned free is = tt

pub free_after : (trues : List Literal) (s s' : ClauseStatus) (l : Literal) (t : TruthValue) → UnitIsFree trues s →
    t ≡ literal_value trues l → s' ≡ with_literal s l t → UnitIsFree trues s'
free_after trues s s' l t free is more = let P : ClauseStatus → Type 0 = UnitIsFree trues in
    subst P (sym more) (free_more trues s l t free is)

-- and in range
within_more : (n : ℕ) (s : ClauseStatus) (l : Literal) (t : TruthValue) → UnitStandsWithin n s → variable_of l ≤ n →
    UnitStandsWithin n (with_literal s l t)
within_more n s l False within in_range = within
within_more n s l True within in_range = tt
within_more n falsified l Unassigned within in_range = in_range
within_more n (unit k) l Unassigned within in_range = unit_or_stuck (same_literal k l)
  where
    unit_or_stuck : (b : Bool) → UnitStandsWithin n (cond b (unit k) stuck)
    unit_or_stuck true = within
    unit_or_stuck false = tt
within_more n stuck l Unassigned within in_range = tt

pub within_after : (n : ℕ) (s s' : ClauseStatus) (l : Literal) (t : TruthValue) → UnitStandsWithin n s → variable_of l ≤ n →
    s' ≡ with_literal s l t → UnitStandsWithin n s'
within_after n s s' l t within in_range more = let P : ClauseStatus → Type 0 = UnitStandsWithin n in
    subst P (sym more) (within_more n s l t within in_range)

-- the statuses of a clause that is read from a base
read_more : (trues clause : List Literal) (l : Literal) (i : ℕ) → i < length clause → slice_get clause i ≡ Some l →
    with_literal (status_by trues (not_false trues (take i clause))) l (literal_value trues l) ≡ status_by trues
    (not_false trues (take (i + 1) clause))
read_more trues clause l i lt at =
    let read : get_or clause i l ≡ l = get_or_from_slice_get clause i l l at in
    let longer : take (i + 1) clause ≡ take i clause ++ l ∷ [] =
    take_more clause i l lt ∙ ap (λ k. take i clause ++ k ∷ []) read in
    status_more trues (take i clause) l ∙ ap (λ xs. status_by trues (not_false trues xs)) (sym longer)

-- the status of the literals before a place
abbrev pub IsStatusBefore : List Literal → Option (List Literal) → ℕ → ClauseStatus → Type 0
IsStatusBefore trues found n status = (clause : List Literal) → found ≡ Some clause →
    status ≡ status_by trues (not_false trues (take n clause))

pub status_before_more : (trues : List Literal) (found : Option (List Literal)) (i n : ℕ) (l : Literal) (s s' : ClauseStatus)
    (t : TruthValue) →
    Some n ≡ clause_size found → i < n → literal_at found i ≡ Some l → t ≡ literal_value trues l →
    IsStatusBefore trues found i s → s' ≡ with_literal s l t →
    IsStatusBefore trues found (i + 1) s'
status_before_more trues None i n l s s' t size lt at is before more clause found = cc
status_before_more trues (Some read) i n l s s' t size lt at is before more clause found =
    let long : n ≡ length read = cc in
    let same : read ≡ clause = cc in
    let P : List Literal → Type 0 = λ c. s' ≡ status_by trues (not_false trues (take (i + 1) c)) in
    subst P same (more ∙ ap (λ v. with_literal s l v) is ∙ ap (λ x. with_literal x l (literal_value trues l))
    (before read refl) ∙ read_more trues read l i (omega (arith, long)) at)

pub status_whole : (trues : List Literal) (found : Option (List Literal)) (i n : ℕ) (s : ClauseStatus) →
    Some n ≡ clause_size found → n ≤ i → IsStatusBefore trues found i s →
    s ≡ status_of trues found
status_whole trues None i n s size all before = cc
status_whole trues (Some clause) i n s size all before =
    let long : n ≡ length clause = cc in
    before clause refl ∙ ap (λ c. status_by trues (not_false trues c)) (take_all i clause (omega (arith, long)))

pub literal_in_range : (found : Option (List Literal)) (i n m : ℕ) (l : Literal) → Some n ≡ clause_size found → i < n →
    literal_at found i ≡ Some l → IfSome found (StandsWithin m) →
    variable_of l ≤ m
literal_in_range None i n m l size lt at within = cc
literal_in_range (Some clause) i n m l size lt at within =
    let long : n ≡ length clause = cc in
    let read : get_or clause i l ≡ l = get_or_from_slice_get clause i l l at in
    let P : Literal → Type 0 = λ k. variable_of k ≤ m in
    subst P read (All-get_or P clause i l (omega (arith, long)) within)

-- a clause that is stuck stays so
with_stuck : (l : Literal) (t : TruthValue) → with_literal stuck l t ≡ stuck
with_stuck l True = refl
with_stuck l False = refl
with_stuck l Unassigned = refl

stuck_stays : (trues clause : List Literal) (i j : ℕ) → status_by trues (not_false trues (take i clause)) ≡ stuck
    → status_by trues (not_false trues (take (i + j) clause)) ≡ stuck
stuck_stays trues clause i zero is_stuck = ap (λ n. status_by trues (not_false trues (take n clause))) (omega arith)
    ∙ is_stuck
stuck_stays trues clause i (suc j) is_stuck =
    let before = stuck_stays trues clause i j is_stuck in
    let on : i + suc j ≡ i + j + 1 = omega arith in
    elim (cases_lt (i + j) (length clause)) [
      | inl below ↦
          let l = get_or clause (i + j) (positive 0) in
          ap (λ n. status_by trues (not_false trues (take n clause))) on
          ∙ sym (read_more trues clause l (i + j) below (slice_get-get_or clause (i + j) (positive 0) below))
          ∙ ap (λ s. with_literal s l (literal_value trues l)) before ∙ with_stuck l (literal_value trues l)
      | inr past ↦
          ap (λ xs. status_by trues (not_false trues xs)) (take_all (i + suc j) clause (omega (arith, past)) ∙ sym
          (take_all (i + j) clause past)) ∙ before
    ]

pub status_stuck : (trues : List Literal) (found : Option (List Literal)) (i n : ℕ) (s : ClauseStatus) →
    Some n ≡ clause_size found → i ≤ n →
    IsStatusBefore trues found i s → s ≡ stuck → stuck ≡ status_of trues found
status_stuck trues None i n s size below before is_stuck = cc
status_stuck trues (Some clause) i n s size below before is_stuck =
    let whole : length clause ≤ i + length clause = omega arith in
    sym (stuck_stays trues clause i (length clause) (sym (before clause refl) ∙ is_stuck))
    ∙ ap (λ c. status_by trues (not_false trues c)) (take_all (i + length clause) clause whole)
