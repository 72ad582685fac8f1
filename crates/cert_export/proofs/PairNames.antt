-- Pairs have names of their own.
use Rattle.std.proofs.Common.{◌≡◌, ℕ, zero, suc, ◌+◌, ◌-◌, ◌*◌, ◌≤◌, Bool, true, List, [], map, get_or, slice_get, Option, None, Some, sym, ◌∙◌, ap, arith}
use Rattle.std.specs.List.{Contains, list_any, position_or_len}
use Rattle.std.proofs.lemmas.Bool.{and_parts, eqb-true}
use Rattle.std.proofs.lemmas.List.Elements.{All-contains, Contains-append_right}
use Rattle.list_laws.proofs.Folds.{first_holds}
use Rattle.list_laws.proofs.Members.{contains_map}
use Rattle.list_laws.proofs.Numbers.{pair_row}
use Rattle.dq_lits.specs.Formula.{Existential, Dqbf, declared, existential_of, IsWellFormed}
use Rattle.dq_lits.specs.Expansion.{agree_on, pair_number, row_assignment}
use Rattle.hint_log.specs.Entries.{name_of, Entry}
use Rattle.hint_log.specs.declared.names.Name.{Name}
use Rattle.hint_log.specs.declared.names.Name.TheVariants.{Pair}
use Rattle.hint_log.specs.Growth.{Each}
use Rattle.hint_log.specs.Naming.{numbered_from_one, rows_of}
use Rattle.cert_export.specs.Renaming.{IsInjective}
use Rattle.cert_export.specs.Expansion.{rows_among, pair_of, pair_renaming}
use Rattle.hint_log.specs.Conditions.{MayFollow}
use Rattle.hint_log.proofs.Lawful.{names_are_unique_lem}
use Rattle.log_laws.proofs.Found.{variable}
use Rattle.dq_lits.specs.Henkin.{restriction, same_bits}
use Rattle.dq_lits.proofs.Choices.{same_bits-sound}
use Rattle.dq_lits.proofs.FormulaVariables.{find_sound}

pub record IsPair (f : Dqbf) (rows kept : List (List Bool)) (o : Option Name) (x : ℕ) : Type 0 where
  pub k : ℕ
  pub y : ℕ
  pub row : List Bool
  pub existential : Existential
  pub named : o ≡ Some (Pair k y)
  pub row_is : numbered_from_one rows k ≡ Some row
  pub own : existential_of f y ≡ Some existential
  pub place : position_or_len (agree_on f existential row) rows + 1 ≡ k
  pub there : list_any (agree_on f existential row) kept ≡ true
  pub is : x ≡ pair_number f kept row existential

pub pair_parts : (f : Dqbf) (rows kept : List (List Bool)) (o : Option Name) (x : ℕ) → pair_of f rows kept o ≡ Some x →
    IsPair f rows kept o x
pair_parts f rows kept None x h = cc
pair_parts f rows kept (Some (Pair k y)) x h = search (arith, and_parts, eqb-true)
pair_parts f rows kept (Some _) x h = cc

pub in_range : (f : Dqbf) → IsWellFormed f → (y : Existential) → Contains f.existentials y →
    (1 ≤ y.variable) × (y.variable ≤ f.variables)
in_range f well y inside = All-contains (λ v. (1 ≤ v) × (v ≤ f.variables)) (declared f) y.variable well.prefix.in_range
    (Contains-append_right f.universals (map variable f.existentials) y.variable
    (contains_map variable f.existentials y inside))

-- a pair's number gives it back
pair_back : (vars a b y z : ℕ) → 1 ≤ y → y ≤ vars → 1 ≤ z → z ≤ vars → a * vars + y ≡ b * vars + z → (a ≡ b) × (y ≡ z)
pair_back vars a b y z y1 y2 z1 z2 h = search (arith, (pair_row a vars y y1 y2), (pair_row b vars z z1 z2))

-- rows that agree with one row agree with one another
module _ (f : Dqbf) (y : Existential) where
  abbrev seen : List Bool → List Bool
  seen row = restriction y (row_assignment f row)

  pub alike : (row other : List Bool) → agree_on f y row other ≡ true → seen row ≡ seen other
  alike row other h = same_bits-sound (seen row) (seen other) h

  pub same_places : (rows : List (List Bool)) (row other : List Bool) → seen row ≡ seen other →
      position_or_len (agree_on f y row) rows ≡ position_or_len (agree_on f y other) rows
  same_places rows row other h = ap (λ bits. position_or_len (λ q. same_bits bits (seen q)) rows) h

  pub same_numbers : (rows : List (List Bool)) (row other : List Bool) → seen row ≡ seen other →
      pair_number f rows row y ≡ pair_number f rows other y
  same_numbers rows row other h = ap (λ n. n * f.variables + y.variable) (same_places rows row other h)

pub pairs_are_injective : (f : Dqbf) → IsWellFormed f → (all : List Entry) (rounds : List ℕ) → Each MayFollow all →
    IsInjective (pair_renaming f all rounds)
pairs_are_injective f well all rounds lawful v w x h k =
    let rows = rows_of all in
    let kept = rows_among all rounds in
    let p = pair_parts f rows kept (name_of all v) x h in
    let q = pair_parts f rows kept (name_of all w) x k in
    let py = find_sound p.y f.existentials p.existential p.own in
    let qy = find_sound q.y f.existentials q.existential q.own in
    let pr = in_range f well p.existential py.0 in
    let qr = in_range f well q.existential qy.0 in
    let a = position_or_len (agree_on f p.existential p.row) kept in
    let b = position_or_len (agree_on f q.existential q.row) kept in
    let back = pair_back f.variables a b p.existential.variable q.existential.variable pr.0 pr.1 qr.0 qr.1
    (sym p.is ∙ q.is) in
    let ys : p.y ≡ q.y = sym py.1 ∙ back.1 ∙ qy.1 in
    let both : Some p.existential ≡ Some q.existential = sym p.own ∙ ap (existential_of f) ys ∙ q.own in
    let e : p.existential ≡ q.existential = cc in
    let first : agree_on f p.existential p.row (get_or kept a []) ≡ true =
    first_holds (agree_on f p.existential p.row) kept p.there in
    let second : agree_on f p.existential q.row (get_or kept a []) ≡ true =
    ap (λ n. agree_on f p.existential q.row (get_or kept n [])) back.0 ∙ ap
    (λ z. agree_on f z q.row (get_or kept b [])) e ∙ first_holds (agree_on f q.existential q.row) kept q.there in
    let same = alike f p.existential p.row (get_or kept a []) first ∙ sym
    (alike f p.existential q.row (get_or kept a []) second) in
    let ks : p.k ≡ q.k = sym p.place ∙ ap (λ n. n + 1) (same_places f p.existential rows p.row q.row same) ∙ ap
    (λ z. position_or_len (agree_on f z q.row) rows + 1) e ∙ q.place in
    let named : Pair p.k p.y ≡ Pair q.k q.y = ap (λ n. Pair n p.y) ks ∙ ap (Pair q.k) ys in
    names_are_unique_lem all v w (Pair p.k p.y) lawful p.named (q.named ∙ ap Some (sym named))

pub from_one : {X : Type 0} (xs : List X) (j : ℕ) (x : X) → numbered_from_one xs j ≡ Some x →
    (1 ≤ j) × (slice_get xs (j - 1) ≡ Some x)
from_one xs zero x h = cc
from_one xs (suc j) x h = let e : suc j - 1 ≡ j = omega arith in (omega arith, ap (slice_get xs) e ∙ h)
