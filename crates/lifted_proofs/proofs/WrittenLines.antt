-- Lines that are written one after another.
use Rattle.std.proofs.Common.{◌≡◌, ℕ, ◌+◌, ◌*◌, ◌<◌, ◌==◌, nat_lt, Bool, true, false, not, List, [], ◌∷◌, ◌++◌, map, length, get_or, Some, refl, sym, ◌∙◌, ap, subst, arith}
use Rattle.std.specs.List.{All}
use Rattle.std.proofs.lemmas.Bool.{and_parts, true≢false, cond-false, ne_eqb, eqb-true, lt-ltb}
use Rattle.std.proofs.lemmas.Option.{slice_get_within, get_or_from_slice_get}
use Rattle.std.proofs.lemmas.List.Elements.{All-map, All-head, All-tail, All-filter, filter_passes}
use Rattle.list_laws.proofs.Numbers.{pair_row}
use Rattle.dq_lits.specs.Literal.{Literal, variable_of}
use Rattle.dq_lits.specs.Formula.{Dqbf, is_universal, IsWellFormed}
use Rattle.dq_lits.specs.Derivation.{LiveClauses, with_clause, IsDerived, ProofStep}
use Rattle.dq_lits.specs.Expansion.{instance_at}
use Rattle.dq_lits.proofs.SignedLiterals.{variable_of-on}
use Rattle.dq_prep.specs.declared.traces.Taken.{Taken}
use Rattle.dq_prep.specs.Roles.{open_literals, is_open}
use Rattle.dq_prep.proofs.LiteralRoles.{find-Some}
use Rattle.dq_prep.proofs.WellFormed.{IsBound}
use Rattle.cert_text.specs.Grammar.{AreSteps, IsStep}
use Rattle.cert_text.specs.Pairs.{is_pair_number}
use Rattle.refutation_checker.specs.Pairs.{existential_part}
use Rattle.refutation_checker.specs.Refutation.{normal_literal}
use Rattle.refutation_checker.specs.Rows.{row_of}
use Rattle.refutation_checker.proofs.InstanceIds.{own_id}
use Rattle.refutation_checker.proofs.PairNames.{own_number}
use Rattle.refutation_checker.proofs.PairNumbers.{pair_number_is}
use Rattle.lifted_proofs.specs.UnitTables.{first_literals}
use Rattle.lifted_proofs.specs.Goals.{clause_at, IsGoal, Settled}
use Rattle.lifted_proofs.specs.Lines.{goal_line, paired, numbered_literal, written_literals, behind_steps, AreDerived, normal_steps}
use Rattle.lifted_proofs.specs.declared.goals.Goal.{Goal}
use Rattle.lifted_proofs.specs.declared.goals.Reason.{Reason}
use Rattle.lifted_proofs.proofs.PairedLiterals.{left-paired, clause-paired, existential-or-universal, bound-range}

-- one more step
pub behind-more : (live : LiveClauses) (ss : List ProofStep) (s : ProofStep)
    → behind_steps live (ss ++ s ∷ []) ≡ with_clause (behind_steps live ss) s.id s.literals
behind-more live [] s = refl
behind-more live (t ∷ ss) s = behind-more (with_clause live t.id t.literals) ss s

pub derived-more : (live : LiveClauses) (ss : List ProofStep) (s : ProofStep) → AreDerived live ss
    → IsDerived (behind_steps live ss) s.literals s.hints → AreDerived live (ss ++ s ∷ [])
derived-more live [] s all it = (it, tt)
derived-more live (t ∷ ss) s all it =
    (all.0, derived-more (with_clause live t.id t.literals) ss s all.1 it)

pub steps-more : (p : ℕ → Bool) (n : ℕ) (ss : List ProofStep) (s : ProofStep) → AreSteps p n ss
    → IsStep p (n + length ss) s → AreSteps p n (ss ++ s ∷ [])
steps-more p n [] s all it = (subst (λ m. IsStep p m s) (omega arith) it, tt)
steps-more p n (t ∷ ss) s all it = search (arith, (steps-more p (n + 1) ss s all.1))

pub steps-append : (p : ℕ → Bool) (n : ℕ) (xs ys : List ProofStep) → AreSteps p n xs → AreSteps p (n + length xs) ys
    → AreSteps p n (xs ++ ys)
steps-append p n [] ys a b = subst (λ m. AreSteps p m ys) (omega arith) b
steps-append p n (x ∷ xs) ys a b = search (arith, (steps-append p (n + 1) xs ys a.1))

-- ids below the steps' have the clauses that they had
pub behind-before : (f : Dqbf) (rows : List (List Bool)) (live : LiveClauses) (p : ℕ → Bool) (n : ℕ)
    (ss : List ProofStep) (id : ℕ) → AreSteps p n ss → id < n
    → behind_steps live (normal_steps f rows ss) id ≡ live id
behind-before f rows live p n [] id all below = refl
behind-before f rows live p n (s ∷ ss) id all below =
    behind-before f rows (with_clause live s.id (map (normal_literal f rows) s.literals)) p (n + 1) ss id all.1
    (omega (arith, below))
    ∙ cond-false (id == s.id) (Some (map (normal_literal f rows) s.literals)) (live id)
    (ne_eqb id s.id (λ same. absurd (omega (arith, same, below, all.0.numbered))))

-- a literal by a row's own number stands for its pair with the row
normal-numbered : (f : Dqbf) (rows : List (List Bool)) (row : ℕ) (l : Literal) → IsWellFormed f → row < length rows
    → IsBound f l → is_universal f (variable_of l) ≡ false
    → normal_literal f rows (numbered_literal f row l) ≡ paired f rows (row_of rows row) l
normal-numbered f rows row l well within bound existential =
    search (
      arith,
      (bound-range f),
      (existential-or-universal f l well bound),
      variable_of-on,
      true≢false,
      eqb-true,
      find-Some,
      (own_number f rows row),
      (pair_number_is f rows),
    )

pub numbered-is-pair : (f : Dqbf) (rows row : ℕ) (l : Literal) → IsWellFormed f → row < rows → IsBound f l
    → is_universal f (variable_of l) ≡ false → is_pair_number f rows (row * f.variables + variable_of l) ≡ true
numbered-is-pair f rows row l well within bound existential =
    search (
      arith,
      (bound-range f),
      (existential-or-universal f l well bound),
      (ne_eqb f.variables 0),
      ne_eqb,
      nat_lt,
      (pair_row row f.variables),
      (lt-ltb row rows within),
    )

bound-clause : (f : Dqbf) (place : ℕ) → IsWellFormed f → place < length f.matrix → All (IsBound f) (clause_at f place)
bound-clause f place well within = well.bound place [] within

open-at : (f : Dqbf) (trues clause : List Literal) (k : ℕ) (d : Literal) → All (IsBound f) clause
    → k < length (open_literals f trues clause)
    → IsBound f (get_or (open_literals f trues clause) k d)
    × (is_universal f (variable_of (get_or (open_literals f trues clause) k d)) ≡ false)
open-at f trues clause k d bound below =
    let all : All (λ l. IsBound f l × (is_open f trues l ≡ true)) (open_literals f trues clause) =
    both clause bound in
    let it = all k d below in (
      it.0,
      not-open (is_universal f (variable_of (get_or (open_literals f trues clause) k d)))
          (and_parts (not (is_universal f (variable_of (get_or (open_literals f trues clause) k d)))) _ it.1).0,
    )
  where
    not-open : (b : Bool) → not b ≡ true → b ≡ false
    not-open true h = sym h
    not-open false h = refl

    both : (clause : List Literal) → All (IsBound f) clause
        → All (λ l. IsBound f l × (is_open f trues l ≡ true)) (open_literals f trues clause)
    both clause bound i e inside = (
      All-filter (is_open f trues) (IsBound f) clause bound i e inside,
      filter_passes (is_open f trues) clause i e inside,
    )

map-twice : {X Y Z : Type 0} (p : Y → Z) (q : X → Y) (r : X → Z) (xs : List X) → All (λ x. p (q x) ≡ r x) xs
    → map p (map q xs) ≡ map r xs
map-twice p q r [] same = refl
map-twice p q r (x ∷ xs) same = search (arith, All-head, (map-twice p q r xs), All-tail)

-- what is written for a goal stands for its line
pub written-line : (f : Dqbf) (units : List Taken) (rows : List (List Bool)) (g : Goal) → IsWellFormed f
    → IsGoal f units rows g → map (normal_literal f rows) (written_literals f units g) ≡ goal_line f units rows g
written-line f units rows g well goal =
    search (
      arith,
      (bound-clause f g.source.place well goal.source.place),
      (slice_get_within rows g.row goal.row goal.row_at),
      map-twice,
      (open-at f),
      (normal-numbered f rows g.row),
      (left-paired f rows),
    )

pub written-pairs : (f : Dqbf) (units : List Taken) (rows : List (List Bool)) (g : Goal) → IsWellFormed f
    → IsGoal f units rows g
    → All (λ l. is_pair_number f (length rows) (variable_of l) ≡ true) (written_literals f units g)
written-pairs f units rows g well goal =
    let trues = first_literals units g.source.taken in
    let clause = clause_at f g.source.place in
    let bound = bound-clause f g.source.place well goal.source.place in
    let within = slice_get_within rows g.row goal.row goal.row_at in
    All-map (λ l. is_pair_number f (length rows) (variable_of l) ≡ true) (numbered_literal f g.row)
    (open_literals f trues clause) (λ k d below.
    let l = get_or (open_literals f trues clause) k d in
    let it = open-at f trues clause k d bound below in
    ap (is_pair_number f (length rows)) (variable_of-on (g.row * f.variables + variable_of l) l)
    ∙ numbered-is-pair f (length rows) g.row l well within it.0 it.1)

-- the instance of a goal's clause under its lowered row
pub instance-low : (f : Dqbf) (units : List Taken) (rows : List (List Bool)) (goals : List Goal) (g : Goal) (r : Reason)
    (s : Settled f units rows goals g r)
    → instance_at f rows (r.lowered * length f.matrix + g.source.place + 1)
    ≡ Some (map (paired f rows s.reason.lowered.low) (existential_part f (clause_at f g.source.place)))
instance-low f units rows goals g r s = search (arith, slice_get_within, own_id, get_or_from_slice_get, clause-paired)

-- an instance's id is before those of lines
pub instance-before : (k p c n : ℕ) → k < n → p < c → k * c + p + 1 < n * c + 1
instance-before k p c n k-in p-in = search arith
