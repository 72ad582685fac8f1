-- A literal of an XOR line is a step of the machine.
use Rattle.std.proofs.Common.{◌≡◌, ◌≢◌, ℕ, ◌≤◌, ◌==◌, Bool, true, false, cond, List, [], ◌∷◌, ◌++◌, None, Result, Ok, Err, refl, sym, ◌∙◌, ap, subst, arith, length-append}
use Rattle.std.specs.List.{list_any}
use Rattle.std.specs.Result.{OnOk}
use Rattle.std.proofs.lemmas.Bool.{ne_eqb}
use Rattle.std.proofs.lemmas.List.Elements.{All-push}
use Rattle.dq_lits.specs.Literal.{Literal, variable_of}
use Rattle.dq_lits.specs.declared.memory.Memory.{Memory}
use Rattle.dqdimacs_reader.specs.Building.{add_literal, add_xor}
use Rattle.dqdimacs_reader.specs.Machine.{Reading, at_part, in_xor, with_constraint, check_xor_end, check_xor_literal, xor_literal_or_end, stands_on}
use Rattle.dqdimacs_reader.specs.MachineState.{state_at, literal_on, IsReaderStateAt, IsClause, IsXorLine}
use Rattle.dqdimacs_reader.specs.declared.machine.Stage.{Stage}
use Rattle.dqdimacs_reader.specs.declared.machine.Stage.TheVariants.{Xor}
use Rattle.dqdimacs_reader.proofs.XorLines.{Goes, goes, added_behind, stays_apart}

pub stands : (negated : Bool) (v : ℕ) → variable_of (literal_on negated v) ≡ v
stands true v = refl
stands false v = refl

-- what the line's next literal gives
record Grown (r : Reading) (ls : List Literal) (l : Literal) : Type 0 where
  added : add_literal ls l ≡ ls ++ l ∷ []
  clause : IsClause r (ls ++ l ∷ [])
  line : IsXorLine (ls ++ l ∷ [])

grown : (r : Reading) (ls : List Literal) (v : ℕ) (l : Literal) → variable_of l ≡ v → Goes r ls v → IsClause r ls →
    IsXorLine ls → Grown r ls l
grown r ls v l on g is line =
    let none = subst (λ w. list_any (stands_on w) ls ≡ false) (sym on) g.none in
    record {
      added = added_behind ls l none;
      clause = record {
        due = is.due;
        in_range = All-push (λ k. variable_of k ≤ r.formula.variables) ls l is.in_range
            (omega (arith, on, g.in_range));
      };
      line = record {
        few = omega (arith, g.room, length-append ls (l ∷ []));
        apart =
            stays_apart ls l line.apart none;
      };
    }

passes : (r : Reading) (ls : List Literal) (v : ℕ) → (v == 0) ≡ false →
    cond (v == 0) (check_xor_end r ls) (check_xor_literal r ls v) ≡ None → check_xor_literal r ls v ≡ None
passes r ls v more passed = ap (λ b. cond b (check_xor_end r ls) (check_xor_literal r ls v)) (sym more) ∙ passed

module _ (s : Stage) (r : Reading) (y : ℕ) (xs : List ℕ) (ls new : List Literal) (v : ℕ) (k l : Literal) (same : k ≡ l)
    (at : s ≡ Xor) (on : variable_of l ≡ v) (other : v ≢ 0) (passed : cond (v == 0) (check_xor_end r ls)
    (check_xor_literal r ls v) ≡ None) (ready : IsReaderStateAt s r y xs ls) where
  more : (v == 0) ≡ false
  more = ne_eqb v 0 other

  here : IsReaderStateAt Xor r y xs ls
  here = subst (λ t. IsReaderStateAt t r y xs ls) at ready

  step : Grown r ls l
  step = grown r ls v l on (goes r ls v (passes r ls v more passed)) here.0 here.1

  pub xor_state : (res : Result (Unit {0}) Memory) → OnOk res (new ≡ add_literal ls k) →
      OnOk res (state_at s r y xs new ≡ xor_literal_or_end r ls v l)
  xor_state (Ok u) added =
      ap (λ t. state_at t r y xs new) at
      ∙ ap (in_xor r) (added ∙ ap (add_literal ls) same ∙ step.added)
      ∙ ap (λ b. cond b (at_part (with_constraint r (add_xor r.formula ls))) (in_xor r (ls ++ l ∷ []))) (sym more)
  xor_state (Err e) added = tt

  pub xor_ready : (res : Result (Unit {0}) Memory) → OnOk res (new ≡ add_literal ls k) →
      OnOk res (IsReaderStateAt s r y xs new)
  xor_ready (Ok u) added =
      subst (λ t. IsReaderStateAt t r y xs new) (sym at)
      (subst (λ ms. IsReaderStateAt Xor r y xs ms) (sym (added ∙ ap (add_literal ls) same ∙ step.added))
      (step.clause, step.line))
  xor_ready (Err e) added = tt
