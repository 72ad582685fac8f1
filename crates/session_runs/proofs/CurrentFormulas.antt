-- The formula of now, where a command changes no clause in force.
use Rattle.std.proofs.Common.{◌≡◌, ℕ, zero, suc, List, [], ◌∷◌, take, length, Option, Some, None, IfSome, refl, sym, ◌∙◌, ap, arith}
use Rattle.std.proofs.lemmas.List.{length-append}
use Rattle.dq_lits.specs.Formula.{Dqbf}
use Rattle.script_text.specs.Commands.{ScriptCommand, add, pop}
use Rattle.dq_session.specs.Databases.{DatabaseState, now_of}
use Rattle.session_runs.specs.Following.{database_behind}

whole-taken : {X : Type 0} (n : ℕ) (xs : List X) → length (take n xs) ≡ length xs → take n xs ≡ xs
whole-taken zero [] same = refl
whole-taken zero (x ∷ xs) same = absurd (omega (arith, same))
whole-taken (suc n) [] same = refl
whole-taken (suc n) (x ∷ xs) same = ap (λ ys. x ∷ ys) (whole-taken n xs (omega (arith, same)))

now-stays : (b : DatabaseState) (command : ScriptCommand) → length (database_behind b command).live ≡ length b.live
    → now_of b ≡ now_of (database_behind b command)
now-stays b (add clause) same = search (arith, length-append)
now-stays b pop same = search (arith, whole-taken)
now-stays b _ same = refl

kept : (o : Option Dqbf) (f g : Dqbf) → f ≡ g → IfSome o (λ h. h ≡ f) → IfSome o (λ h. h ≡ g)
kept None f g same is = is
kept (Some h) f g same is = is ∙ same

-- a kept formula is still that of now
pub current-stays : (o : Option Dqbf) (b c : DatabaseState) (command : ScriptCommand) → c ≡ database_behind b command
    → length c.live ≡ length b.live → IfSome o (λ f. f ≡ now_of b) → IfSome o (λ f. f ≡ now_of c)
current-stays o b c command is same current =
    kept o (now_of b) (now_of c)
    (now-stays b command (sym (ap (λ (x : DatabaseState). length x.live) is) ∙ same) ∙ sym (ap now_of is)) current
