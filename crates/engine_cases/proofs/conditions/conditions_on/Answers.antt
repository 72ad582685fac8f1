use Rattle.std.proofs.Common.{◌≡◌, ◌≢◌, List, [], ◌∷◌, ◌++◌, sym, subst}
use Rattle.std.specs.List.{All, Contains}
use Rattle.std.proofs.lemmas.List.Elements.{All-push}
use Rattle.dq_lits.specs.Formula.{declared}
use Rattle.dq_lits.specs.Literal.{Literal, variable_of}
use Rattle.engine_cases.proofs.conditions.conditions_on.Goals as goal

one_more : (P : Literal → Type 0) (xs ys : List Literal) (l : Literal) → ys ≡ xs ++ l ∷ [] → All P xs → P l → All P ys
one_more P xs ys l is all one = subst (All P) (sym is) (All-push P xs l all one)

pub loop-word-preserved : goal.loop-word-preserved
loop-word-preserved c = (
  one_more (λ k. Contains (declared c.args.f.now) (variable_of k)) c.loop-word.lits.items c.push.new.self.items
      c.in_ok-l.l c.in_ok-push.ensures.items
      c.loop-word.invariant.0 c.in_ok-l.ensures.declared,
  one_more (λ k. variable_of k ≢ variable_of c.args.y) c.loop-word.lits.items c.push.new.self.items c.in_ok-l.l
      c.in_ok-push.ensures.items
      c.loop-word.invariant.1 c.in_ok-l.ensures.other,
)
