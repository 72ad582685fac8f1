use Rattle.std.proofs.Common.{◌≡◌, ◌∙◌, ◌<◌, ◌+◌, ◌++◌, ◌∷◌, [], length, map, take, get_or, sym, ap, arith}
use Rattle.std.proofs.lemmas.List.{take_more, map-append}
use Rattle.dq_lits.specs.Literal.{variable_of}
use Rattle.known_functions.proofs.ConsistentConditions.{no_conditions, next_universal, universal_range}
use Rattle.known_functions.proofs.lawful_conditions.row_conditions.Goals as goal

pub loop-place-init : goal.loop-place-init
loop-place-init c = search (arith, no_conditions)

pub literal-requires-clause-from_one : goal.literal-requires-clause-from_one
literal-requires-clause-from_one c = search (arith, universal_range)

pub literal-requires-clause-in_range : goal.literal-requires-clause-in_range
literal-requires-clause-in_range c = search (arith, universal_range)

pub loop-place-preserved : goal.loop-place-preserved
loop-place-preserved c =
    let inv = c.loop-place.invariant in
    let f = c.args.f.now in
    let p = c.loop-place.place in
    let lits = c.loop-place.lits.items in
    let l = c.literal.result in
    let below : p < length f.universals = let test = c.loop-place-test.true in let whole = c.requires.whole in
    omega (arith, test, whole) in
    let is : variable_of l ≡ get_or f.universals p 0 = c.literal.ensures ∙ ap
    (λ us. get_or us p 0) c.universals.ensures in
    let more : map variable_of (lits ++ l ∷ []) ≡ take (p + 1) f.universals =
    map-append variable_of lits (l ∷ []) ∙ ap (λ vs. vs ++ variable_of l ∷ []) inv.variables ∙ ap
    (λ v. take p f.universals ++ v ∷ []) is ∙ sym (take_more f.universals p 0 below) in
    rw c.in_ok-push.ensures.items (record {
      conditions = next_universal f c.every_formula_is_lawful.ensures c.args.y
          c.requires.existential lits l p below is inv.variables inv.conditions;
      variables = more;
    })
