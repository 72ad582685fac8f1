use Rattle.std.proofs.Common.{◌≡◌, ◌++◌, ◌∷◌, [], length, ap, sym, ◌∙◌, arith}
use Rattle.std.proofs.lemmas.List.{length_push}
use Rattle.std.specs.Map.{keys_of}
use Rattle.number_tables.specs.Numbers.{has_number}
use Rattle.dq_formula.proofs.ExistentialColumns.{keys, zip-append, with_absent}
use Rattle.dq_formula.proofs.existentials.Existentials.push.Goals as goal

pub invariant_of-self-2 : goal.invariant_of-self-2
invariant_of-self-2 c =
    let e = c.self.inside in
    let absent = ap (λ xs. has_number xs c.args.y) (sym (ap keys_of (sym c.self.view_is)
    ∙ keys e.variables e.sets.items c.self.invariant)) ∙ c.requires in
    let variables : c.insert.new.self ≡ e.variables ++ c.args.y ∷ [] = search (arith, with_absent) in
    let sets : c.push.new.self.items ≡ e.sets.items ++ c.args.set ∷ [] = search arith in
    omega (
      arith,
      c.self.invariant,
      ap length variables,
      ap length sets,
      length_push e.variables c.args.y,
      length_push e.sets.items c.args.set,
    )

pub returns-clause-ok : goal.returns-clause-ok
returns-clause-ok c =
    let e = c.self.inside in
    let absent = ap (λ xs. has_number xs c.args.y) (sym (ap keys_of (sym c.self.view_is)
    ∙ keys e.variables e.sets.items c.self.invariant)) ∙ c.requires in
    let variables : c.insert.new.self ≡ e.variables ++ c.args.y ∷ [] = search (arith, with_absent) in
    let sets : c.push.new.self.items ≡ e.sets.items ++ c.args.set ∷ [] = search arith in
    rw (← c.self.view_is, variables, sets) (zip-append e.variables e.sets.items (c.args.y ∷ [])
    (c.args.set ∷ []) c.self.invariant)
