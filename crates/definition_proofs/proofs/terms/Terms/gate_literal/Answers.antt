use Rattle.std.proofs.Common.{refl, arith}
use Rattle.definability.specs.Copies.{group_variable}
use Rattle.definition_proofs.proofs.NodeLiterals.{known_found, left_known, right_known, gate_stands, on_term}
use Rattle.definition_proofs.proofs.DeclaredSides.{stands_declared}
use Rattle.definition_proofs.proofs.KnownTerms.{no_formula, names_stay}
use Rattle.definition_proofs.proofs.terms.Terms.gate_literal.Goals as goal

pub literal-a-requires-clause-found : goal.literal-a-requires-clause-found
literal-a-requires-clause-found g c =
    let f = c.args.inputs.now.f.now in
    let graph = c.args.inputs.now.graph.now in
    let es = c.args.log.now.entries in
    let literals = c.args.literals.now in
    known_found f graph es literals c.in-Gate.left (left_known f graph es literals c.args.g c.in-Gate.left
    c.in-Gate.right c.in-Gate.field-2 c.in-Gate.ensures c.requires.sides)

pub literal-b-requires-clause-found : goal.literal-b-requires-clause-found
literal-b-requires-clause-found g c =
    let f = c.args.inputs.now.f.now in
    let graph = c.args.inputs.now.graph.now in
    let es = c.args.log.now.entries in
    let literals = c.args.literals.now in
    known_found f graph es literals c.in-Gate.right (right_known f graph es literals c.args.g c.in-Gate.left
    c.in-Gate.right c.in-Gate.field-2 c.in-Gate.ensures c.requires.sides)

pub gate-requires-clause-sides : goal.gate-requires-clause-sides
gate-requires-clause-sides g c = search (arith, left_known, right_known, on_term)

pub returns-clause-leaf : goal.returns-clause-leaf
returns-clause-leaf g c =
    let f = c.args.inputs.now.f.now in
    let graph = c.args.inputs.now.graph.now in
    let es = c.args.log.now.entries in
    let literals = c.args.literals.now in
    let new = c.gate.new.log in
    let a = c.literal-a.result in
    let b = c.literal-b.result in
    let on_left = c.literal-a.ensures es c.requires.copies (left_known f graph es literals c.args.g c.in-Gate.left
    c.in-Gate.right c.in-Gate.field-2 c.in-Gate.ensures c.requires.sides) in
    let on_right = c.literal-b.ensures es c.requires.copies (right_known f graph es literals c.args.g c.in-Gate.left
    c.in-Gate.right c.in-Gate.field-2 c.in-Gate.ensures c.requires.sides) in
    record {
      grew = c.gate.ensures.grew;
      group = c.gate.ensures.group;
      terms = c.in_ok-l-in-Gate.ensures.terms;
      sides = λ before. c.in_ok-l-in-Gate.ensures.sides f before
          (stands_declared f graph es c.in-Gate.left a on_left) (stands_declared f graph es c.in-Gate.right b on_right);
      leaf_is = (
        c.in_ok-l-in-Gate.l,
        refl,
        gate_stands f graph es literals c.args.g c.in-Gate.left c.in-Gate.right c.in-Gate.field-2
            c.in-Gate.ensures c.requires.sides new.entries
            (names_stay no_formula (group_variable c.args.self.now.group) 0 c.args.log.now new
            (c.gate.ensures.grew no_formula 0))
            a b c.in_ok-l-in-Gate.l on_left on_right c.in_ok-l-in-Gate.ensures.named,
      );
    }
