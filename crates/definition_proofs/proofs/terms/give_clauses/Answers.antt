use Rattle.definition_proofs.proofs.KnownTerms.{no_formula, one, two, three, whole, stopped}
use Rattle.definition_proofs.proofs.terms.give_clauses.Goals as goal

pub returns-in_err-add-2-clause-gives : goal.returns-in_err-add-2-clause-gives
returns-in_err-add-2-clause-gives g c = λ f.
    let gate = c.args.gate in
    let first = one f c.args.group.now gate.variable gate.left gate.right c.args.log.now c.requires.made
    c.requires.named c.requires.few c.requires.none c.add.new.log c.part_of.result c.neg.result c.part_of.ensures
    c.neg.ensures c.in_ok-add.ensures.ok in
    (stopped f c.args.group.now gate.variable gate.left gate.right c.args.log.now c.requires.made
    c.requires.named c.requires.few c.requires.none 1 c.add.new.log c.add-2.new.log first
    c.in_err-add-2.ensures.err).gives

pub returns-in_err-add-3-clause-gives : goal.returns-in_err-add-3-clause-gives
returns-in_err-add-3-clause-gives g c = λ f.
    let gate = c.args.gate in
    let first = one f c.args.group.now gate.variable gate.left gate.right c.args.log.now c.requires.made
    c.requires.named c.requires.few c.requires.none c.add.new.log c.part_of.result c.neg.result c.part_of.ensures
    c.neg.ensures c.in_ok-add.ensures.ok in
    let second = two f c.args.group.now gate.variable gate.left gate.right c.args.log.now c.requires.made
    c.requires.named c.requires.few c.requires.none c.add.new.log c.add-2.new.log c.part_of-2.result c.neg-2.result
    first c.part_of-2.ensures c.neg-2.ensures c.in_ok-add-2.ensures.ok in
    (stopped f c.args.group.now gate.variable gate.left gate.right c.args.log.now c.requires.made
    c.requires.named c.requires.few c.requires.none 2 c.add-2.new.log c.add-3.new.log second
    c.in_err-add-3.ensures.err).gives

pub returns-clause-gives : goal.returns-clause-gives
returns-clause-gives g c = λ f.
    let gate = c.args.gate in
    let first = one f c.args.group.now gate.variable gate.left gate.right c.args.log.now c.requires.made
    c.requires.named c.requires.few c.requires.none c.add.new.log c.part_of.result c.neg.result c.part_of.ensures
    c.neg.ensures c.in_ok-add.ensures.ok in
    let second = two f c.args.group.now gate.variable gate.left gate.right c.args.log.now c.requires.made
    c.requires.named c.requires.few c.requires.none c.add.new.log c.add-2.new.log c.part_of-2.result c.neg-2.result
    first c.part_of-2.ensures c.neg-2.ensures c.in_ok-add-2.ensures.ok in
    let third = three f c.args.group.now gate.variable gate.left gate.right c.args.log.now c.requires.made
    c.requires.named c.requires.few c.requires.none c.add-2.new.log c.add-3.new.log c.part_of-3.result c.pos.result
    c.not.result c.not-2.result second c.part_of-3.ensures c.pos.ensures c.not.ensures c.not-2.ensures
    c.in_ok-add-3.ensures.ok in
    third.gives

pub returns-clause-given : goal.returns-clause-given
returns-clause-given g c =
    let f = no_formula in
    let gate = c.args.gate in
    let first = one f c.args.group.now gate.variable gate.left gate.right c.args.log.now c.requires.made
    c.requires.named c.requires.few c.requires.none c.add.new.log c.part_of.result c.neg.result c.part_of.ensures
    c.neg.ensures c.in_ok-add.ensures.ok in
    let second = two f c.args.group.now gate.variable gate.left gate.right c.args.log.now c.requires.made
    c.requires.named c.requires.few c.requires.none c.add.new.log c.add-2.new.log c.part_of-2.result c.neg-2.result
    first c.part_of-2.ensures c.neg-2.ensures c.in_ok-add-2.ensures.ok in
    let third = three f c.args.group.now gate.variable gate.left gate.right c.args.log.now c.requires.made
    c.requires.named c.requires.few c.requires.none c.add-2.new.log c.add-3.new.log c.part_of-3.result c.pos.result
    c.not.result c.not-2.result second c.part_of-3.ensures c.pos.ensures c.not.ensures c.not-2.ensures
    c.in_ok-add-3.ensures.ok in
    whole f c.args.group.now gate.variable gate.left gate.right c.args.log.now c.requires.made
    c.requires.named c.requires.few c.requires.none c.add-3.new.log third
