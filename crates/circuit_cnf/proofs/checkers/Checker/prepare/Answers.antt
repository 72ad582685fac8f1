use Rattle.std.proofs.Common.{◌∙◌, ◌∷◌, ap, refl}
use Rattle.circuit_cnf.specs.declared.checkers.Checker.{Checker}
use Rattle.circuit_cnf.proofs.Preparation.{begun_prepared, finish_prepared}
use Rattle.circuit_cnf.proofs.checkers.Checker.prepare.Goals as goal

pub returns-in_err-finish-clause-turned : goal.returns-in_err-finish-clause-turned
returns-in_err-finish-clause-turned g c = finish_prepared c.args.self.now
    (record c.args.self.now { gates = c.finish.new.self }) c.args.log.now c.finish.new.log refl
    (ap (λ h. h ∷ c.finish.new.self.earlier.items) c.finish.ensures.group
    ∙ ap (λ xs. c.args.self.now.gates.group ∷ xs.items) c.finish.ensures.earlier)
    c.finish.ensures.known c.finish.ensures.grew c.finish.ensures.names c.finish.ensures.faults c.requires.few

pub returns-else-has_batch-clause-turned : goal.returns-else-has_batch-clause-turned
returns-else-has_batch-clause-turned g c = finish_prepared c.args.self.now
    (record c.args.self.now { gates = c.finish.new.self }) c.args.log.now c.finish.new.log refl
    (ap (λ h. h ∷ c.finish.new.self.earlier.items) c.finish.ensures.group
    ∙ ap (λ xs. c.args.self.now.gates.group ∷ xs.items) c.finish.ensures.earlier)
    c.finish.ensures.known c.finish.ensures.grew c.finish.ensures.names c.finish.ensures.faults c.requires.few

pub returns-in_err-begin_group-clause-turned : goal.returns-in_err-begin_group-clause-turned
returns-in_err-begin_group-clause-turned g c =
    let middle : Checker = record c.args.self.now { gates = c.finish.new.self } in
    let first = finish_prepared c.args.self.now middle c.args.log.now c.finish.new.log refl
    (ap (λ h. h ∷ c.finish.new.self.earlier.items) c.finish.ensures.group
    ∙ ap (λ xs. c.args.self.now.gates.group ∷ xs.items) c.finish.ensures.earlier)
    c.finish.ensures.known c.finish.ensures.grew c.finish.ensures.names c.finish.ensures.faults c.requires.few in
    begun_prepared c.args.self.now middle (record c.args.self.now { gates = c.begin_group.new.self }) c.args.log.now
    c.finish.new.log c.begin_group.new.log first refl c.begin_group.ensures.begun

pub returns-in_ok-begin_group-clause-turned : goal.returns-in_ok-begin_group-clause-turned
returns-in_ok-begin_group-clause-turned g c =
    let middle : Checker = record c.args.self.now { gates = c.finish.new.self } in
    let first = finish_prepared c.args.self.now middle c.args.log.now c.finish.new.log refl
    (ap (λ h. h ∷ c.finish.new.self.earlier.items) c.finish.ensures.group
    ∙ ap (λ xs. c.args.self.now.gates.group ∷ xs.items) c.finish.ensures.earlier)
    c.finish.ensures.known c.finish.ensures.grew c.finish.ensures.names c.finish.ensures.faults c.requires.few in
    begun_prepared c.args.self.now middle _ c.args.log.now c.finish.new.log c.begin_group.new.log first refl
    c.begin_group.ensures.begun
