use Rattle.std.proofs.Common.{refl}
use Rattle.circuit_cnf.proofs.NewGroups.{named_alone, group_begun}
use Rattle.circuit_cnf.proofs.gates.Gates.begin_group.Goals as goal

pub returns-in_err-push-clause-begun : goal.returns-in_err-push-clause-begun
returns-in_err-push-clause-begun g c = named_alone c.args.self.now c.args.log.now c.group.new.log c.in_ok-group.group
    c.requires.known c.requires.ready c.in_ok-group.ensures.unnamed c.in_ok-group.ensures.made c.in_ok-group.ensures.ok
    (record c.args.self.now { earlier = c.push.new.self }) refl c.in_err-push.ensures.items refl refl

pub returns-clause-begun : goal.returns-clause-begun
returns-clause-begun g c = group_begun c.args.self.now c.args.log.now c.group.new.log c.in_ok-group.group
    c.requires.known c.requires.ready c.in_ok-group.ensures.unnamed c.in_ok-group.ensures.made c.in_ok-group.ensures.ok
    (record c.args.self.now { earlier = c.push.new.self; group = c.in_ok-group.group })
    (g.met.O.Oracle.searched c.args.oracle.now c.args.log.now c.requires.fit).grouped refl c.in_ok-push.ensures.items refl
    refl
