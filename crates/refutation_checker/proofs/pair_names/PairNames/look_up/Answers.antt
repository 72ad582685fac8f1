use Rattle.refutation_checker.specs.PairNames.{frame, names_in}
use Rattle.refutation_checker.proofs.GivenNames.{name_kept}
use Rattle.refutation_checker.proofs.pair_names.PairNames.look_up.Goals as goal

pub returns-in_err-put-clause-names : goal.returns-in_err-put-clause-names
returns-in_err-put-clause-names c =
    let names = c.in_ok-base.ensures.names in
    record {
      naming = names.naming;
      kept = name_kept (frame c.args.e.now) (names_in c.name.new.self) c.name.new.self.known c.put.new.self c.args.set
          c.args.k c.in_ok-base.base c.requires.row names.kept
          c.in_err-put.ensures.as_many c.in_err-put.ensures.kept c.in_ok-base.ensures.base;
      last = names.last;
      small = names.small;
    }

pub returns-clause-names : goal.returns-clause-names
returns-clause-names c =
    let names = c.in_ok-base.ensures.names in
    record {
      naming = names.naming;
      kept = name_kept (frame c.args.e.now) (names_in c.name.new.self) c.name.new.self.known c.put.new.self c.args.set
          c.args.k c.in_ok-base.base c.requires.row names.kept
          c.in_ok-put.ensures.as_many c.in_ok-put.ensures.kept c.in_ok-base.ensures.base;
      last = names.last;
      small = names.small;
    }
