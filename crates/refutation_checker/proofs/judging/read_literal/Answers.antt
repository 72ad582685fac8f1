use Rattle.std.proofs.Common.{refl}
use Rattle.refutation_checker.specs.PairNames.{frame, names_in}
use Rattle.refutation_checker.specs.declared.bindings.Binding.TheVariants.{Universal, Free}
use Rattle.refutation_checker.proofs.ReadClauses.{other_read, existential_read, bound_declared}
use Rattle.refutation_checker.proofs.judging.read_literal.Goals as goal

pub returns-in-Universal-clause-read : goal.returns-in-Universal-clause-read
returns-in-Universal-clause-read c =
    other_read (frame c.args.e.now) (names_in c.args.names.now) c.args.k c.var-y.result c.args.l c.args.clause.now.items
    c.is_true_at.result (Universal c.in-Universal.place)
    c.requires.frame c.var-y.ensures.value c.in-Universal.ensures refl c.is_true_at.ensures

pub returns-in-Free-clause-read : goal.returns-in-Free-clause-read
returns-in-Free-clause-read c =
    other_read (frame c.args.e.now) (names_in c.args.names.now) c.args.k c.var-y.result c.args.l c.args.clause.now.items
    c.is_true_universal.result Free
    c.requires.frame c.var-y.ensures.value c.in-Free.ensures refl c.is_true_universal.ensures

pub returns-in_ok-push-in-Existential-clause-read : goal.returns-in_ok-push-in-Existential-clause-read
returns-in_ok-push-in-Existential-clause-read c =
    let x = frame c.args.e.now in
    existential_read x (names_in c.name.new.names) c.args.k c.var-y.result c.args.l c.in_ok-named-in-Existential.named
    c.args.clause.now.items c.push.new.self.items c.requires.frame
    c.var-y.ensures.value (bound_declared x c.var-y.result _ _ c.requires.frame c.in-Existential.ensures).0
    c.in_ok-named-in-Existential.ensures.named
    c.in_ok-push-in-Existential.ensures.items
