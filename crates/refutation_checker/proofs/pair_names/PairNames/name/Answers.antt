use Rattle.std.proofs.Common.{◌+◌, cond, refl, sym, ap, arith}
use Rattle.std.proofs.lemmas.Bool.{eq-eqb, ne_eqb}
use Rattle.refutation_checker.specs.PairNames.{frame}
use Rattle.refutation_checker.proofs.GivenNames.{name_read, tree_read, size_read}
use Rattle.refutation_checker.proofs.pair_names.PairNames.name.Goals as goal

pub number_of-requires-clause-tree : goal.number_of-requires-clause-tree
number_of-requires-clause-tree c =
    tree_read (frame c.args.e.now) c.args.self.now c.args.set c.index_mut.result.now c.index-named.result.now
    c.requires.names c.requires.set c.index-named.ensures
    c.index_mut.ensures.value

pub overflow_add-self : goal.overflow_add-self
overflow_add-self c =
    let few = size_read (frame c.args.e.now) c.args.set c.index-named.result.now c.requires.frame c.requires.set
    c.index-named.ensures in
    let low = c.if-self-gt-LAST_NAME.false in
    omega (arith, few, low)

pub returns-then-base-self : goal.returns-then-base-self
returns-then-base-self c =
    let old = c.args.self.now in
    let all =
    name_read (frame c.args.e.now) old _ c.args.set c.args.k c.in_ok-base.base c.number_of.new.self
    c.index_mut.result.now c.index-named.result.now c.requires.frame c.requires.names
    c.requires.set c.requires.row c.index-named.ensures c.index_mut.ensures.value c.in_ok-base.ensures.tree
    c.in_ok-base.ensures.numbered c.in_ok-base.ensures.value refl
    (sym (ap (λ b. cond b (old.next + c.index-named.result.now.size) old.next)
    (eq-eqb c.in_ok-base.base old.next c.if-base-self.true))) refl refl c.if-self-gt-LAST_NAME.false in
    record { names = all.0; extends = all.1; base = all.2 }

pub returns-else-base-self : goal.returns-else-base-self
returns-else-base-self c =
    let old = c.args.self.now in
    let all =
    name_read (frame c.args.e.now) old _ c.args.set c.args.k c.in_ok-base.base c.number_of.new.self
    c.index_mut.result.now c.index-named.result.now c.requires.frame c.requires.names
    c.requires.set c.requires.row c.index-named.ensures c.index_mut.ensures.value c.in_ok-base.ensures.tree
    c.in_ok-base.ensures.numbered c.in_ok-base.ensures.value refl
    (sym (ap (λ b. cond b (old.next + c.index-named.result.now.size) old.next)
    (ne_eqb c.in_ok-base.base old.next c.if-base-self.false))) refl refl c.if-self-gt-LAST_NAME.false in
    record { names = all.0; extends = all.1; base = all.2 }
