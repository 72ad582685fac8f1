use Rattle.list_laws.proofs.Results.{on_ok}
use Rattle.copied_prefixes.proofs.CopiedPrefixes.{next-fresh, next-listed, listed-next}
use Rattle.copied_prefixes.proofs.declare_next.Goals as goal

pub add_first-requires-clause-undeclared : goal.add_first-requires-clause-undeclared
add_first-requires-clause-undeclared c =
    next-fresh c.args.f.now c.args.g.now c.args.y c.requires.lawful c.requires.begun c.requires.within c.requires.next

pub add_listed-requires-clause-undeclared : goal.add_listed-requires-clause-undeclared
add_listed-requires-clause-undeclared c =
    next-fresh c.args.f.now c.args.g.now c.args.y c.requires.lawful c.requires.begun c.requires.within c.requires.next

pub add_listed-requires-clause-listed : goal.add_listed-requires-clause-listed
add_listed-requires-clause-listed c =
    next-listed c.args.f.now c.args.g.now c.args.y c.seen.result.now c.requires.begun c.requires.next c.requires.reach
    c.seen.ensures.set

pub returns-else-sees_first-clause-begun : goal.returns-else-sees_first-clause-begun
returns-else-sees_first-clause-begun c =
    on_ok c.add_listed.result
    (λ made. (listed-next c.args.f.now c.args.g.now c.add_listed.new.self c.args.y c.seen.result.now c.requires.lawful
    c.requires.begun c.requires.next c.requires.within c.requires.reach c.seen.ensures.set made).0)
    c.add_listed.ensures.ok
