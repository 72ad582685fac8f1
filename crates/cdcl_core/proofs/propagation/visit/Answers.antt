use Rattle.std.proofs.Common.{inl, refl, ◌-◌, ◌<◌, length, arith}
use Rattle.learning_trail.specs.Steps.{literals_of}
use Rattle.cdcl_core.specs.Chains.{with_open}
use Rattle.cdcl_core.proofs.VisitedClauses.{at_id, read_watch, some_clause, kept_lists, has_open, apart_lists, begin_apart, other_within, visited_kept, visited_moved, visited_falsified}
use Rattle.cdcl_core.proofs.propagation.visit.Goals as goal

pub is_true-requires : goal.is_true-requires
is_true-requires c =
    let a = c.args in
    let v = c.requires.visitable in
    let lt : a.id - 1 < length a.others.now.literals.items =
    omega (arith, c.requires.from_one, c.requires.is_id, v.other_count) in
    let beside = read_watch a.others.now.literals.items (a.id - 1) c.index-other.result.now lt c.index-other.ensures in
    let some = some_clause a.arena.now.clauses a.id c.requires.from_one c.requires.is_id in
    other_within a.arena.now.clauses a.trail.now (with_open a.these.now a.list.now) a.others.now a.list.now.literal
    c.index-other.result.now a.id some.0 v
    some.1 c.requires.watched beside c.requires.false_now c.requires.in_range

pub returns-then-is_true-clause-visited : goal.returns-then-is_true-clause-visited
returns-then-is_true-clause-visited c =
    let a = c.args in
    let v = c.requires.visitable in
    let o = a.list.now in
    let lt : a.id - 1 < length a.others.now.literals.items =
    omega (arith, c.requires.from_one, c.requires.is_id, v.other_count) in
    let beside = read_watch a.others.now.literals.items (a.id - 1) c.index-other.result.now lt c.index-other.ensures in
    let some = some_clause a.arena.now.clauses a.id c.requires.from_one c.requires.is_id in
    let back = c.put_back in
    visited_kept a.arena.now.clauses a.trail.now (with_open a.these.now o) a.others.now o.literal
    c.index-other.result.now a.id some.0 v
    some.1 c.requires.watched beside c.requires.false_now
    a.trail.now (with_open back.new.watches back.new.list) back.result v.few
    (inl (refl, c.is_true.ensures c.if-is_true.true)) back.ensures.literals
    (kept_lists a.these.now back.new.watches o back.new.list back.ensures.lists) back.ensures.linked

pub look_at-requires-clause-other_in_range : goal.look_at-requires-clause-other_in_range
look_at-requires-clause-other_in_range c =
    let a = c.args in
    let v = c.requires.visitable in
    let lt : a.id - 1 < length a.others.now.literals.items =
    omega (arith, c.requires.from_one, c.requires.is_id, v.other_count) in
    let beside = read_watch a.others.now.literals.items (a.id - 1) c.index-other.result.now lt c.index-other.ensures in
    other_within a.arena.now.clauses a.trail.now (with_open a.these.now a.list.now) a.others.now a.list.now.literal
    c.index-other.result.now a.id
    c.lits.result.now v c.lits.ensures c.requires.watched beside c.requires.false_now c.requires.in_range

pub returns-in-Kept-clause-visited : goal.returns-in-Kept-clause-visited
returns-in-Kept-clause-visited c =
    let a = c.args in
    let v = c.requires.visitable in
    let o = a.list.now in
    let lt : a.id - 1 < length a.others.now.literals.items =
    omega (arith, c.requires.from_one, c.requires.is_id, v.other_count) in
    let beside = read_watch a.others.now.literals.items (a.id - 1) c.index-other.result.now lt c.index-other.ensures in
    let back = c.put_back-in-Kept in
    visited_kept a.arena.now.clauses a.trail.now (with_open a.these.now o) a.others.now o.literal
    c.index-other.result.now a.id
    c.lits.result.now v c.lits.ensures c.requires.watched beside c.requires.false_now
    c.look_at.new.trail (with_open back.new.watches back.new.list) back.result c.in-Kept.ensures.few
    c.in-Kept.ensures.looked back.ensures.literals
    (kept_lists a.these.now back.new.watches o back.new.list back.ensures.lists) back.ensures.linked

pub put_elsewhere-requires-clause-list : goal.put_elsewhere-requires-clause-list
put_elsewhere-requires-clause-list c = search (arith, has_open, at_id)

pub put_elsewhere-requires-clause-begin : goal.put_elsewhere-requires-clause-begin
put_elsewhere-requires-clause-begin c = search (arith, begin_apart, apart_lists)

pub put_elsewhere-requires-clause-fits : goal.put_elsewhere-requires-clause-fits
put_elsewhere-requires-clause-fits c = search arith

pub returns-in-Moved-clause-visited : goal.returns-in-Moved-clause-visited
returns-in-Moved-clause-visited c =
    let a = c.args in
    let v = c.requires.visitable in
    let o = a.list.now in
    let lt : a.id - 1 < length a.others.now.literals.items =
    omega (arith, c.requires.from_one, c.requires.is_id, v.other_count) in
    let beside = read_watch a.others.now.literals.items (a.id - 1) c.index-other.result.now lt c.index-other.ensures in
    let moved = c.put_elsewhere in
    let apart = apart_lists (literals_of a.trail.now.steps) c.in-Moved.k o.literal
    c.in-Moved.ensures.looked.1.not_false c.requires.false_now in
    visited_moved a.arena.now.clauses a.trail.now (with_open a.these.now o) a.others.now o.literal
    c.index-other.result.now a.id
    c.lits.result.now v c.lits.ensures c.requires.watched beside c.requires.false_now
    c.look_at.new.trail (with_open moved.new.watches o) c.in-Moved.k moved.result c.in-Moved.ensures.few
    c.in-Moved.ensures.looked c.requires.from_one c.requires.is_id
    moved.ensures.literals (kept_lists a.these.now moved.new.watches o o moved.ensures.lists)
    (λ rest k. moved.ensures.linked o rest apart k)

pub returns-in-Falsified-clause-visited : goal.returns-in-Falsified-clause-visited
returns-in-Falsified-clause-visited c =
    let a = c.args in
    let v = c.requires.visitable in
    let lt : a.id - 1 < length a.others.now.literals.items =
    omega (arith, c.requires.from_one, c.requires.is_id, v.other_count) in
    let beside = read_watch a.others.now.literals.items (a.id - 1) c.index-other.result.now lt c.index-other.ensures in
    visited_falsified a.arena.now.clauses a.trail.now (with_open a.these.now a.list.now) a.others.now a.list.now.literal
    c.index-other.result.now a.id
    c.lits.result.now v c.lits.ensures c.requires.watched beside c.requires.false_now
    c.look_at.new.trail c.in-Falsified.ensures.few c.in-Falsified.ensures.looked
