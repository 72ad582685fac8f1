use Rattle.std.proofs.Common.{◌-◌, length, ap, sym, arith}
use Rattle.std.proofs.lemmas.List.{length-append}
use Rattle.hint_log.specs.Kept.{names_from}
use Rattle.hint_log.proofs.OrderedNames.{found_behind, length_from, lookup_behind, name_at_place, none_found}
use Rattle.hint_log.proofs.kept_names.Names.place.Goals.{else-var-ge1-via-then-var-ge1+else-var-len, else-var-ge1-via-else-var-ge1}
use Rattle.hint_log.proofs.kept_names.Names.place.Goals as goal

pub returns-then-var-len-clause-some : goal.returns-then-var-len-clause-some
returns-then-var-len-clause-some c =
    let xs = c.self.inside.ordered.items in
    let ys = c.self.inside.others.entries in
    let v = c.args.var in
    let low = c.if-var-ge1.true in
    let most = c.if-var-len.true in
    let many = c.len.ensures in
    name_at_place xs ys c.args.self.now v c.self.view_is low (omega (arith, most, many))

pub returns-in-Some-clause-some : goal.returns-in-Some-clause-some
returns-in-Some-clause-some c =
    let xs = c.self.inside.ordered.items in
    let ys = c.self.inside.others.entries in
    let i = c.in-Some.behind in
    let all = c.len-in-Some.ensures in
    let long = ap length c.self.view_is in
    let both = length-append (names_from 1 xs) ys in
    let first = length_from 1 xs in
    let others = c.len-in-Some-2.ensures.len in
    let below = c.in-Some.ensures.within in
    found_behind xs ys c.args.self.now c.args.var i (c.len-in-Some.result - (c.len-in-Some-2.result - i)) c.self.view_is
    (sym c.in-Some.ensures.index) (omega (arith, all, long, both, first, others, below))

pub returns-in-None-clause-none : goal.returns-in-None-clause-none
returns-in-None-clause-none c = search (arith, lookup_behind, none_found)
