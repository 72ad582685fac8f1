use Rattle.std.proofs.Common.{length, ap, arith}
use Rattle.std.proofs.lemmas.List.{length-append}
use Rattle.hint_log.specs.Kept.{names_from}
use Rattle.hint_log.proofs.OrderedNames.{length_from}
use Rattle.hint_log.proofs.kept_names.Names.len.Goals as goal

pub returns : goal.returns
returns c =
    let xs = c.self.inside.ordered.items in
    let ys = c.self.inside.others.entries in
    let all = ap length c.self.view_is in
    let both = length-append (names_from 1 xs) ys in
    let ordered = length_from 1 xs in
    let first = c.len.ensures in
    let second = c.len-2.ensures.len in
    omega (arith, all, both, ordered, first, second)
