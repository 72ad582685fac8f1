use Rattle.std.proofs.Common.{◌≡◌, ◌+◌, ◌*◌, ◌++◌, map, length, ◌∙◌, ap, arith}
use Rattle.list_laws.proofs.Numbers.{few-rows}
use Rattle.lifted_proofs.specs.Carried.{Renumbering, carried_step, lines_of}
use Rattle.lifted_proofs.proofs.LiftedLines.{all-lifted, renumber}
use Rattle.lifted_proofs.proofs.LiftedRefutations.{few-instances, few-wanted, small-lines}
use Rattle.lifted_proofs.proofs.refutations.lifted_lines.Goals as goal

pub overflow_mul-renumbered : goal.overflow_mul-renumbered
overflow_mul-renumbered c = search (arith, few-instances)

pub carry-requires-clause-can : goal.carry-requires-clause-can
carry-requires-clause-can c = search (arith, few-wanted, few-rows)

pub carry-requires-clause-small : goal.carry-requires-clause-small
carry-requires-clause-small c = search (arith, small-lines)

pub returns-clause-lifted : goal.returns-clause-lifted
returns-clause-lifted c =
    let t = c.args.table.now in
    let d = c.args.d.now in
    let p = c.args.plan.now in
    let w = c.in_ok-written.written in
    let sources = c.args.sources.now in
    let wanted = c.args.wanted.now in
    let r : Renumbering = record {
      wanted = wanted;
      ids = c.deref.result.now;
      old_last = length c.items-2.result.now * length sources;
      new_last = length c.items.result.now * c.clauses.result + c.len.result;
    } in
    let same : r ≡ renumber t d sources wanted p w =
    cc (c.deref.ensures.value, c.items-2.ensures, c.items.ensures, c.clauses.ensures.value, c.len.ensures.value) in
    all-lifted t d sources wanted p w c.carry.new.steps
    (record {
      right = c.requires.right;
      refutes = c.requires.refutes;
      sources_are = c.requires.sources;
      wanted_are = c.requires.wanted;
      plan = c.requires.plan;
      written = c.in_ok-written.ensures.written;
      named = c.in_ok-written.ensures.named;
    })
    (c.in_ok-carry.ensures ∙ ap (λ r. w.steps ++ map (carried_step r) (lines_of d.items)) same)
