use Rattle.std.proofs.Common.{sym, ap, subst, arith}
use Rattle.dq_lits.specs.Literal.{variable_of}
use Rattle.oracle.specs.Fit.{live_in}
use Rattle.learning_trail.specs.Steps.{Trailed}
use Rattle.learning_trail.specs.Sound.{IsSound, IsGuided}
use Rattle.cdcl_scan.proofs.search.decide.Goals as goal

pub push-requires-clause-in_range : goal.push-requires-clause-in_range
push-requires-clause-in_range c =
    let low = (c.requires.searching.fit.fit.in_range (variable_of c.args.l) c.requires.named).1 in
    omega (arith, low, c.requires.searching.room)

pub returns-clause-searching : goal.returns-clause-searching
returns-clause-searching c =
    let s = c.args.s.now in
    let steps = ap (λ (t : Trailed). t.steps) c.push.ensures.is in
    let room = ap (λ (t : Trailed). t.room) c.push.ensures.is in
    record {
      fit = c.requires.searching.fit;
      awake = c.requires.searching.awake;
      sound = subst (IsSound (live_in s.clauses.clauses)) (sym steps)
          (record { free = c.requires.free; reasoned = c.requires.closed }, c.requires.searching.sound);
      guided = subst (IsGuided c.args.log.now.entries c.args.assumptions.now) (sym steps)
          (record { named = λ _. c.requires.named; chosen = λ _. c.requires.chosen }, c.requires.searching.guided);
      room = let r = c.requires.searching.room in omega (arith, r, room);
      marks = let m = c.requires.searching.marks in omega (arith, m, room);
    }
