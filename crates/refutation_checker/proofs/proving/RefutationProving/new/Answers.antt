use Rattle.std.proofs.Common.{arith}
use Rattle.refutation_checker.proofs.JudgedItems.{none_yet}
use Rattle.refutation_checker.proofs.proving.RefutationProving.new.Goals as goal

pub begin-requires : goal.begin-requires
begin-requires c = search arith

pub returns : goal.returns
returns c =
    none_yet c.args.f.now c.args.rows.now
    (record { bindings = c.in_ok-bindings.bindings; judging = c.in_ok-judging.judging })
    (record {
      lawful = c.every_formula_is_lawful.ensures;
      whole = c.requires.whole;
      few = c.requires.few;
      bound = c.in_ok-bindings.ensures;
    })
    c.in_ok-judging.ensures.names c.in_ok-judging.ensures.proving.0 c.in_ok-judging.ensures.proving.1
    c.in_ok-judging.ensures.proving.2
