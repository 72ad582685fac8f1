use Rattle.std.proofs.Common.{subst}
use Rattle.oracle.specs.declared.oracles.Answer.{Answer}
use Rattle.oracle.specs.declared.oracles.Answer.TheVariants.{Sat}
use Rattle.cdcl_core.specs.Searching.{IsAnswered, searched}
use Rattle.cdcl_core.proofs.TrailValues.{found_on_trail}
use Rattle.cdcl_core.proofs.calls.search_and_keep.Goals as goal

pub returns-in-Sat-clause-sat : goal.returns-in-Sat-clause-sat
returns-in-Sat-clause-sat c = λ _.
    let asm = c.args.assumptions.now in
    let s = c.search.new.s in
    let old = c.args.log.now in
    let new = c.search.new.log in
    let found : IsAnswered asm s old new Sat = subst (λ (f : Answer). IsAnswered asm s old new f) c.in-Sat.is
    c.in_ok-search.ensures.ok in (
      found.0,
      found_on_trail asm (searched s) old new c.search.ensures.fit found.0 c.requires.assumptions found.1,
    )
