use Rattle.std.proofs.Common.{◌-◌, false, slice_index_or, subst, arith}
use Rattle.dq_lits.specs.Literal.{Assignment}
use Rattle.oracle.specs.declared.oracles.Answer.{Answer}
use Rattle.oracle.specs.declared.oracles.Answer.TheVariants.{Sat}
use Rattle.cdcl_scan.specs.Searching.{IsAnswered, searched}
use Rattle.learning_trail.specs.Steps.{literals_of}
use Rattle.learning_trail.proofs.FoundModels.{found_model, AreKept}
use Rattle.cdcl_scan.proofs.KeptModels.{kept_from_one}
use Rattle.cdcl_scan.proofs.calls.search_and_keep.Goals as goal

pub returns-in-Sat-clause-sat : goal.returns-in-Sat-clause-sat
returns-in-Sat-clause-sat c = λ _.
    let asm = c.args.assumptions.now in
    let s = c.search.new.s in
    let old = c.args.log.now in
    let new = c.search.new.log in
    let found : IsAnswered asm s old new Sat = subst (λ (f : Answer). IsAnswered asm s old new f) c.in-Sat.is
    c.in_ok-search.ensures.ok in
    let vars = c.search.ensures.places.variables in
    let first = c.requires.model in
    let values : Assignment = λ v. slice_index_or c.keep_values.new.model (v - 1) false in
    let kept : AreKept s.variables values (literals_of s.trail.steps) =
    kept_from_one s.variables c.keep_values.new.model (literals_of s.trail.steps)
    (λ i lt. c.keep_values.ensures.values i (omega (arith, lt, vars, first))) in (
      found.0,
      found_model asm (searched s) values old new c.search.ensures.fit found.0 c.requires.assumptions found.1 kept,
    )
