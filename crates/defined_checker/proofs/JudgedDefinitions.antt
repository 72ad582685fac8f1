-- A definition that reads only what it may is judged by its proof.
use Rattle.std.proofs.Common.{◌≡◌, Option, None, Some, arith}
use Rattle.dq_lits.specs.Derivation.{ProofFault, proof_fault, underived, unfinished}
use Rattle.dq_lits.specs.Formula.{Existential, Dqbf, existential_of}
use Rattle.cert_text.specs.DefinitionBlocks.{Definition, defined}
use Rattle.defined_checker.specs.Answers.{named_fault}
use Rattle.defined_checker.specs.DefinitionBase.{definition_base}
use Rattle.defined_checker.specs.Judging.{IsJudged, ReadsItsOwn, defines, open_end, step}
use Rattle.defined_checker.specs.declared.faults.DefinitionFault.{DefinitionFault}

by_fault : (f : Dqbf) (d : Definition) (y : Existential) (fault : Option ProofFault) →
    existential_of f d.existential ≡ Some y → ReadsItsOwn f y d → proof_fault (definition_base f d) d.steps ≡ fault →
    IsJudged f (defined d) (named_fault d.existential fault)
by_fault f d y None is own h = defines is own h
by_fault f d y (Some (underived id)) is own h = step is own h
by_fault f d y (Some unfinished) is own h = open_end is own h

pub judged_steps : (f : Dqbf) (d : Definition) (y : Existential) (fault : Option ProofFault)
    (said : Option DefinitionFault) → existential_of f d.existential ≡ Some y → ReadsItsOwn f y d →
    fault ≡ proof_fault (definition_base f d) d.steps → said ≡ named_fault d.existential fault →
    IsJudged f (defined d) said
judged_steps f d y fault said is own h names = search (arith, by_fault)
