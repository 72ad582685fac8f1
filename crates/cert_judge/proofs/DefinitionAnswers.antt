-- Only one thing is said of definitions, and what is accepted is right.
use Rattle.std.proofs.Common.{◌≡◌, ℕ, List, Option, None, Some, Result, Ok, Err, refl, sym, ap, ◌∙◌, subst, arith}
use Rattle.std.specs.Prelude.{drop}
use Rattle.dq_lits.specs.Formula.{Dqbf, IsWellFormed}
use Rattle.cert_text.specs.DefinitionBlocks.{DefinitionBlock}
use Rattle.cert_text.specs.DefinitionGrammar.{SpellsDefinitions}
use Rattle.cert_text.specs.DefinitionText.{definitions_of}
use Rattle.cert_text.specs.Kind.{certificate_kind}
use Rattle.cert_text.specs.declared.faults.CertRefusal.{CertRefusal}
use Rattle.cert_text.specs.declared.kinds.Kind.TheVariants.{Definitions}
use Rattle.defined_checker.specs.Forced.{AcceptedTextsAreRight, TextsAreJudgedOnce}
use Rattle.defined_checker.specs.Judging.{AreJudged, IsChecked, counts_of, no_counts}
use Rattle.defined_checker.specs.declared.checks.DefinedCounts.{DefinedCounts}
use Rattle.defined_checker.specs.declared.faults.DefStop.{DefStop}
use Rattle.defined_checker.specs.declared.faults.DefStop.TheVariants.{Refused as RefusedText, Invalid, Memory as NoMemory}
use Rattle.defined_checker.specs.declared.faults.DefinitionFault.{DefinitionFault}
use Rattle.defined_checker.proofs.RightTexts.{ok_had_memory, refused_had_memory, invalid_had_memory}
use Rattle.cert_judge.specs.Judgement.{answer_of_blocks, HoldsRightDefinitions, IsDefinitionsAnswer, SpellsBlocks}
use Rattle.cert_judge.specs.declared.answers.Judgement.{Judgement}
use Rattle.cert_judge.specs.declared.answers.Judgement.TheVariants.{Refused, NoEmptyClause, ValidTrue, ValidFalse, BadBlock, ValidDefinitions}
use Rattle.cert_judge.specs.declared.answers.CertificateFault.TheVariants.{Text}

-- what a check that has memory says
abbrev answer_of_check : Result DefinedCounts DefStop → Judgement
answer_of_check (Ok counts) = ValidDefinitions counts
answer_of_check (Err (RefusedText refusal)) = Refused refusal.line (Text refusal.name)
answer_of_check (Err (Invalid fault)) = BadBlock fault
answer_of_check (Err NoMemory) = NoEmptyClause

abbrev HadMemory : Result DefinedCounts DefStop → Type 0
HadMemory check = check ≡ Err NoMemory → ⊥

-- an answer as the result of a check
record IsCheckOf (f : Dqbf) (text : List ℕ) (first : ℕ) (answer : Judgement) : Type 0 where
  check : Result DefinedCounts DefStop
  checked : IsChecked f text first check
  had_memory : HadMemory check
  said : answer ≡ answer_of_check check

by_fault : (f : Dqbf) (text : List ℕ) (first : ℕ) (answer : Judgement) (blocks : List DefinitionBlock)
    (fault : Option DefinitionFault) → definitions_of f text first ≡ Ok blocks → AreJudged f blocks fault →
    answer ≡ answer_of_blocks blocks fault → IsCheckOf f text first answer
by_fault f text first answer blocks None read judged says = record {
  check = Ok (counts_of no_counts blocks);
  checked = (blocks, (read, (judged, refl)));
  had_memory = ok_had_memory (counts_of no_counts blocks);
  said = says;
}
by_fault f text first answer blocks (Some fault) read judged says = record {
  check = Err (Invalid fault);
  checked = (blocks, (read, judged));
  had_memory = invalid_had_memory fault;
  said = says;
}

by_reading : (f : Dqbf) (text : List ℕ) (first : ℕ) (answer : Judgement)
    (read : Result (List DefinitionBlock) CertRefusal) → definitions_of f text first ≡ read →
    IsDefinitionsAnswer f read answer → IsCheckOf f text first answer
by_reading f text first answer (Ok blocks) read says = search (arith, by_fault)
by_reading f text first answer (Err refusal) read says = record {
  check = Err (RefusedText refusal);
  checked = read;
  had_memory = refused_had_memory refusal;
  said = says;
}

check_of : (f : Dqbf) (text : List ℕ) (first : ℕ) (answer : Judgement) →
    IsDefinitionsAnswer f (definitions_of f text first) answer → IsCheckOf f text first answer
check_of f text first answer says = by_reading f text first answer (definitions_of f text first) refl says

pub one_definitions_answer : TextsAreJudgedOnce → (f : Dqbf) (text : List ℕ) (first : ℕ) (a b : Judgement) →
    IsDefinitionsAnswer f (definitions_of f text first) a →
    IsDefinitionsAnswer f (definitions_of f text first) b → a ≡ b
one_definitions_answer once f text first a b r s =
    let left = check_of f text first a r in
    let right = check_of f text first b s in
    left.said
    ∙ ap answer_of_check (once f text first left.check right.check left.checked right.checked left.had_memory
    right.had_memory) ∙ sym right.said

-- no verdict is said
true_is_no_blocks : (blocks : List DefinitionBlock) (fault : Option DefinitionFault) →
    ValidTrue ≡ answer_of_blocks blocks fault → ⊥
true_is_no_blocks blocks None same = cc
true_is_no_blocks blocks (Some fault) same = cc

pub never_true : (f : Dqbf) (read : Result (List DefinitionBlock) CertRefusal) → IsDefinitionsAnswer f read ValidTrue →
    ⊥
never_true f (Ok blocks) says = true_is_no_blocks blocks says.0 says.1.1
never_true f (Err refusal) says = cc

false_is_no_blocks : (blocks : List DefinitionBlock) (fault : Option DefinitionFault) →
    ValidFalse ≡ answer_of_blocks blocks fault → ⊥
false_is_no_blocks blocks None same = cc
false_is_no_blocks blocks (Some fault) same = cc

pub never_false : (f : Dqbf) (read : Result (List DefinitionBlock) CertRefusal) → IsDefinitionsAnswer f read ValidFalse →
    ⊥
never_false f (Ok blocks) says = false_is_no_blocks blocks says.0 says.1.1
never_false f (Err refusal) says = cc

-- what is accepted
by_counts : (f : Dqbf) (blocks : List DefinitionBlock) (fault : Option DefinitionFault) (counts : DefinedCounts) →
    AreJudged f blocks fault → ValidDefinitions counts ≡ answer_of_blocks blocks fault →
    (AreJudged f blocks None) × (counts ≡ counts_of no_counts blocks)
by_counts f blocks None counts judged same = search arith
by_counts f blocks (Some fault) counts judged same = cc

-- what the grammar's law gives
abbrev pub ReadTextsAreSpelled : Type 0
ReadTextsAreSpelled =
    (text : List ℕ) (first : ℕ) (f : Dqbf) (blocks : List DefinitionBlock) → definitions_of f text first ≡ Ok blocks
    → SpellsDefinitions text f blocks

right_of : ReadTextsAreSpelled → AcceptedTextsAreRight → (f : Dqbf) (text : List ℕ) (at h : ℕ) (counts : DefinedCounts)
    (read : Result (List DefinitionBlock) CertRefusal) → IsWellFormed f →
    certificate_kind text ≡ Ok (Definitions at h) → definitions_of f (drop at text) h ≡ read →
    IsDefinitionsAnswer f read (ValidDefinitions counts) → HoldsRightDefinitions f text counts
right_of grammar law f text at h counts (Ok blocks) formed kind read says =
    let accepted = by_counts f blocks says.0 counts says.1.0 says.1.1 in
    let spelled = grammar (drop at text) h f blocks read in
    record {
      blocks = blocks;
      spelled = subst (λ k. SpellsBlocks f text k blocks) (sym kind) spelled;
      counted = accepted.1;
      right = law f (drop at text) blocks formed spelled accepted.0;
    }
right_of grammar law f text at h counts (Err refusal) formed kind read says = cc

pub accepted_blocks : ReadTextsAreSpelled → AcceptedTextsAreRight → (f : Dqbf) (text : List ℕ) (at h : ℕ)
    (counts : DefinedCounts) → IsWellFormed f → certificate_kind text ≡ Ok (Definitions at h) →
    IsDefinitionsAnswer f (definitions_of f (drop at text) h) (ValidDefinitions counts) →
    HoldsRightDefinitions f text counts
accepted_blocks grammar law f text at h counts formed kind says =
    right_of grammar law f text at h counts (definitions_of f (drop at text) h) formed kind refl says
