-- Accepted texts are right, and a text is judged in one way.
use Rattle.std.proofs.Common.{◌≡◌, ℕ, inl, inr, List, [], ◌∷◌, Option, None, Some, Result, Ok, Err, refl, sym, ap, ◌∙◌, subst, arith}
use Rattle.list_laws.proofs.Options.{some_same}
use Rattle.dq_lits.specs.Derivation.{ProofFault, underived, unfinished}
use Rattle.dq_lits.specs.Formula.{Existential, Dqbf, IsWellFormed, existential_of}
use Rattle.cert_text.specs.AllowedDefinitions.{AreBlocksOf}
use Rattle.cert_text.specs.DefinitionBlocks.{Definition, DefinitionBlock, defined, free}
use Rattle.cert_text.specs.DefinitionGrammar.{SpellsDefinitions}
use Rattle.cert_text.specs.DefinitionText.{definitions_of}
use Rattle.cert_text.specs.declared.faults.CertRefusal.{CertRefusal}
use Rattle.defined_checker.specs.DefinitionReads.{IsFirstForeign}
use Rattle.defined_checker.specs.Forced.{AcceptedDefinitionsAreForced, AcceptedPairsAreFree, AreRight, IsRight}
use Rattle.defined_checker.specs.Judging.{AcceptsFaultless, AreJudged, IsChecked, IsJudged, ReadsItsOwn, SpellsFaultless, defines, open_end, pair, reads, separates, step}
use Rattle.defined_checker.specs.declared.checks.DefinedCounts.{DefinedCounts}
use Rattle.defined_checker.specs.declared.faults.DefStop.{DefStop}
use Rattle.defined_checker.specs.declared.faults.DefStop.TheVariants.{Refused, Invalid, Memory}
use Rattle.defined_checker.specs.declared.faults.DefinitionFault.{DefinitionFault}
use Rattle.defined_checker.specs.declared.faults.DefinitionFault.TheVariants.{Step}

block_right : AcceptedDefinitionsAreForced → AcceptedPairsAreFree → (f : Dqbf) (y : ℕ) (block : DefinitionBlock) →
    IsWellFormed f → AreBlocksOf f (y ∷ []) (block ∷ []) → IsJudged f block None → IsRight f block
block_right forced pairs f y (defined d) formed lawful judged = forced f d formed lawful.0.1 judged
block_right forced pairs f y (free p) formed lawful judged = search arith

pub all_right : AcceptedDefinitionsAreForced → AcceptedPairsAreFree → (f : Dqbf) (ys : List ℕ)
    (blocks : List DefinitionBlock) → IsWellFormed f → AreBlocksOf f ys blocks → AreJudged f blocks None →
    AreRight f blocks
all_right forced pairs f ys [] formed lawful judged = tt
all_right forced pairs f [] (block ∷ blocks) formed lawful judged = absurd lawful
all_right forced pairs f (y ∷ ys) (block ∷ blocks) formed lawful judged =
    search (arith, block_right, (all_right forced pairs f ys blocks formed lawful.1))

-- a block is judged in one way
least_once : (f : Dqbf) (y : Existential) (d : Definition) (v w : ℕ) → IsFirstForeign f y d v →
    IsFirstForeign f y d w → v ≡ w
least_once f y d v w a b = search arith

module _ (f : Dqbf) where
  own_for : (d : Definition) (y z : Existential) → existential_of f d.existential ≡ Some y →
      existential_of f d.existential ≡ Some z → y ≡ z
  own_for d y z a b = some_same y z (sym a ∙ b)

  fault_once : (o : Option ProofFault) (a b : ProofFault) → o ≡ Some a → o ≡ Some b → a ≡ b
  fault_once o a b is same = search arith

  no_fault : (o : Option ProofFault) (a : ProofFault) → o ≡ Some a → o ≡ None → ⊥
  no_fault o a is none = search arith

  id_once : (a b : ℕ) → underived a ≡ underived b → a ≡ b
  id_once a b h = cc

  not_open : (a : ℕ) → underived a ≡ unfinished → ⊥
  not_open a h = cc

  pub judged_once : (block : DefinitionBlock) (a b : Option DefinitionFault) → IsJudged f block a → IsJudged f block b →
      a ≡ b
  judged_once (defined d) _ _ (reads {y = y} {v = v} is first) (reads {y = z} {v = w} same other) =
      search (arith, least_once, own_for)
  judged_once (defined d) _ _ (reads {y = y} {v = v} is first) (step {y = z} same own fault) = search (arith, own_for)
  judged_once (defined d) _ _ (reads {y = y} {v = v} is first) (open_end {y = z} same own fault) =
      absurd (subst (λ e. ReadsItsOwn f e d) (sym (own_for d y z is same)) own v first.foreign)
  judged_once (defined d) _ _ (reads {y = y} {v = v} is first) (defines {y = z} same own fault) =
      absurd (subst (λ e. ReadsItsOwn f e d) (sym (own_for d y z is same)) own v first.foreign)
  judged_once (defined d) _ _ (step {y = y} is own fault) (reads {y = z} {v = w} same other) = search (arith, own_for)
  judged_once (defined d) _ _ (step {id = i} is own fault) (step {id = j} same other again) =
      ap (λ x. Some (Step d.existential x)) (id_once i j (fault_once _ (underived i) (underived j) fault again))
  judged_once (defined d) _ _ (step {id = i} is own fault) (open_end same other again) =
      absurd (not_open i (fault_once _ (underived i) unfinished fault again))
  judged_once (defined d) _ _ (step {id = i} is own fault) (defines same other again) = search (arith, no_fault)
  judged_once (defined d) _ _ (open_end {y = y} is own fault) (reads {y = z} {v = w} same other) =
      absurd (subst (λ e. ReadsItsOwn f e d) (own_for d y z is same) own w other.foreign)
  judged_once (defined d) _ _ (open_end is own fault) (step {id = j} same other again) =
      absurd (not_open j (sym (fault_once _ unfinished (underived j) fault again)))
  judged_once (defined d) _ _ (open_end is own fault) (open_end same other again) = refl
  judged_once (defined d) _ _ (open_end is own fault) (defines same other again) = search (arith, no_fault)
  judged_once (defined d) _ _ (defines {y = y} is own fault) (reads {y = z} {v = w} same other) =
      absurd (subst (λ e. ReadsItsOwn f e d) (own_for d y z is same) own w other.foreign)
  judged_once (defined d) _ _ (defines is own fault) (step {id = j} same other again) = search (arith, no_fault)
  judged_once (defined d) _ _ (defines is own fault) (open_end same other again) = search (arith, no_fault)
  judged_once (defined d) _ _ (defines is own fault) (defines same other again) = refl
  judged_once (free p) _ _ (pair is none) (pair same other) = refl
  judged_once (free p) _ _ (pair {y = y} is none) (separates {y = z} same other) = search (arith, some_same)
  judged_once (free p) _ _ (separates {y = y} is own) (pair {y = z} same other) = search (arith, some_same)
  judged_once (free p) _ _ (separates is own) (separates same other) = refl

  pub all_judged_once : (blocks : List DefinitionBlock) (a b : Option DefinitionFault) → AreJudged f blocks a →
      AreJudged f blocks b → a ≡ b
  all_judged_once [] a b first second = first ∙ sym second
  all_judged_once (block ∷ blocks) a b first second =
      elim first [
        | inl h ↦ elim second [
          | inl k ↦ all_judged_once blocks a b h.1 k.1
          | inr k ↦ absurd (apart k.0 (judged_once block None (Some k.0) h.0 k.1.0))
        ]
        | inr h ↦ elim second [
          | inl k ↦ absurd (apart h.0 (judged_once block None (Some h.0) k.0 h.1.0))
          | inr k ↦ h.1.1 ∙ judged_once block (Some h.0) (Some k.0) h.1.0 k.1.0 ∙ sym k.1.1
        ]
      ]
    where
      apart : (name : DefinitionFault) → None ≡ Some name → ⊥
      apart name h = cc

-- a text is judged in one way
read_once : (r : Result (List DefinitionBlock) CertRefusal) (a b : List DefinitionBlock) → r ≡ Ok a → r ≡ Ok b → a ≡ b
read_once r a b is same = search arith

not_both : (r : Result (List DefinitionBlock) CertRefusal) (a : List DefinitionBlock) (refusal : CertRefusal) →
    r ≡ Ok a → r ≡ Err refusal → ⊥
not_both r a refusal is same = search arith

refused_once : (r : Result (List DefinitionBlock) CertRefusal) (a b : CertRefusal) → r ≡ Err a → r ≡ Err b → a ≡ b
refused_once r a b is same = search arith

some_once : (a b : DefinitionFault) → Some a ≡ Some b → a ≡ b
some_once a b h = cc

none_some : (a : DefinitionFault) → None ≡ Some a → ⊥
none_some a h = cc

pub checked_once : (f : Dqbf) (text : List ℕ) (first : ℕ) (a b : Result DefinedCounts DefStop) → IsChecked f text first a →
    IsChecked f text first b → (a ≡ Err Memory → ⊥) → (b ≡ Err Memory → ⊥) → a ≡ b
checked_once f text first (Ok c) (Ok d) p q some more = search (arith, read_once)
checked_once f text first (Ok c) (Err (Refused r)) p q some more = absurd (not_both _ p.0 r p.1.0 q)
checked_once f text first (Ok c) (Err (Invalid x)) p q some more =
    search (arith, none_some, all_judged_once, read_once)
checked_once f text first (Err (Refused r)) (Ok d) p q some more = absurd (not_both _ q.0 r q.1.0 p)
checked_once f text first (Err (Refused r)) (Err (Refused s)) p q some more = search (arith, refused_once)
checked_once f text first (Err (Refused r)) (Err (Invalid x)) p q some more = absurd (not_both _ q.0 r q.1.0 p)
checked_once f text first (Err (Invalid x)) (Ok d) p q some more =
    search (arith, none_some, all_judged_once, read_once)
checked_once f text first (Err (Invalid x)) (Err (Refused r)) p q some more = absurd (not_both _ p.0 r p.1.0 q)
checked_once f text first (Err (Invalid x)) (Err (Invalid y)) p q some more =
    search (arith, some_once, all_judged_once, read_once)
checked_once f text first (Err Memory) b p q some more = absurd (some refl)
checked_once f text first (Ok c) (Err Memory) p q some more = absurd (more refl)
checked_once f text first (Err (Refused r)) (Err Memory) p q some more = absurd (more refl)
checked_once f text first (Err (Invalid x)) (Err Memory) p q some more = absurd (more refl)

-- what is accepted, by the grammar
abbrev HadMemory : Result DefinedCounts DefStop → Type 0
HadMemory result = result ≡ Err Memory → ⊥

pub ok_had_memory : (counts : DefinedCounts) → HadMemory (Ok counts)
ok_had_memory counts h = cc

pub refused_had_memory : (refusal : CertRefusal) → HadMemory (Err (Refused refusal))
refused_had_memory refusal h = cc

pub invalid_had_memory : (fault : DefinitionFault) → HadMemory (Err (Invalid fault))
invalid_had_memory fault h = cc

not_accepted : (stop : DefStop) (counts : DefinedCounts) → ◌≡◌ {A = Result DefinedCounts DefStop} (Err stop) (Ok counts) → ⊥
not_accepted stop counts h = cc

module _ (f : Dqbf) (text : List ℕ) (first : ℕ)
    (taken : (blocks : List DefinitionBlock) → SpellsDefinitions text f blocks → definitions_of f text first ≡ Ok blocks)
    (spelled : (blocks : List DefinitionBlock) → definitions_of f text first ≡ Ok blocks → SpellsDefinitions text f blocks)
  where
    none_faultless : (stop : DefStop) → IsChecked f text first (Err stop) → HadMemory (Err stop) → (counts : DefinedCounts) →
        SpellsFaultless f text counts → ⊥
    none_faultless stop checked some counts is =
        not_accepted stop counts (checked_once f text first (Err stop) (Ok counts) checked
        (is.blocks, (taken is.blocks is.spelled, (is.judged, is.counted))) some (ok_had_memory counts))

    pub accepts_faultless : (result : Result DefinedCounts DefStop) → IsChecked f text first result →
        AcceptsFaultless f text result
    accepts_faultless (Ok counts) checked = search arith
    accepts_faultless (Err (Refused refusal)) checked =
        none_faultless (Refused refusal) checked (refused_had_memory refusal)
    accepts_faultless (Err (Invalid fault)) checked = none_faultless (Invalid fault) checked (invalid_had_memory fault)
    accepts_faultless (Err Memory) checked = tt
