-- Blocks that are taken one after the other.
use Rattle.std.proofs.Common.{◌≡◌, ℕ, zero, suc, ◌<◌, List, [], ◌∷◌, ◌++◌, map, length, get_or, inl, inr, Option, None, Some, IsSome, is_some, Result, Ok, Err, refl, sym, ap, subst, arith, append_assoc, append-nil}
use Rattle.std.specs.List.{All, AllByRecursion}
use Rattle.std.proofs.lemmas.List.Elements.{recursion_from_All}
use Rattle.dq_lits.specs.Formula.{Existential, Dqbf, existential_of}
use Rattle.dq_formula.specs.Prefix.{existential_variables}
use Rattle.dq_text.specs.Line.{LineCursor, lines_from}
use Rattle.cert_text.specs.DefinitionBlocks.{DefinitionBlock}
use Rattle.cert_text.specs.DefinitionText.{read_blocks}
use Rattle.cert_text.specs.Lines.{and_read}
use Rattle.cert_text.specs.Scan.{blank_lines}
use Rattle.cert_text.specs.declared.faults.CertRefusal.{CertRefusal}
use Rattle.defined_checker.specs.Judging.{AreJudged, IsJudged, counted, counts_of}
use Rattle.defined_checker.specs.Answers.{IsFaultWith}
use Rattle.defined_checker.specs.Tallies.{IsTalliedWith}
use Rattle.defined_checker.specs.declared.checks.DefinedCounts.{DefinedCounts}
use Rattle.defined_checker.specs.declared.faults.DefinitionFault.{DefinitionFault}

abbrev pub Read : Type 0
Read = Result (List DefinitionBlock) CertRefusal

-- behind blocks that were read
abbrev pub put_behind : List DefinitionBlock → Read → Read
put_behind before read = and_read read (λ rest. Ok (before ++ rest))

module _ (f : Dqbf) (left : LineCursor) where
  abbrev pub to_read : List ℕ → Read
  to_read ys = read_blocks f ys (lines_from left.number left.rest) left.number

  one_more : (before : List DefinitionBlock) (block : DefinitionBlock) (read : Read) →
      put_behind before (and_read read (λ blocks. Ok (block ∷ blocks))) ≡ put_behind (before ++ block ∷ []) read
  one_more before block (Ok blocks) = ap Ok (sym (append_assoc before (block ∷ []) blocks))
  one_more before block (Err refusal) = refl

  pub all_taken : (before : List DefinitionBlock) →
      put_behind before (to_read []) ≡ and_read (blank_lines (lines_from left.number left.rest)) (λ _. Ok before)
  all_taken before = search (arith, append-nil)

-- the blocks so far, with one more
counts_behind : (counts : DefinedCounts) (blocks : List DefinitionBlock) (block : DefinitionBlock) →
    counts_of counts (blocks ++ block ∷ []) ≡ counted block (counts_of counts blocks)
counts_behind counts [] block = refl
counts_behind counts (b ∷ blocks) block = counts_behind (counted b counts) blocks block

judged_behind : (f : Dqbf) (blocks : List DefinitionBlock) (block : DefinitionBlock) (fault : Option DefinitionFault) →
    AreJudged f blocks None → IsJudged f block fault → AreJudged f (blocks ++ block ∷ []) fault
judged_behind f [] block None before is = inl (is, refl)
judged_behind f [] block (Some name) before is = inr (name, (is, refl))
judged_behind f (b ∷ blocks) block fault before is = search (arith, (judged_behind f blocks block fault))

fault_stays : (f : Dqbf) (blocks : List DefinitionBlock) (block : DefinitionBlock) (name : DefinitionFault) →
    AreJudged f blocks (Some name) → AreJudged f (blocks ++ block ∷ []) (Some name)
fault_stays f [] block name before = search arith
fault_stays f (b ∷ blocks) block name before = search (arith, (fault_stays f blocks block name))

pub tallied_first : (f : Dqbf) (block : DefinitionBlock) (counts others : DefinedCounts) (fault : Option DefinitionFault) →
    others ≡ counted block counts → IsJudged f block fault →
    IsTalliedWith f block (record { counts = counts; fault = None }) (record { counts = others; fault = fault })
tallied_first f block counts others fault is judged blocks before = search (arith, judged_behind, counts_behind)

pub tallied_later : (f : Dqbf) (block : DefinitionBlock) (counts others : DefinedCounts) (name : DefinitionFault) →
    others ≡ counted block counts →
    IsTalliedWith f block (record { counts = counts; fault = Some name })
    (record { counts = others; fault = Some name })
tallied_later f block counts others name is blocks before = search (arith, fault_stays, counts_behind)

pub tallied_by : (f : Dqbf) (block : DefinitionBlock) (fault : Option DefinitionFault) (counts others : DefinedCounts)
    (new : Option DefinitionFault) → IsFaultWith f block fault new → others ≡ counted block counts →
    IsTalliedWith f block (record { counts = counts; fault = fault }) (record { counts = others; fault = new })
tallied_by f block None counts others new with_block is = tallied_first f block counts others new is with_block
tallied_by f block (Some name) counts others new with_block is =
    subst (λ o. IsTalliedWith f block (record { counts = counts; fault = Some name })
    (record { counts = others; fault = o })) (sym with_block) (tallied_later f block counts others name is)

-- each existential's variable names it
pub is_existential : (f : Dqbf) (k : ℕ) → All (λ y. existential_of f y.variable ≡ Some y) f.existentials →
    k < length (existential_variables f) → IsSome (existential_of f (get_or (existential_variables f) k 0))
is_existential f k named below = by f.existentials (recursion_from_All _ f.existentials named) k below
  where
    by : (es : List Existential) → AllByRecursion (λ y. existential_of f y.variable ≡ Some y) es → (k : ℕ) →
        k < length (map (λ y. y.variable) es) → IsSome (existential_of f (get_or (map (λ y. y.variable) es) k 0))
    by [] all k below = absurd (omega (arith, below))
    by (y ∷ es) all zero below = ap is_some all.0
    by (y ∷ es) all (suc k) below = by es all.1 k (omega (arith, below))
