use Rattle.std.proofs.Common.{◌≡◌, ◌+◌, ◌∷◌, ◌++◌, [], sym, ◌∙◌, ap, subst, List, length, arith, ℕ, length-append}
use Rattle.dq_lits.specs.Literal.{Literal}
use Rattle.cdcl_scan.specs.Runs.{AreRuns}
use Rattle.learning_trail.specs.Pieces.{AreEnds, pieces}
use Rattle.cdcl_scan.specs.Storage.{Stored}
use Rattle.learning_trail.proofs.ClausePieces.{pieces_more, ends_more, pieces-length}
use Rattle.cdcl_scan.proofs.clauses.ClauseStoreClauses.add.Goals as goal

pub invariant_of-self : goal.invariant_of-self
invariant_of-self c =
    let s = c.self.inside in
    let all = c.append.new.literals.items in
    let total : c.len.result ≡ length all = omega (arith, c.len.ensures, c.append.new.literals.ok.0) in
    let ends : c.put_end.new.ends.items ≡ s.ends.items ++ c.len.result ∷ [] = c.put_end.ensures in
    let more : pieces all 0 c.put_end.new.ends.items ≡ pieces s.literals.items 0 s.ends.items ++ c.args.lits.now ∷ [] =
    ap (pieces all 0) ends ∙ pieces_more s.literals.items c.args.lits.now all s.ends.items c.len.result
    c.self.invariant.ends c.append.ensures total in
    let old = pieces-length s.literals.items 0 s.ends.items in
    let last : c.len-2.result ≡ length (pieces s.literals.items 0 s.ends.items) + 1 =
    omega (
      arith,
      c.len-2.ensures,
      c.put_end.new.ends.ok.0,
      ap length ends,
      length-append s.ends.items (c.len.result ∷ []),
      old,
    ) in
    let count : c.len-2.result ≡ length c.put_end.new.ends.items =
    omega (arith, c.len-2.ensures, c.put_end.new.ends.ok.0) in
    record {
      ends = subst (λ (es : List ℕ). AreEnds 0 es (length all)) (sym ends)
          (ends_more s.literals.items c.args.lits.now all s.ends.items c.len.result c.self.invariant.ends
          c.append.ensures total);
      runs = subst (λ (n : ℕ). AreRuns 0 c.extend_runs.new.runs.items (pieces all 0 c.put_end.new.ends.items) n) count
          (subst (λ (cs : List (List Literal)). AreRuns 0 c.extend_runs.new.runs.items cs c.len-2.result) (sym more)
          (c.extend_runs.ensures (pieces s.literals.items 0 s.ends.items)
          (subst (AreRuns 0 s.runs.items (pieces s.literals.items 0 s.ends.items))
          (sym old) c.self.invariant.runs) last));
      spare = λ h. absurd (omega (arith, h));
    }

pub returns : goal.returns
returns c =
    let s = c.self.inside in
    let all = c.append.new.literals.items in
    let total : c.len.result ≡ length all = omega (arith, c.len.ensures, c.append.new.literals.ok.0) in
    let ends : c.put_end.new.ends.items ≡ s.ends.items ++ c.len.result ∷ [] = c.put_end.ensures in
    ap (pieces all 0) ends ∙ pieces_more s.literals.items c.args.lits.now all s.ends.items c.len.result
    c.self.invariant.ends c.append.ensures total
    ∙ ap (λ (v : Stored). v.clauses ++ c.args.lits.now ∷ []) c.self.view_is
