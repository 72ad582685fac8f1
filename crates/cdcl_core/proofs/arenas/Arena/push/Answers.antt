use Rattle.std.proofs.Common.{◌≡◌, ◌∷◌, ◌++◌, [], sym, ◌∙◌, ap, subst, List, length, length-append, arith, ℕ}
use Rattle.dq_lits.specs.Literal.{Literal}
use Rattle.learning_trail.specs.Pieces.{AreEnds, pieces}
use Rattle.short_numbers.specs.Numbers.{Numbers}
use Rattle.cdcl_core.specs.ArenaInside.{Arranged}
use Rattle.cdcl_core.specs.Runs.{IsNextStart, AreStarts}
use Rattle.cdcl_core.proofs.EqualHeads.{starts_more}
use Rattle.learning_trail.proofs.ClausePieces.{pieces-length, pieces_more, ends_more}
use Rattle.cdcl_core.proofs.arenas.Arena.push.Goals as goal

pub push-requires-2-clause-fits : goal.push-requires-2-clause-fits
push-requires-2-clause-fits c = search (arith, pieces-length)

pub invariant_of-self : goal.invariant_of-self
invariant_of-self c =
    let s = c.self.inside in
    let all = c.append.new.literals.items in
    let lits = c.args.lits.now in
    let old = pieces s.literals.items 0 s.ends.items in
    let total : c.len.result ≡ length all = omega (arith, c.len.ensures, c.append.new.literals.ok.0) in
    let ends : c.push.new.self.items ≡ s.ends.items ++ c.len.result ∷ [] =
    ap (λ (v : Numbers). v.items) c.push.ensures in
    let starts : c.push-2.new.self.items ≡ s.starts.items ++ c.next_start-start.result ∷ [] =
    ap (λ (v : Numbers). v.items) c.push-2.ensures in
    let more : pieces all 0 c.push.new.self.items ≡ old ++ lits ∷ [] =
    ap (pieces all 0) ends ∙ pieces_more s.literals.items lits all s.ends.items c.len.result c.self.invariant.ends
    c.append.ensures total in
    let next : IsNextStart old lits c.next_start-start.result =
    subst (λ (v : Arranged). IsNextStart v.clauses lits c.next_start-start.result)
    (sym c.self.view_is) c.next_start-start.ensures in
    let begin =
    starts_more old s.starts.items lits c.next_start-start.result
    (c.self.invariant.count ∙ sym (pieces-length s.literals.items 0 s.ends.items)) c.self.invariant.starts next in
    record {
      ends = subst (λ (es : List ℕ). AreEnds 0 es (length all)) (sym ends)
          (ends_more s.literals.items lits all s.ends.items c.len.result c.self.invariant.ends c.append.ensures total);
      count = let count = c.self.invariant.count in
          omega (
            arith,
            count,
            ap length ends,
            ap length starts,
            length-append s.ends.items (c.len.result ∷ []),
            length-append s.starts.items (c.next_start-start.result ∷ []),
          );
      starts = subst (λ (cs : List (List Literal)). AreStarts cs c.push-2.new.self.items) (sym more)
          (subst (λ (xs : List ℕ). AreStarts (old ++ lits ∷ []) xs) (sym starts) begin);
      spare = λ h. absurd (omega (arith, h));
    }

pub returns : goal.returns
returns c = search (arith, pieces_more)
