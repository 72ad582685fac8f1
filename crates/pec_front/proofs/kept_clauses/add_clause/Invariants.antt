use Rattle.std.proofs.Common.{◌≡◌, ◌≤◌, ◌==◌, not, map, take, filter, []}
use Rattle.std.specs.List.{All, fold}
use Rattle.cert_text.specs.NegatedMatrix.{as_literal}
use Rattle.dq_lits.specs.Literal.{variable_of}
use Rattle.dqdimacs_reader.specs.Building.{add_literal}
use Rattle.pec_front.proofs.kept_clauses.add_clause.Given as goal

abbrev pub invariant-loop-literal : goal.invariant-loop-literal
invariant-loop-literal l = record {
  so_far : l.buffer.items
      ≡ fold add_literal [] (map as_literal (filter (λ k. not (k == 0)) (take l.literal-index l.clause)));
  within : All (λ m. variable_of m ≤ l.f.variables) l.buffer.items;
}
