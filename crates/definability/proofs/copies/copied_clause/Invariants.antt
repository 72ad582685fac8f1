use Rattle.std.proofs.Common.{ℕ, Bool, List, take}
use Rattle.std.specs.List.{All}
use Rattle.dq_lits.specs.Literal.{variable_of}
use Rattle.dq_formula.specs.Prefix.{existential_variables}
use Rattle.hint_log.specs.Entries.{Entry}
use Rattle.hint_log.specs.Naming.{AreNamedAs}
use Rattle.definability.specs.Copies.{AreCopies, AreCopiesOf, IsCopied, copy_names}
use Rattle.definability.proofs.copies.copied_clause.Given as goal

abbrev pub invariant-loop-l : goal.invariant-loop-l
invariant-loop-l l = (entries : List Entry) (side : ℕ) (flags : List Bool)
    → AreCopies entries side flags l.f.universals l.copy.universals.items
    → AreCopiesOf entries side (existential_variables l.f) l.copy.existentials.items
    → All (λ k. IsCopied l.f flags (variable_of k)) l.clause →
    AreNamedAs entries l.lits.items (copy_names side (take l.l-index l.clause))
