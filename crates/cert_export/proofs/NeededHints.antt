-- Hints are cut where a line's fault is.
use Rattle.std.proofs.Common.{◌≡◌, ℕ, false, List, map, take, arith}
use Rattle.dq_lits.specs.Literal.{Literal, opposite}
use Rattle.dq_lits.specs.Derivation.{LiveClauses, is_tautology, line_fault}
use Rattle.rup_core.specs.Verdict.{fault_in}
use Rattle.rup_core.specs.declared.derivation.Derived.{Derived}
use Rattle.rup_core.specs.declared.derivation.Derived.TheVariants.{Yes, No}
use Rattle.cert_export.specs.Renaming.{cut_hints}
use Rattle.cert_export.proofs.CutHints.{cut_at_fault}

abbrev pub truncated : Derived → List ℕ → List ℕ
truncated Yes hints = hints
truncated (No fault) hints = take fault hints

pub needed_is : (d : Derived) (live : LiveClauses) (literals : List Literal) (hints : List ℕ) →
    is_tautology literals ≡ false → fault_in d ≡ line_fault live literals hints →
    truncated d hints ≡ cut_hints live (map opposite literals) hints
needed_is d live literals hints consistent fault = search (arith, (cut_at_fault live hints))
