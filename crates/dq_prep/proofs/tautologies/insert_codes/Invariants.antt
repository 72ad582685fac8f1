use Rattle.std.proofs.Common.{◌≡◌, ◌==◌, ℕ, take}
use Rattle.std.specs.List.{list_any}
use Rattle.number_tables.specs.Numbers.{has_number}
use Rattle.dq_prep.specs.Codes.{literal_code}
use Rattle.dq_prep.proofs.tautologies.insert_codes.Given as goal

abbrev pub invariant-loop-l : goal.invariant-loop-l
invariant-loop-l l =
    (n : ℕ) → has_number l.codes n ≡ list_any (λ k. literal_code k == n) (take l.l-index l.clause)
