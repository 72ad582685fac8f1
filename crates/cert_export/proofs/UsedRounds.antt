-- The rounds that have an instance among some ids ascend, and each such instance is of one of them.
use Rattle.std.proofs.Common.{◌≡◌, ℕ, true, List, Some, refl, ◌∙◌, ap, arith}
use Rattle.std.specs.List.{Contains, range_with_len}
use Rattle.std.specs.Option.{option_and_then}
use Rattle.std.proofs.lemmas.Bool.{eq-eqb}
use Rattle.list_laws.proofs.Members.{filter_keeps, contains-range_from_one, place_of}
use Rattle.dq_lits.specs.Formula.{Dqbf}
use Rattle.dq_lits.specs.Literal.{Literal}
use Rattle.hint_log.specs.Entries.{Entry, Given, has_id, numbered, origin_of, origin_at, rounds_of}
use Rattle.hint_log.specs.declared.origins.Origin.{Origin}
use Rattle.hint_log.specs.declared.origins.Origin.TheVariants.{Instance}
use Rattle.cert_export.specs.Expansion.{is_instance_of, has_instance, used_rounds, IsInstanceClause, IsKeptClause}
use Rattle.cert_export.proofs.Instances.{any_at, round_below}
use Rattle.std.proofs.lemmas.List.FromFn.{length-range_with_len, get_or-range_with_len}
use Rattle.std.proofs.lemmas.List.Kept.{IsStrictlyIncreasing-filter}
use Rattle.std.specs.List.Sorted.{IsStrictlyIncreasing}

-- a reached instance is of a used round
pub kept_clause : (f : Dqbf) (live : List ℕ) (entries : List Entry) (ids : List ℕ) (id : ℕ) (origin : Origin)
    (c : List Literal) → Contains ids id → numbered has_id entries id ≡ Some (Given origin c) →
    IsInstanceClause f live entries origin c → IsKeptClause f (used_rounds entries ids) live entries origin c
kept_clause f live entries ids id (Instance k j) c inside at mine =
    let range = round_below f live entries id k j c mine at in
    let at_id = place_of ids id inside in
    let own : is_instance_of k (origin_at entries id) ≡ true =
    ap (λ o. is_instance_of k (option_and_then origin_of o)) at ∙ eq-eqb k k refl in (
      filter_keeps (has_instance entries ids) (range_with_len 1 (rounds_of entries)) k
          (any_at (λ i. is_instance_of k (origin_at entries i)) ids at_id.0 id at_id.1 own)
          (contains-range_from_one (rounds_of entries) k range.0 range.1),
      mine,
    )
kept_clause f live entries ids id _ c inside at mine = absurd mine

-- they ascend
pub used_ascend : (entries : List Entry) (ids : List ℕ) → IsStrictlyIncreasing (used_rounds entries ids)
used_ascend entries ids = search (arith, IsStrictlyIncreasing-filter, length-range_with_len, get_or-range_with_len)
