-- Places of ids among ascending ones.
use Rattle.std.proofs.Common.{◌≡◌, ℕ, ◌≤◌, ◌<◌, List, length, get_or, Ok, Err, sym, ◌∙◌, ap, arith, Contains, ◌⊎◌, inl, inr}
use Rattle.std.specs.List.{AllWithin}
use Rattle.std.specs.List.Sorted.{IsBinarySearchResult, IsStrictlyIncreasing}
use Rattle.std.specs.Ordering.{nat_cmp}
use Rattle.std.specs.declared.cmp.Ordering.TheVariants.{Less, Equal, Greater}
use Rattle.std.proofs.lemmas.Bool.{cases_lt}
use Rattle.std.proofs.lemmas.List.Kept.{AllPairs-from_increasing}
use Rattle.list_laws.proofs.Numbers.{nat_cmp-same}
use Rattle.cert_export.specs.Written.{place_in}
use Rattle.cert_export.proofs.Allowed.{place_of}
use Rattle.cert_export.proofs.ReachedLines.{rising_of}
use Rattle.dq_formula.proofs.Search.{same-from_equal, index-rises}

-- what is found is at its place
pub place_found : (ids : List ℕ) (id at : ℕ) → IsStrictlyIncreasing ids → at < length ids →
    IsBinarySearchResult (λ y. nat_cmp y id) ids (Ok at) → at ≡ place_in ids id
place_found ids id at ascending below found =
    let same : get_or ids at id ≡ id = same-from_equal (get_or ids at id) id (found id) in
    sym (place_of ids (rising_of ids (AllPairs-from_increasing ids ascending)) at id below) ∙ ap (place_in ids) same

-- an id that is there is found
pub found_there : (ids : List ℕ) (id i : ℕ) → IsStrictlyIncreasing ids → Contains ids id →
    IsBinarySearchResult (λ y. nat_cmp y id) ids (Err i) → ⊥
found_there ids id i ascending m result =
    no (result (λ a b d le l. index-rises (get_or ids a d) (get_or ids b d) id (rises a b d le l))) where
      rises : (a b d : ℕ) → a ≤ b → b < length ids → get_or ids a d ≤ get_or ids b d
      rises a b d le l = by_case (cases_lt a b) where
        by_case : (a < b) ⊎ (b ≤ a) → get_or ids a d ≤ get_or ids b d
        by_case (inl less) = omega (arith, AllPairs-from_increasing ids ascending a b d less l)
        by_case (inr more) = search arith

      at_member : nat_cmp (get_or ids m.0 id) id ≡ Equal
      at_member = rw m.2 (nat_cmp-same id)

      no : AllWithin (λ y. nat_cmp y id ≡ Less) ids 0 i × AllWithin (λ y. nat_cmp y id ≡ Greater) ids i (length ids) → ⊥
      no parts = search (arith, at_member, cases_lt)
