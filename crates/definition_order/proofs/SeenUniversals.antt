-- Which universals are seen.
use Rattle.std.proofs.Common.{ℕ, ◌≤◌, ◌<◌, List, length, take, get_or, sym, ◌∙◌, arith, get_or-take}
use Rattle.std.specs.List.{All, Contains}
use Rattle.std.proofs.lemmas.List.{length-take, get_or_default}

-- the first ones are among more first ones
pub first_within : (us : List ℕ) (m n : ℕ) → m ≤ n → All (Contains (take n us)) (take m us)
first_within us m n few k d below =
    let long = length-take m us in
    let longer = length-take n us in
    let x = get_or (take m us) k d in
    let inside : k < m = omega (arith, below, long) in
    let within : k < length us = omega (arith, below, long) in
    let more : k < n = omega (arith, inside, few) in (
      k,
      omega (arith, within, more, longer),
      get_or-take n us k x more ∙ get_or_default us k x d within ∙ sym
          (get_or-take m us k d inside),
    )
