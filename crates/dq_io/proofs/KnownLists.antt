-- Lists that are told or not: what stands in front of them, and behind.
use Rattle.std.proofs.Common.{◌≡◌, ℕ, ◌+◌, List, ◌++◌, take, drop, Option, Some, None, sym, ap, ◌∙◌, refl, append_assoc}
use Rattle.std.proofs.Math.Seq.{take-add}
use Rattle.std.specs.Io.KnownBytes.{append_known}

-- two pieces behind what was taken are one piece
pub append-append : (a b : List ℕ) (taken : Option (List ℕ)) →
    append_known taken (a ++ b) ≡ append_known (append_known taken a) b
append-append a b None = refl
append-append a b (Some xs) = ap Some (sym (append_assoc xs a b))

-- what was taken of a text in two writes
pub taken_more : (start now next : Option (List ℕ)) (bytes : List ℕ) (at n : ℕ) →
    now ≡ append_known start (take at bytes) → next ≡ append_known now (take n (drop at bytes)) →
    next ≡ append_known start (take (at + n) bytes)
taken_more start now next bytes at n before after =
    after ∙ ap (λ (t : Option (List ℕ)). append_known t (take n (drop at bytes))) before
    ∙ sym (append-append (take at bytes) (take n (drop at bytes)) start)
    ∙ sym (ap (λ (l : List ℕ). append_known start l) (take-add at n bytes))
