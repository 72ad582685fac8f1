-- A row's signs, read from left to right.
use Rattle.std.proofs.Common.{◌≡◌, ℕ, ◌+◌, ◌<◌, ℤ, pos, nat_abs, w64, to_z, of_z, Bool, false, inl, inr, List, [], ◌∷◌, ◌++◌, map, take, set, length, get_or, Ok, refl, sym, ◌∙◌, ap, ap₂, arith, append_assoc, get_or-set_other, get_or-set_same}
use Rattle.std.specs.Int.{is_positive}
use Rattle.std.specs.Str.{bytes_eq}
use Rattle.std.proofs.Math.ListN.{get_or-append}
use Rattle.std.proofs.Math.Seq.{take-append_seam, take-length}
use Rattle.std.proofs.lemmas.Bool.{cases_eq}
use Rattle.std.proofs.lemmas.List.{ext_get_or, get_or_push, get_or-map, length-map, length-set, length-take-le, map-append, take_more}
use Rattle.std.proofs.lemmas.Slice.Eq.{bytes_eq-Decides}
use Rattle.dq_text.specs.Number.{number_of}
use Rattle.dq_text.specs.declared.numbers.Number.TheVariants.{Int}
use Rattle.cert_text.specs.Grammar.{Tokens, integers}
use Rattle.cert_text.specs.LineStop.{and_then}
use Rattle.cert_text.specs.Numbers.{line_integers}
use Rattle.cert_text.specs.RowLine.{row_of}
use Rattle.cert_text.specs.SignsTaken.{SignsTaken}
use Rattle.cert_text.proofs.Integers.{integers_taken}
use Rattle.cert_text.proofs.PlainSteps.{first_small, integers-append, wide}
use Rattle.cert_text.proofs.SpelledRows.{chosen}

-- one sign more
pub one_sign : (universals : List ℕ) (start tokens left : Tokens) (row : List Bool) (i : ℕ) (n : ℤ) (d : ℕ) →
    SignsTaken universals start tokens row i →
    i < length universals → map number_of tokens ≡ Int n ∷ map number_of left →
    nat_abs (to_z w64 (of_z w64 n)) ≡ get_or universals i d →
    SignsTaken universals start left (set row i (is_positive (to_z w64 (of_z w64 n)))) (i + 1)
one_sign universals start tokens left row i n d taken inside first is =
    let same = wide n (first_small tokens left n first) in
    let ns = taken.numbers in
    let long : length ns ≡ i = omega (
      arith,
      sym (length-map ns nat_abs),
      ap length taken.named,
      length-take-le i universals (omega (arith, inside)),
    ) in
    let sign = is_positive (to_z w64 (of_z w64 n)) in
    record {
      numbers = ns ++ n ∷ [];
      spelled = taken.spelled
          ∙ ap (λ more. integers ns ++ more) first
          ∙ sym (append_assoc (integers ns) (Int n ∷ []) (map number_of left))
          ∙ ap (λ all. all ++ map number_of left) (sym (integers-append ns (n ∷ [])));
      named = map-append nat_abs ns (n ∷ [])
          ∙ ap₂ (λ a b. a ++ b ∷ []) taken.named (ap nat_abs (sym same) ∙ is)
          ∙ sym (take_more universals i d inside);
      whole = length-set row i sign ∙ taken.whole;
      bits = λ k below.
          elim (cases_eq k i) [
            | inl here ↦
                ap (λ j. get_or (set row i sign) j false) here
                ∙ get_or-set_same row i sign false (omega (arith, inside, taken.whole))
                ∙ ap is_positive (same ∙ sym (get_or_push ns n (pos 0) k (long ∙ sym here)))
            | inr other ↦
                let before : k < i = omega (arith, below, other) in
                let read : get_or (set row i sign) k false ≡ get_or row k false = rw get_or-set_other refl in
                read ∙ taken.bits k before ∙ ap is_positive (sym
                (get_or-append ns (n ∷ []) (pos 0) k (omega (arith, before, long))))
          ];
    }

-- all signs, and 0 behind them
pub signs_read : (universals : List ℕ) (start tokens : Tokens) (row : List Bool) (i : ℕ) → length universals ≡ i →
    SignsTaken universals start tokens row i →
    map number_of tokens ≡ Int (pos 0) ∷ [] → and_then (row_of universals) (line_integers start) ≡ Ok row
signs_read universals start tokens row i all taken end =
    let ns = taken.numbers in
    let zeros : List ℤ = pos 0 ∷ [] in
    let named : map nat_abs ns ≡ universals = taken.named ∙ ap (λ k. take k universals) (sym all)
    ∙ take-length universals in
    let long : length ns ≡ length universals = sym (length-map ns nat_abs) ∙ ap length named in
    let spelled : map number_of start ≡ integers (ns ++ zeros) =
    taken.spelled ∙ ap (λ more. integers ns ++ more) end ∙ sym (integers-append ns zeros) in
    let names : map nat_abs (ns ++ zeros) ≡ universals ++ 0 ∷ [] =
    map-append nat_abs ns zeros ∙ ap (λ xs. xs ++ 0 ∷ []) named in
    let bits : map is_positive ns ≡ row =
    ext_get_or false (map is_positive ns) row (length-map ns is_positive ∙ long ∙ sym taken.whole)
    (λ k below.
    let inside : k < length ns = omega (arith, below, length-map ns is_positive) in
    get_or-map is_positive ns k (pos 0) false inside ∙ sym (taken.bits k (omega (arith, inside, long, all)))) in
    let signs : map is_positive (take (length universals) (ns ++ zeros)) ≡ row =
    ap (λ k. map is_positive (take k (ns ++ zeros))) (sym long) ∙ ap (map is_positive) (take-append_seam ns zeros)
    ∙ bits in
    ap (and_then (row_of universals)) (integers_taken start (ns ++ zeros) spelled)
    ∙ chosen (bytes_eq (map nat_abs (ns ++ zeros)) (universals ++ 0 ∷ []))
    (map is_positive (take (length universals) (ns ++ zeros)))
    ((bytes_eq-Decides (map nat_abs (ns ++ zeros)) (universals ++ 0 ∷ [])).1 names)
    ∙ ap Ok signs
