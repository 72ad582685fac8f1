-- Marks by the places of their lines, in blocks.
use Rattle.std.proofs.Common.{◌≡◌, ℕ, zero, suc, ◌+◌, ◌/◌, ◌%◌, ◌<◌, Bool, false, cond, inl, inr, List, [], ◌∷◌, ◌++◌, length, get_or, set, refl, sym, ◌∙◌, ap, arith, length-append, length-set, ext_get_or, get_or-set_same, get_or-set_other}
use Rattle.std.specs.List.{All}
use Rattle.std.proofs.Math.ListN.{get_or-append}
use Rattle.std.proofs.lemmas.Bool.{cases_eq, eq-eqb, ne_eqb}
use Rattle.std.proofs.lemmas.List.{get_or_push}
use Rattle.std.proofs.lemmas.List.Elements.{All-get_or}
use Rattle.cert_text.specs.Marks.{IsBlock, marks_below, AreSameBelow, SetsMark}
use Rattle.cert_text.specs.declared.live_lines.TheConstants.{BLOCK}

pub length-marks : (n : ℕ) (at : ℕ → Bool) → length (marks_below n at) ≡ n
length-marks zero at = refl
length-marks (suc n) at = omega (arith, length-append (marks_below n at) (at n ∷ []), length-marks n at)

pub mark_of_place : (n k : ℕ) (at : ℕ → Bool) → k < n → get_or (marks_below n at) k false ≡ at k
mark_of_place zero k at below = absurd (omega (arith, below))
mark_of_place (suc n) k at below =
    search (arith, cases_eq, get_or_push, length-marks, get_or-append, (mark_of_place n k at))

pub marks_same : (n : ℕ) (old new : ℕ → Bool) → AreSameBelow n old new → marks_below n new ≡ marks_below n old
marks_same zero old new same = refl
marks_same (suc n) old new same = search (arith, (marks_same n old new))

-- one mark written
pub marks_set : (n place : ℕ) (old new : ℕ → Bool) (mark : Bool) → place < n → SetsMark old new place mark →
    marks_below n new ≡ set (marks_below n old) place mark
marks_set n place old new mark within sets =
    let marks = marks_below n old in
    let long = length-marks n old in
    ext_get_or false (marks_below n new) (set marks place mark)
    (length-marks n new ∙ sym long ∙ sym (length-set marks place mark))
    (λ k k_below.
    let below : k < n = omega (arith, k_below, length-marks n new) in
    mark_of_place n k new below ∙ sets k
    ∙ elim (cases_eq k place) [
      | inl same ↦
          ap (λ b. cond b mark (old k)) (eq-eqb k place same)
          ∙ sym (ap (λ j. get_or (set marks place mark) j false) same
          ∙ get_or-set_same marks place mark false (omega (arith, within, long)))
      | inr other ↦
          ap (λ b. cond b mark (old k)) (ne_eqb k place other) ∙ sym (mark_of_place n k old below)
          ∙ sym (get_or-set_other marks place k mark false other)
    ])

-- one mark more
pub marks_pushed : (n : ℕ) (old mid new : ℕ → Bool) (mark : Bool) → AreSameBelow n old mid →
    SetsMark mid new n mark → marks_below (n + 1) new ≡ marks_below n old ++ mark ∷ []
marks_pushed n old mid new mark same sets = search (arith, marks_same, ne_eqb, eq-eqb)

-- a place is one of its block's
pub in_block : (blocks : List (List Bool)) (place : ℕ) (other : List Bool) → All IsBlock blocks →
    place / BLOCK < length blocks → place % BLOCK < length (get_or blocks (place / BLOCK) other)
in_block blocks place other are below = search (arith, All-get_or)
