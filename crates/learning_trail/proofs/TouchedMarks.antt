-- Marks, and the variables whose marks aren't clear.
use Rattle.std.proofs.Common.{◌≡◌, ℕ, zero, suc, ◌<◌, true, ◌||◌, ◌==◌, List, [], ◌∷◌, ◌++◌, map, length, length-append, drop, set, get_or, All, Contains, refl, sym, ◌∙◌, ap, arith, get_or-set_other, get_or-set_same}
use Rattle.std.proofs.lemmas.Bool.{cases_eq, eq-eqb, eqb-true, false_from_ne_true, or_right}
use Rattle.std.proofs.lemmas.List.Elements.{All-cons, All-nil, All-head, All-tail}
use Rattle.std.proofs.Math.ListN.{get_or-map}
use Rattle.learning_trail.specs.declared.notes.Mark.{Mark}
use Rattle.learning_trail.specs.declared.notes.Mark.TheVariants.{Clear, Marked, Past}
use Rattle.learning_trail.specs.Marks.{marked}
use Rattle.learning_trail.specs.Noting.{is_marked, is_touched, AreTouched}

pub touched_from : (m : Mark) → is_marked m ≡ true → is_touched m ≡ true
touched_from Clear h = cc
touched_from Marked h = refl
touched_from Past h = cc

-- what notes show of a mark
pub mark_shown : (marks : List Mark) (v : ℕ) → marked (map is_marked marks) v ≡ is_marked (get_or marks v Clear)
mark_shown marks v = get_or-map is_marked marks v Clear

-- one mark is set
pub mark_set : (marks : List Mark) (v w : ℕ) (m : Mark) → v < length marks → is_marked m ≡ true
    → marked (map is_marked (set marks v m)) w ≡ (marked (map is_marked marks) w || (v == w))
mark_set marks v w m lt on =
    search (
      arith,
      mark_shown,
      cases_eq,
      get_or-set_same,
      or_right,
      eq-eqb,
      get_or-set_other,
      false_from_ne_true,
      eqb-true,
    )

-- the marks that aren't clear yet are those of the variables to come
abbrev pub AreLeft : List Mark → List ℕ → ℕ → Type 0
AreLeft marks touched i = (v : ℕ) → is_touched (get_or marks v Clear) ≡ true → Contains (drop i touched) v

-- a clear mark more
pub touched_grown : (marks : List Mark) (touched : List ℕ) → AreTouched marks touched →
    AreTouched (marks ++ Clear ∷ []) touched
touched_grown marks touched are = record {
  in_range = grown touched are.in_range;
  whole = λ v h. are.whole v (ap is_touched (sym (read marks v)) ∙ h);
}
  where
    grown : (xs : List ℕ) → All (λ v. v < length marks) xs → All (λ v. v < length (marks ++ Clear ∷ [])) xs
    grown [] all = All-nil (λ v. v < length (marks ++ Clear ∷ []))
    grown (x ∷ xs) all = search (arith, All-head, All-cons, length-append, All-tail, (grown xs))

    read : (ms : List Mark) (v : ℕ) → get_or (ms ++ Clear ∷ []) v Clear ≡ get_or ms v Clear
    read [] zero = refl
    read [] (suc v) = refl
    read (m ∷ ms) zero = refl
    read (m ∷ ms) (suc v) = read ms v
