-- Lemmas on bit lists and choices.
use Rattle.std.proofs.Common.{◌≡◌, ℕ, zero, suc, Bool, true, false, cond, ◌&&◌, ◌||◌, List, [], ◌∷◌, ◌++◌, map, length, refl, sym, ◌∙◌, ap, arith}
use Rattle.std.proofs.lemmas.List.{length-map}
use Rattle.std.specs.List.{list_any, filter}
use Rattle.std.proofs.lemmas.List.Folds.{list_any-append}
use Rattle.list_laws.proofs.Truths.{or_true}
use Rattle.dq_lits.specs.Literal.{Assignment}
use Rattle.dq_lits.specs.Formula.{Existential}
use Rattle.dq_lits.specs.Henkin.{same_bits, restriction, HenkinChoice, choice_value, same_bit}
use Rattle.std.proofs.lemmas.Bool.{true≢false}

pub same_bits-refl : (bits : List Bool) → same_bits bits bits ≡ true
same_bits-refl [] = refl
same_bits-refl (true ∷ bits) = same_bits-refl bits
same_bits-refl (false ∷ bits) = same_bits-refl bits

-- equal bit lists are one
pub same_bits-sound : (xs ys : List Bool) → same_bits xs ys ≡ true → xs ≡ ys
same_bits-sound [] [] h = refl
same_bits-sound [] (y ∷ ys) h = cc
same_bits-sound (x ∷ xs) [] h = cc
same_bits-sound (true ∷ xs) (true ∷ ys) h = ap (λ zs. true ∷ zs) (same_bits-sound xs ys h)
same_bits-sound (true ∷ xs) (false ∷ ys) h = cc
same_bits-sound (false ∷ xs) (true ∷ ys) h = cc
same_bits-sound (false ∷ xs) (false ∷ ys) h = ap (λ zs. false ∷ zs) (same_bits-sound xs ys h)

-- every list of n bits
abbrev all_bits : ℕ → List (List Bool)
all_bits zero = [] ∷ []
all_bits (suc n) = map (λ bits. true ∷ bits) (all_bits n) ++ map (λ bits. false ∷ bits) (all_bits n)

same_under : (b : Bool) (bits : List Bool) (xs : List (List Bool)) →
    list_any (same_bits (b ∷ bits)) (map (λ zs. b ∷ zs) xs) ≡ list_any (same_bits bits) xs
same_under b bits [] = refl
same_under true bits (x ∷ xs) = ap (λ r. same_bits bits x || r) (same_under true bits xs)
same_under false bits (x ∷ xs) = ap (λ r. same_bits bits x || r) (same_under false bits xs)

all_bits-complete : (bits : List Bool) → list_any (same_bits bits) (all_bits (length bits)) ≡ true
all_bits-complete [] = refl
all_bits-complete (true ∷ bits) =
    let rest = all_bits (length bits) in
    list_any-append (same_bits (true ∷ bits)) (map (λ zs. true ∷ zs) rest) (map (λ zs. false ∷ zs) rest)
    ∙ ap (λ r. r || list_any (same_bits (true ∷ bits)) (map (λ zs. false ∷ zs) rest))
    (same_under true bits rest ∙ all_bits-complete bits)
all_bits-complete (false ∷ bits) =
    let rest = all_bits (length bits) in
    list_any-append (same_bits (false ∷ bits)) (map (λ zs. true ∷ zs) rest) (map (λ zs. false ∷ zs) rest)
    ∙ ap (λ r. list_any (same_bits (false ∷ bits)) (map (λ zs. true ∷ zs) rest) || r)
    (same_under false bits rest ∙ all_bits-complete bits)
    ∙ or_true _

list_any-cond : (p : List Bool → Bool) (b : Bool) (x : List Bool) (xs : List (List Bool)) →
    list_any p (cond b (x ∷ xs) xs) ≡ cond b (p x || list_any p xs) (list_any p xs)
list_any-cond p true x xs = refl
list_any-cond p false x xs = refl

kept_step : (s r gx gb : Bool) → (s ≡ true → gx ≡ gb) → cond gx (s || (r && gb)) (r && gb) ≡ ((s || r) && gb)
kept_step true true true true same = refl
kept_step true false true true same = refl
kept_step true r false false same = grind arith
kept_step true r true false same = let e = same refl in cc
kept_step true r false true same = let e = same refl in cc
kept_step false r true gb same = refl
kept_step false r false gb same = refl

-- among the lists that pass a test
kept : (g : List Bool → Bool) (bits : List Bool) (xs : List (List Bool)) →
    list_any (same_bits bits) (filter g xs) ≡ (list_any (same_bits bits) xs && g bits)
kept g bits [] = refl
kept g bits (x ∷ xs) =
    list_any-cond (same_bits bits) (g x) x (filter g xs)
    ∙ ap (λ r. cond (g x) (same_bits bits x || r) r) (kept g bits xs)
    ∙ kept_step (same_bits bits x) (list_any (same_bits bits) xs) (g x) (g bits)
    (λ e. ap g (sym (same_bits-sound bits x e)))

-- the choice that holds these functions
abbrev pub choice_of : (Existential → List Bool → Bool) → HenkinChoice
choice_of values y = filter (values y) (all_bits (length y.sees))

pub choice_of-value : (values : Existential → List Bool → Bool) (y : Existential) (m : Assignment) →
    choice_value (choice_of values) y m ≡ values y (restriction y m)
choice_of-value values y m =
    let bits = restriction y m in
    kept (values y) bits (all_bits (length y.sees))
    ∙ ap (λ r. r && values y bits) (ap (λ n. list_any (same_bits bits) (all_bits n)) (sym (length-map y.sees m))
    ∙ all_bits-complete bits)

pub bits_same : (a b : Bool) → a ≡ b → same_bit a b ≡ true
bits_same true b e = sym e
bits_same false true e = absurd (true≢false (sym e))
bits_same false false e = refl
