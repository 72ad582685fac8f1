-- Lines of the simpler formula's refutation, derived from those that derive its instances.
use Rattle.std.proofs.Common.{◌≡◌, ℕ, zero, suc, ◌+◌, ◌-◌, ◌/◌, ◌%◌, ◌<◌, ◌==◌, nat_lt, Bool, true, false, not, cond, ◌&&◌, inl, inr, List, [], ◌∷◌, ◌++◌, map, length, get_or, slice_get, Option, Some, None, is_some, refl, sym, ◌∙◌, ap, subst, arith}
use Rattle.std.specs.List.{All, filter_map, position_or_len}
use Rattle.std.proofs.lemmas.Bool.{true≢false, cases_eq, cond-true, cond-false, eq-eqb, ne_eqb, ltb-true}
use Rattle.std.proofs.lemmas.Option.{slice_get-get_or, same_Some}
use Rattle.std.proofs.lemmas.List.Elements.{All-head, All-tail}
use Rattle.list_laws.proofs.Sequences.{none-gone}
use Rattle.dq_lits.specs.Literal.{Literal, variable_of}
use Rattle.dq_lits.specs.Formula.{Existential, Dqbf, existential_of}
use Rattle.dq_lits.specs.Derivation.{LiveClauses, with_clause, IsDerived, ProofStep, unfinished, line_fault, fault_of_step, is_empty, is_tautology}
use Rattle.dq_lits.specs.Expansion.{pair_number, pair_literal}
use Rattle.dq_lits.proofs.Choices.{same_bits-refl}
use Rattle.dq_lits.proofs.Derivations.{no_step_fault}
use Rattle.dq_prep.specs.Lifted.{IsCarried}
use Rattle.dq_prep.proofs.Carried.{carries}
use Rattle.rup_core.specs.Items.{ProofItem, derived, gone, items_fault, without_clauses, is_among}
use Rattle.refutation_checker.specs.Refutation.{normal_number, normal_literal, normal_of}
use Rattle.cert_text.specs.Pairs.{is_pair_number}
use Rattle.lifted_proofs.specs.Goals.{Keeps}
use Rattle.lifted_proofs.specs.Carried.{lines_of}
use Rattle.lifted_proofs.specs.Lines.{behind_steps, AreDerived}

-- whether the last step is empty, where `finished` tells it of the last one before
abbrev pub EndsEmpty : Bool → List ProofStep → Type 0
EndsEmpty finished [] = finished ≡ true
EndsEmpty finished (s ∷ ss) = EndsEmpty (is_empty s.literals) ss

pub items-derived : (finished : Bool) (live : LiveClauses) (ss : List ProofStep) → AreDerived live ss
    → EndsEmpty finished ss → items_fault finished live (map derived ss) ≡ None
items-derived finished live [] all ends = ap (λ b. cond b None (Some unfinished)) ends
items-derived finished live (s ∷ ss) all ends =
    ap (λ o. fault_of_step o s.id (items_fault (is_empty s.literals) (with_clause live s.id s.literals)
    (map derived ss))) all.0
    ∙ items-derived (is_empty s.literals) (with_clause live s.id s.literals) ss all.1 ends

pub ends-behind : (b : Bool) (xs ys : List ProofStep) → EndsEmpty false ys → EndsEmpty b (xs ++ ys)
ends-behind b [] [] ends = absurd (true≢false (sym ends))
ends-behind b [] (y ∷ ys) ends = ends
ends-behind b (x ∷ xs) ys ends = ends-behind (is_empty x.literals) xs ys ends

pub derived-append : (live : LiveClauses) (xs ys : List ProofStep) → AreDerived live xs
    → AreDerived (behind_steps live xs) ys → AreDerived live (xs ++ ys)
derived-append live [] ys a b = b
derived-append live (x ∷ xs) ys a b = (a.0, derived-append (with_clause live x.id x.literals) xs ys a.1 b)

-- a line is that of another refutation under other ids
pub record IsMoved (to : ℕ → ℕ) (s t : ProofStep) : Type 0 where
  pub id : t.id ≡ to s.id
  pub literals : t.literals ≡ s.literals
  pub hints : t.hints ≡ map to s.hints

abbrev pub AreMoved : (ℕ → ℕ) → List ProofStep → List ProofStep → Type 0
AreMoved to [] [] = Unit {0}
AreMoved to [] (_ ∷ _) = ⊥
AreMoved to (_ ∷ _) [] = ⊥
AreMoved to (s ∷ ss) (t ∷ ts) = IsMoved to s t × AreMoved to ss ts

-- items whose lines are numbered from an id on, and hint at wanted ids
abbrev pub AreNumbered : (ℕ → Type 0) → ℕ → List ProofItem → Type 0
AreNumbered Wanted n [] = Unit {0}
AreNumbered Wanted n (derived s ∷ items) = (s.id ≡ n) × All Wanted s.hints × AreNumbered Wanted (n + 1) items
AreNumbered Wanted n (gone ids ∷ items) = AreNumbered Wanted n items

-- a wanted clause that a line can hint at is there under its other id, which is below
abbrev pub AreThere : (ℕ → ℕ) → (ℕ → Type 0) → LiveClauses → LiveClauses → ℕ → Type 0
AreThere to Wanted live other m = (h : ℕ) (clause : List Literal) → Wanted h → live h ≡ Some clause
    → is_tautology clause ≡ false → (other (to h) ≡ Some clause) × (to h < m)

pub move-items : (to : ℕ → ℕ) (Wanted : ℕ → Type 0) (finished : Bool) (live other : LiveClauses) (n m : ℕ)
    (items : List ProofItem) (news : List ProofStep) → ((i : ℕ) → to (n + i) ≡ m + i)
    → AreNumbered Wanted n items → AreMoved to (lines_of items) news → AreThere to Wanted live other m
    → items_fault finished live items ≡ None → AreDerived other news × EndsEmpty finished news
move-items to Wanted finished live other n m [] [] shift numbered moved there sound = (tt, by finished sound)
  where
    by : (b : Bool) → cond b None (Some unfinished) ≡ None → b ≡ true
    by true h = refl
    by false h = cc
move-items to Wanted finished live other n m [] (t ∷ ts) shift numbered moved there sound = absurd moved
move-items to Wanted finished live other n m (gone ids ∷ items) news shift numbered moved there sound =
    move-items to Wanted finished (without_clauses live ids) other n m items news shift numbered moved
    (λ h clause wanted at plain. there h clause wanted (none-gone (is_among ids h) (live h) clause at) plain) sound
move-items to Wanted finished live other n m (derived s ∷ items) [] shift numbered moved there sound = absurd moved
move-items to Wanted finished live other n m (derived s ∷ items) (t ∷ ts) shift numbered moved there sound =
    let it = moved.0 in
    let parts = no_step_fault (line_fault live s.literals s.hints) s.id
    (items_fault (is_empty s.literals) (with_clause live s.id s.literals) items) sound in
    let to-n : to s.id ≡ m = ap to (omega (arith, numbered.0)) ∙ shift 0 ∙ omega arith in
    let hints : All (IsCarried to live other) s.hints = λ k d below.
    λ clause at plain. (there (get_or s.hints k d) clause (numbered.1 k d below) at plain).0 in
    let line : IsDerived other s.literals (map to s.hints) = carries to live other s.literals s.hints hints parts.0 in
    let rest = move-items to Wanted (is_empty s.literals) (with_clause live s.id s.literals)
    (with_clause other t.id t.literals) (n + 1) (m + 1) items ts
    (λ i. ap to (omega arith) ∙ shift (i + 1) ∙ omega arith) numbered.2 moved.1
    (λ h clause wanted at plain. elim (cases_eq h s.id) [
      | inl same ↦
          let is : Some s.literals ≡ Some clause =
          sym (cond-true (h == s.id) (Some s.literals) (live h) (eq-eqb h s.id same)) ∙ at in
          let new-id : to h ≡ t.id = ap to same ∙ sym it.id in (
            cond-true (to h == t.id) (Some t.literals) (other (to h)) (eq-eqb (to h) t.id new-id)
                ∙ ap Some it.literals ∙ is,
            omega (arith, new-id, it.id, to-n),
          )
      | inr apart ↦
          let was : live h ≡ Some clause =
          sym (cond-false (h == s.id) (Some s.literals) (live h) (ne_eqb h s.id apart)) ∙ at in
          let old = there h clause wanted was plain in (
            cond-false (to h == t.id) (Some t.literals) (other (to h))
                (ne_eqb (to h) t.id (λ same. absurd (omega (arith, same, it.id, to-n, old.1)))) ∙ old.0,
            omega (arith, old.1),
          )
    ])
    parts.1 in (
      (
        subst (λ ls. IsDerived other ls t.hints) (sym it.literals)
            (subst (IsDerived other s.literals) (sym it.hints) line),
        rest.0,
      ),
      subst (λ b. EndsEmpty b ts) (ap is_empty (sym it.literals)) rest.1,
    )

-- the first place where a test passes stays
first-stays : {X : Type 0} (p : X → Bool) (xs ys : List X) (k : ℕ) (x : X) → Keeps xs ys → slice_get xs k ≡ Some x
    → p x ≡ true → position_or_len p ys ≡ position_or_len p xs
first-stays p [] ys k x keeps at passes = cc
first-stays p (z ∷ xs) [] k x keeps at passes = search arith
first-stays p (z ∷ xs) (y ∷ ys) zero x keeps at passes =
    let same : y ≡ z = same_Some y z (keeps 0 z refl) in
    let here : p z ≡ true = ap p (same_Some z x at) ∙ passes in
    ap (λ b. cond (not b) (1 + position_or_len p ys) 0) (ap p same ∙ here)
    ∙ sym (ap (λ b. cond (not b) (1 + position_or_len p xs) 0) here)
first-stays p (z ∷ xs) (y ∷ ys) (suc k) x keeps at passes =
    let same : y ≡ z = same_Some y z (keeps 0 z refl) in
    let rest = first-stays p xs ys k x (λ j w there. keeps (suc j) w there) at passes in
    ap (λ b. cond (not b) (1 + position_or_len p ys) 0) (ap p same)
    ∙ ap (λ n. cond (not (p z)) (1 + n) 0) rest

-- a row's pair stays where rows come behind
pub pair-stays : (f : Dqbf) (rows more : List (List Bool)) (k : ℕ) (row : List Bool) (y : Existential)
    → Keeps rows more → slice_get rows k ≡ Some row → pair_number f more row y ≡ pair_number f rows row y
pair-stays f rows more k row y keeps at = search (arith, first-stays, same_bits-refl)

pub pairs-stay : (f : Dqbf) (rows more : List (List Bool)) (k : ℕ) (row : List Bool) (clause : List Literal)
    → Keeps rows more → slice_get rows k ≡ Some row
    → filter_map (pair_literal f more row) clause ≡ filter_map (pair_literal f rows row) clause
pairs-stay f rows more k row [] keeps at = refl
pairs-stay f rows more k row (l ∷ ls) keeps at =
    search (arith, (pairs-stay f rows more k row ls keeps at), (pair-stays f rows more k row))

-- and so do the numbers that lines name pairs by
pub number-stays : (f : Dqbf) (rows more : List (List Bool)) (number : ℕ) → Keeps rows more
    → is_pair_number f (length rows) number ≡ true → normal_number f more number ≡ normal_number f rows number
number-stays f rows more number keeps is =
    let k = (number - 1) / f.variables in
    let within = row-within (f.variables == 0) (number == 0) (nat_lt k (length rows))
    (is_some (existential_of f ((number - 1) % f.variables + 1))) is in
    let below : k < length rows = ltb-true k (length rows) within in
    let row = get_or rows k [] in
    let at : slice_get rows k ≡ Some row = slice_get-get_or rows k [] below in
    ap (λ o. normal_of f more number o (existential_of f ((number - 1) % f.variables + 1))) (keeps k row at)
    ∙ by k row at (existential_of f ((number - 1) % f.variables + 1))
    ∙ sym (ap (λ o. normal_of f rows number o (existential_of f ((number - 1) % f.variables + 1))) at)
  where
    row-within : (a b c d : Bool) → (not a && (not b && (c && d))) ≡ true → c ≡ true
    row-within a b c d h = grind arith

    by : (k : ℕ) (row : List Bool) → slice_get rows k ≡ Some row → (o : Option Existential)
        → normal_of f more number (Some row) o ≡ normal_of f rows number (Some row) o
    by k row at None = refl
    by k row at (Some y) = pair-stays f rows more k row y keeps at

pub literals-stay : (f : Dqbf) (rows more : List (List Bool)) (ls : List Literal) → Keeps rows more
    → All (λ l. is_pair_number f (length rows) (variable_of l) ≡ true) ls
    → map (normal_literal f more) ls ≡ map (normal_literal f rows) ls
literals-stay f rows more [] keeps all = refl
literals-stay f rows more (l ∷ ls) keeps all =
    search (arith, (number-stays f rows more), All-head, (literals-stay f rows more ls keeps), All-tail)
