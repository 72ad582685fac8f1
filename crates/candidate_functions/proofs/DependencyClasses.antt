-- Classes of existentials with one dependency set, and where the universals of the set stand.
use Rattle.std.proofs.Common.{◌≡◌, ℕ, ◌<◌, ◌↔◌, IsTrue, true, Bool, List, [], ◌∷◌, ◌++◌, length, get_or, set, slice_get, Option, None, Some, IsSome, IfSome, refl, sym, ◌∙◌, ap, subst, arith}
use Rattle.std.specs.List.{All, Contains}
use Rattle.std.specs.Option.{option_map}
use Rattle.std.proofs.lemmas.List.{get_or_push, length_push}
use Rattle.std.proofs.lemmas.List.Elements.{All-contains, All-map, All-weaker, All-push, All-set}
use Rattle.std.proofs.lemmas.Option.{slice_get_within, get_or_from_slice_get, slice_get_read}
use Rattle.dq_lits.specs.Formula.{Existential, Dqbf, existential_of}
use Rattle.dq_formula.specs.Prefix.{IsLawful}
use Rattle.dq_formula.proofs.Places.{place, has-contains}
use Rattle.dq_formula.proofs.Sorted.{place-below}
use Rattle.aig_graph.specs.Graph.{AigGraph}
use Rattle.aig_graph.specs.Made.{Extends}
use Rattle.candidate_functions.specs.Pairs.{set_of, universal_places, IsPlacedClass, IsClass, HasClass, HasClassLike}
use Rattle.candidate_functions.specs.declared.classes.Class.{Class}
use Rattle.definition_order.proofs.Declared.{sees_universals, some_existential}
use Rattle.candidate_functions.proofs.LargerGraphs.{classes_stay}

-- a test of what two variables see, where both are existentials
pub same_sets : (o p : Option Existential) (b : Bool) → IsSome o → IsSome p →
    ((d e : Existential) → o ≡ Some d → p ≡ Some e → IsTrue b ↔ (d.sees ≡ e.sees)) → b ≡ true
    → option_map (λ (y : Existential). y.sees) o ≡ option_map (λ (y : Existential). y.sees) p
same_sets None p b some_o some_p test is = cc
same_sets (Some d) None b some_o some_p test is = cc
same_sets (Some d) (Some e) b some_o some_p test is = ap Some ((test d e refl refl).0 is)

-- the places of what an existential sees
pub places_told : (f : Dqbf) (v : ℕ) (places : List ℕ) → IfSome (existential_of f v)
    (λ y. places ≡ universal_places f y.sees)
    → (y : Existential) → existential_of f v ≡ Some y → places ≡ universal_places f y.sees
places_told f v places told y found = subst (λ o. IfSome o (λ z. places ≡ universal_places f z.sees)) found told

pub places_below : (f : Dqbf) → IsLawful f → (v : ℕ) (places : List ℕ) (n : ℕ) → n ≡ length f.universals →
    IsSome (existential_of f v)
    → ((y : Existential) → existential_of f v ≡ Some y → places ≡ universal_places f y.sees) → All (λ p. p < n) places
places_below f lawful v places n size is each = some_existential f v (All (λ p. p < n) places) is (λ y found.
    let below : All (λ x. place f.universals x < n) y.sees =
    All-weaker (Contains f.universals) (λ x. place f.universals x < n)
    (λ x among. subst (λ m. place f.universals x < m) (sym size)
    (place-below f.universals x (has-contains f.universals x among)))
    y.sees (sees_universals f lawful v y found) in
    subst (All (λ p. p < n)) (sym (each y found)) (All-map (λ p. p < n) (place f.universals) y.sees below))

pub class_like : (f : Dqbf) (rows : List (List Bool)) (g : AigGraph) (cs : List Class) (p y : ℕ) →
    All (IsClass f rows g) cs → HasClassLike f cs p y → HasClass f rows g cs p y
class_like f rows g cs p y all like = record {
  class = like.class;
  at = like.at;
  is_class = λ e known. by e known (existential_of f like.class.y) refl;
  alike = like.alike;
} where
  is : IsClass f rows g like.class
  is = All-contains (IsClass f rows g) cs like.class all (
    p,
    slice_get_within cs p like.class like.at,
    get_or_from_slice_get cs p like.class like.class like.at,
  )

  set_is : (e : Existential) (o : Option Existential) → existential_of f y ≡ Some e →
      existential_of f like.class.y ≡ o → option_map (λ (z : Existential). z.sees) o ≡ Some e.sees
  set_is e o known found = search arith

  by : (e : Existential) → existential_of f y ≡ Some e → (o : Option Existential) → existential_of f like.class.y ≡ o →
      IsPlacedClass rows g (universal_places f e.sees) like.class
  by e known None found = absurd (let s = set_is e None known found in cc)
  by e known (Some z) found =
      let s : Some z.sees ≡ Some e.sees = set_is e (Some z) known found in
      let same : z.sees ≡ e.sees = cc in
      subst (λ xs. IsPlacedClass rows g (universal_places f xs) like.class) same (is z found)

-- a class is put back, with more cubes
pub class_put : (f : Dqbf) (rows : List (List Bool)) (old new : AigGraph) (cs : List Class) (p y : ℕ) (c : Class)
    (e : Existential) → Extends old new → All (IsClass f rows old) cs
    → HasClass f rows old cs p y → existential_of f y ≡ Some e → (before : Class) → before ≡ get_or cs p before →
    c.y ≡ before.y
    → IsPlacedClass rows new (universal_places f e.sees) c → All (IsClass f rows new) (set cs p c)
class_put f rows old new cs p y c e grown all has known before at same is =
    All-set (IsClass f rows new) cs p c own (classes_stay old new grown f rows cs all)
  where
    own : IsClass f rows new c
    own z found =
        let there : before ≡ has.class = at ∙ get_or_from_slice_get cs p has.class before has.at in
        let v : c.y ≡ has.class.y = same ∙ ap (λ (d : Class). d.y) there in
        let found_there : existential_of f has.class.y ≡ Some z = sym (ap (existential_of f) v) ∙ found in
        let sets : Some z.sees ≡ Some e.sees = ap (option_map (λ (d : Existential). d.sees)) (sym found_there)
        ∙ has.alike ∙ ap (option_map (λ (d : Existential). d.sees)) known in
        let one : z.sees ≡ e.sees = cc in
        subst (λ xs. IsPlacedClass rows new (universal_places f xs) c) (sym one) is

pub class_added : (f : Dqbf) (rows : List (List Bool)) (g : AigGraph) (cs : List Class) (c : Class) →
    All (IsClass f rows g) cs → IsClass f rows g c → All (IsClass f rows g) (cs ++ c ∷ [])
class_added f rows g cs c all own = All-push (IsClass f rows g) cs c all own

pub last_at : (cs : List Class) (c : Class) (n : ℕ) → n ≡ length cs → slice_get (cs ++ c ∷ []) n ≡ Some c
last_at cs c n is =
    let more = length_push cs c in
    slice_get_read (cs ++ c ∷ []) (length (cs ++ c ∷ [])) n c refl (omega arith) (sym (get_or_push cs c c n (sym is)))

pub new_at_end : (f : Dqbf) (rows : List (List Bool)) (g : AigGraph) (cs : List Class) (c : Class) (n y : ℕ) →
    n ≡ length cs → c.y ≡ y → IsClass f rows g c → HasClass f rows g (cs ++ c ∷ []) n y
new_at_end f rows g cs c n y end own is = record {
  class = c;
  at = last_at cs c n end;
  is_class = λ e known. is e (ap (existential_of f) own ∙ known);
  alike = ap (set_of f) own;
}

-- the class at a place
pub placed_there : (f : Dqbf) (rows : List (List Bool)) (g : AigGraph) (cs : List Class) (p y : ℕ) (c : Class)
    (places : List ℕ) → HasClass f rows g cs p y → c ≡ get_or cs p c → IsSome (existential_of f y)
    → ((e : Existential) → existential_of f y ≡ Some e → places ≡ universal_places f e.sees) →
    IsPlacedClass rows g places c
placed_there f rows g cs p y c places has at is told =
    search (arith, (some_existential f y), (get_or_from_slice_get cs p has.class c has.at))
