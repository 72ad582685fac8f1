-- Ids of lines before, and what holds of those that are live.
use Rattle.std.proofs.Common.{◌≡◌, ℕ, zero, suc, ◌+◌, ◌-◌, ◌==◌, ◌≤◌, nat_le, Bool, true, false, not, ◌&&◌, ◌||◌, List, [], ◌∷◌, ◌++◌, length, get_or, refl, sym, ◌∙◌, ap, arith, subst, length-append}
use Rattle.std.specs.List.{AllByRecursion}
use Rattle.std.proofs.lemmas.Bool.{and_parts, eqb-true, eq-eqb, ne_eqb, leb-true, le-leb}
use Rattle.rup_core.specs.Items.{ProofItem, derived, gone}
use Rattle.cert_text.specs.LineIds.{numbering_by}
use Rattle.cert_text.specs.Numbering.{Numbering, are_live, behind_item, numbered_from, with_next, without, without_all}

-- each live id has this
abbrev pub Live : (ℕ → Type 0) → Numbering → Type 0
Live P n = (id : ℕ) → n.live id ≡ true → P id

by_next : (P : ℕ → Type 0) (b : Bool) (next id : ℕ) (live : Bool) → (b ≡ true → id ≡ next) → P next →
    (live ≡ true → P id) → b || live ≡ true → P id
by_next P true next id live is here there h = subst P (sym (is refl)) here
by_next P false next id live is here there h = there h

pub live_line : (P : ℕ → Type 0) (n : Numbering) → P n.next → Live P n → Live P (with_next n)
live_line P n here all id = by_next P (id == n.next) n.next id (n.live id) (eqb-true id n.next) here (all id)

pub live_without : (P : ℕ → Type 0) (n : Numbering) (deleted : ℕ) → Live P n → Live P (without n deleted)
live_without P n deleted all id h = all id (and_parts (not (id == deleted)) (n.live id) h).1

pub live_gone : (P : ℕ → Type 0) (n : Numbering) (ids : List ℕ) → Live P n → Live P (without_all n ids)
live_gone P n [] all = all
live_gone P n (id ∷ ids) all = live_gone P (without n id) ids (live_without P n id all)

-- so each id of a deletion has it
pub live_ids : (P : ℕ → Type 0) (n : Numbering) (ids : List ℕ) → Live P n → are_live n ids ≡ true → AllByRecursion P ids
live_ids P n [] all h = tt
live_ids P n (id ∷ ids) all h =
    let both = and_parts (n.live id) (are_live (without n id) ids) h in
    (all id both.0, live_ids P (without n id) ids (live_without P n id all) both.1)

pub none_live : (P : ℕ → Type 0) (first : ℕ) → Live P (numbered_from first)
none_live P first id h = cc

-- ids from 1 on
pub record IsNumbered (n : Numbering) : Type 0 where
  pub next : 1 ≤ n.next
  pub live : Live (λ id. 1 ≤ id) n

pub next_kept : (n : Numbering) (ids : List ℕ) → (without_all n ids).next ≡ n.next
next_kept n [] = refl
next_kept n (id ∷ ids) = next_kept (without n id) ids

pub numbered_behind : (n : Numbering) (item : ProofItem) → IsNumbered n → IsNumbered (behind_item n item)
numbered_behind n (derived s) is = search (arith, live_line)
numbered_behind n (gone ids) is = search (arith, next_kept, live_gone)

-- the same by marks
apart : false ≡ true → ⊥
apart h = cc

put_here : (marks : List Bool) → get_or (marks ++ true ∷ []) (length marks) false ≡ true
put_here [] = refl
put_here (m ∷ marks) = put_here marks

put_elsewhere : (marks : List Bool) (k : ℕ) → (k ≡ length marks → ⊥) →
    get_or (marks ++ true ∷ []) k false ≡ get_or marks k false
put_elsewhere [] zero other = absurd (other refl)
put_elsewhere [] (suc k) other = refl
put_elsewhere (m ∷ marks) zero other = refl
put_elsewhere (m ∷ marks) (suc k) other = put_elsewhere marks k (λ e. other (ap suc e))

mark_put : (marks : List Bool) (k : ℕ) (b : Bool) → (k == length marks) ≡ b →
    get_or (marks ++ true ∷ []) k false ≡ b || get_or marks k false
mark_put marks k true is = ap (λ j. get_or (marks ++ true ∷ []) j false) (eqb-true k (length marks) is) ∙ put_here marks
mark_put marks k false is = put_elsewhere marks k (λ e. apart (sym is ∙ eq-eqb k (length marks) e))

-- as numbers from the first id on
far : (le : Bool) (first id place : ℕ) → nat_le first id ≡ le → (le ≡ true → first ≤ id) →
    (id == first + place) ≡ le && (id - first == place)
far true first id place is h = search (arith, eqb-true, eq-eqb)
far false first id place is h = search (arith, ne_eqb, apart, nat_le, le-leb)

-- a mark more, or one taken away, where the tests are these
put_as : (le here mark there : Bool) → there ≡ here || mark → le && there ≡ (le && here) || (le && mark)
put_as true here mark there is = is
put_as false here mark there is = refl

pub line_marked : (first : ℕ) (marks more : List Bool) → more ≡ marks ++ true ∷ [] →
    numbering_by first more ≡ with_next (numbering_by first marks)
line_marked first marks more pushed = search (arith, length-append, put_as, nat_le, mark_put, far, leb-true)
