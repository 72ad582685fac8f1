-- A frame's group that is made.
use Rattle.std.proofs.Common.{◌≡◌, ◌≢◌, ℕ, zero, suc, ◌≤◌, ◌⊎◌, inl, inr, false, cond, List, [], ◌∷◌, length, slice_get, set, Some, None, refl, sym, ◌∙◌, ap, subst, arith}
use Rattle.std.proofs.lemmas.Bool.{eq-eqb}
use Rattle.std.proofs.lemmas.List.{length-set}
use Rattle.hint_log.specs.Conditions.{AreLogged}
use Rattle.hint_log.specs.Entries.{Entry, Named, name_of}
use Rattle.hint_log.specs.declared.names.Name.TheVariants.{Selector}
use Rattle.oracle.specs.Calls.{IsMade}
use Rattle.oracle.specs.declared.groups.Group.{Group}
use Rattle.dq_lits.specs.Literal.{is_negative}
use Rattle.dq_session.specs.Databases.{DatabaseState, HasGroup, number_of, IsStack, IsDatabase}
use Rattle.dq_session.specs.Changing.{with_group}
use Rattle.dq_session.proofs.GrownDatabases.{entries_kept}
use Rattle.dq_session.proofs.PreservedDatabases.{name_more, database_stands}

set_or_old : {X : Type 0} (xs : List X) (i k : ℕ) (y z : X) → slice_get (set xs i y) k ≡ Some z →
    ((k ≡ i) × (y ≡ z)) ⊎ (slice_get xs k ≡ Some z)
set_or_old [] i k y z is = inr is
set_or_old (x ∷ xs) zero zero y z is = inl (refl, cc)
set_or_old (x ∷ xs) zero (suc k) y z is = inr is
set_or_old (x ∷ xs) (suc i) zero y z is = inr is
set_or_old (x ∷ xs) (suc i) (suc k) y z is = search (arith, (set_or_old xs i k y z is))

pub set_here : {X : Type 0} (xs : List X) (i : ℕ) (x y : X) → slice_get xs i ≡ Some x →
    slice_get (set xs i y) i ≡ Some y
set_here [] i x y is = cc
set_here (z ∷ xs) zero x y is = refl
set_here (z ∷ xs) (suc i) x y is = set_here xs i x y is

set_other : {X : Type 0} (xs : List X) (i k : ℕ) (y z : X) → (k ≡ i → ⊥) → slice_get xs k ≡ Some z →
    slice_get (set xs i y) k ≡ Some z
set_other [] i k y z apart is = is
set_other (x ∷ xs) zero zero y z apart is = absurd (apart refl)
set_other (x ∷ xs) zero (suc k) y z apart is = is
set_other (x ∷ xs) (suc i) zero y z apart is = is
set_other (x ∷ xs) (suc i) (suc k) y z apart is = set_other xs i k y z (λ e. apart (ap suc e)) is

module _ (b : DatabaseState) (frame : ℕ) (g : Group) (es : List Entry) (one : 1 ≤ frame)
    (free : slice_get b.groups frame ≡ Some None) (logged : AreLogged es) (plain : is_negative g.selector ≡ false)
    (unnamed : name_of es (number_of g) ≡ None) (database : IsDatabase b es) where
  abbrev after : DatabaseState
  after = with_group b frame g

  abbrev e : Entry
  e = Named (number_of g) (Selector (number_of g))

  many : length (set b.groups frame (Some g)) ≡ length b.groups
  many = length-set b.groups frame (Some g)

  apart_from : (F : ℕ) (h : Group) → HasGroup b F h → F ≡ frame → ⊥
  apart_from F h has same =
      let there : slice_get b.groups frame ≡ Some (Some h) = ap (slice_get b.groups) (sym same) ∙ has in cc

  pub kept : (F : ℕ) (h : Group) → HasGroup b F h → HasGroup after F h
  kept F h has = set_other b.groups frame F (Some g) (Some h) (apart_from F h has) has

  pub new_or_old : (F : ℕ) (h : Group) → HasGroup after F h → ((F ≡ frame) × (g ≡ h)) ⊎ HasGroup b F h
  new_or_old F h has = search (arith, set_or_old)

  named_apart : (F : ℕ) (h : Group) → HasGroup b F h → number_of h ≡ number_of g → ⊥
  named_apart F h has same =
      let there = (database.groups.made F h has).named in
      let gone : name_of es (number_of h) ≡ None = ap (name_of es) same ∙ unnamed in
      cc

  stack : IsStack after
  stack =
      let s = database.stack in
      let same = many in
      record {
        many_frames = s.many_frames;
        many_given = s.many_given;
        numbered = λ place below. let h = s.numbered place below in let less = h.1 in (h.0, omega (arith, less, same));
        first = (let low = s.first in omega (arith, low, same));
        ascending_live = s.ascending_live;
        file_live = s.file_live;
        open_live = s.open_live;
        frames = s.frames;
        known = λ i o is. let h = s.known i o is in let less = h.1 in (h.0, omega (arith, less, same), h.2);
        ascending = s.ascending;
        last = s.last;
      }

  made : (F : ℕ) (h : Group) → HasGroup after F h → IsMade (e ∷ es) h
  made F h has = by (new_or_old F h has)
    where
      by : ((F ≡ frame) × (g ≡ h)) ⊎ HasGroup b F h → IsMade (e ∷ es) h
      by (inl (here, same)) = subst (IsMade (e ∷ es)) same (record {
        positive = plain;
        named = ap (λ t. cond t (Some (Selector (number_of g))) (name_of es (number_of g)))
            (eq-eqb (number_of g) (number_of g) refl);
      })
      by (inr old) = record {
        positive = (database.groups.made F h old).positive;
        named = name_more es (number_of g) (Selector (number_of g)) (number_of h) (Selector (number_of h)) unnamed
            (database.groups.made F h old).named;
      }

  pub group_database : IsDatabase after (e ∷ es)
  group_database =
      let stands = database_stands b e es (unnamed, refl) database in
      record {
        well_formed = database.well_formed;
        stack = stack;
        table = stands.table;
        groups = record {
          made = made;
          none_of_file = λ F h has. off_file F h (new_or_old F h has);
          apart = λ F G h k has has' same. alone F G h k (new_or_old F h has) (new_or_old G k has') same;
          off_table = λ F h has. off F h (new_or_old F h has);
        };
        givens = (
          tt,
          entries_kept b b.table b.added b.frames b.given after.groups b.open_frames b.live
              (record {
                table_group = refl;
                clauses = λ j c is. is;
                same_frames = λ j c is. refl;
                more_given = λ place c is. omega arith;
                kept_groups = kept;
              }) es (λ F h has. fresh F h (new_or_old F h has)) logged database.givens,
        );
        done = database.done;
        instances = λ k place row c row_is c_is less live.
            let r = database.instances k place row c row_is c_is less live in
            (r.0, kept _ r.0 r.1, r.2);
      }
    where
      off_file : (F : ℕ) (h : Group) → ((F ≡ frame) × (g ≡ h)) ⊎ HasGroup b F h → 1 ≤ F
      off_file F h (inl (here, same)) = omega (arith, one, here)
      off_file F h (inr old) = database.groups.none_of_file F h old

      alone : (F G : ℕ) (h k : Group) → ((F ≡ frame) × (g ≡ h)) ⊎ HasGroup b F h →
          ((G ≡ frame) × (g ≡ k)) ⊎ HasGroup b G k → number_of h ≡ number_of k → F ≡ G
      alone F G h k (inl (here, same)) (inl (here', same')) e = here ∙ sym here'
      alone F G h k (inl (here, same)) (inr old) e = absurd (named_apart G k old (sym e ∙ sym (ap number_of same)))
      alone F G h k (inr old) (inl (here, same)) e = absurd (named_apart F h old (e ∙ sym (ap number_of same)))
      alone F G h k (inr old) (inr old') e = database.groups.apart F G h k old old' e

      off : (F : ℕ) (h : Group) → ((F ≡ frame) × (g ≡ h)) ⊎ HasGroup b F h → number_of h ≢ b.table.group
      off F h (inl (here, same)) e =
          let there = database.table.group in
          let gone : name_of es b.table.group ≡ None =
          ap (name_of es) (sym e ∙ sym (ap number_of same)) ∙ unnamed in
          cc
      off F h (inr old) e = database.groups.off_table F h old e

      fresh : (F : ℕ) (h : Group) → ((F ≡ frame) × (g ≡ h)) ⊎ HasGroup b F h →
          HasGroup b F h ⊎ (name_of es (number_of h) ≡ None)
      fresh F h (inl (here, same)) = inr (ap (λ x. name_of es (number_of x)) (sym same) ∙ unnamed)
      fresh F h (inr old) = inl old
