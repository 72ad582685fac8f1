-- What stays of the copies as the log grows.
use Rattle.std.proofs.Common.{◌≡◌, ◌≢◌, ℕ, zero, suc, Bool, false, inl, inr, List, [], ◌∷◌, ◌++◌, map, get_or, Some, None, slice_get, refl, sym, ◌∙◌, ap, subst, arith}
use Rattle.std.specs.List.{All, Contains}
use Rattle.std.proofs.lemmas.List.Elements.{All-head, All-tail, All-cons, All-nil, Contains-append_left, Contains-append_right, All-contains, Contains-append_cases}
use Rattle.std.proofs.lemmas.Option.{slice_get_within, get_or_from_slice_get}
use Rattle.list_laws.proofs.Members.{contains_later}
use Rattle.dq_lits.specs.Literal.{Literal}
use Rattle.dq_lits.specs.Formula.{Dqbf}
use Rattle.hint_log.specs.Entries.{Entry, Given, Round, ProofLog, name_of}
use Rattle.hint_log.specs.Growth.{Each, Grew}
use Rattle.hint_log.specs.Naming.{NamedLiteral, named_literal}
use Rattle.hint_log.specs.declared.names.Name.{Name}
use Rattle.hint_log.specs.declared.names.Name.TheVariants.{Selector, Copy as CopyOf}
use Rattle.hint_log.specs.declared.origins.Origin.{Origin}
use Rattle.log_laws.specs.Engines.{Engine, IsInGroup, IsAddedBy}
use Rattle.log_laws.proofs.LargerLogs.{each_grown, name_kept}
use Rattle.log_laws.proofs.Kept.{NamesStay, named_stay, literal_stays, in_one_group}
use Rattle.oracle.specs.Calls.{IsMade}
use Rattle.oracle.specs.declared.groups.Group.{Group}
use Rattle.definability.specs.Copies.{IsGroupGiven, IsSideGiven, IsGivenIn, AreCopies, IsMatrixCopy, IsLink, IsDefinability, all_groups, copy_names, group_variable, groups_of, IsCopyGiven}
use Rattle.definability.specs.declared.copies.MatrixCopy.{MatrixCopy}
use Rattle.definability.specs.declared.definability.Definability.{Definability}
use Rattle.definability.specs.Preservation.{EnginesLeaveCopies, RoundsLeaveCopies}
use Rattle.oracle.proofs.MadeGroups.{made_stays}

-- names and clauses stay, and groups of these get no other clauses
pub record Keeps (f : Dqbf) (apart : ℕ → Type 0) (old new : List Entry) : Type 0 where
  pub names : NamesStay old new
  pub contains : (e : Entry) → Contains old e → Contains new e
  pub groups : (test : Origin → Bool) (mine : ℕ) → apart mine → Each (IsGroupGiven f test mine) old →
      Each (IsGroupGiven f test mine) new
  pub sides : (side mine : ℕ) → apart mine → Each (IsSideGiven f side mine) old → Each (IsSideGiven f side mine) new

abbrev pub IsNamed : List Entry → ℕ → Type 0
IsNamed entries v = (n : Name) × (name_of entries v ≡ Some n)

module _ (f : Dqbf) (engine : Engine) (group : ℕ) (silent : Bool) (old : List Entry) where
  -- no clause is given to another group
  not_given : (mine : ℕ) (n : Name) → mine ≢ group → name_of old mine ≡ Some n → (earlier : List Entry)
      (origin : Origin) (c : List Literal) → IsAddedBy f engine group silent old earlier (Given origin c) →
      IsInGroup mine c → ⊥
  not_given mine n apart named earlier origin c h inside =
      let g = h.in_group.0 in
      let same = in_one_group mine g c inside h.in_group.1 in
      elim h.in_group.2 [
        | inl is_group ↦ apart (same ∙ is_group)
        | inr unnamed ↦ (let none : name_of old mine ≡ None = ap (name_of old) same ∙ unnamed in cc)
      ]

  other_group : (test : Origin → Bool) (mine : ℕ) (n : Name) → mine ≢ group → name_of old mine ≡ Some n →
      (earlier : List Entry) (e : Entry) →
      IsAddedBy f engine group silent old earlier e → IsGroupGiven f test mine earlier e
  other_group test mine n apart named earlier (Given origin c) h = search arith
  other_group test mine n apart named earlier _ h = tt

  other_side : (side mine : ℕ) (n : Name) → mine ≢ group → name_of old mine ≡ Some n →
      (earlier : List Entry) (e : Entry) →
      IsAddedBy f engine group silent old earlier e → IsSideGiven f side mine earlier e
  other_side side mine n apart named earlier (Given origin c) h = search arith
  other_side side mine n apart named earlier _ h = tt

pub keeps_by_engine : (f : Dqbf) (engine : Engine) (group : ℕ) (silent : Bool) (old new : ProofLog) →
    Grew (IsAddedBy f engine group silent old.entries) old new →
    Keeps f (λ mine. (mine ≢ group) × IsNamed old.entries mine) old.entries new.entries
keeps_by_engine f engine group silent old new grew =
    subst (Keeps f (λ mine. (mine ≢ group) × IsNamed old.entries mine) old.entries) (sym grew.grown) (record {
      names = λ v n. name_kept f engine group silent old.entries v n grew.more grew.each;
      contains = λ e. Contains-append_right grew.more old.entries e;
      groups = λ test mine apart.
          each_grown (IsAddedBy f engine group silent old.entries) (IsGroupGiven f test mine)
          (other_group f engine group silent old.entries test mine apart.1.0 apart.0 apart.1.1) grew.more old.entries
          grew.each;
      sides = λ side mine apart.
          each_grown (IsAddedBy f engine group silent old.entries) (IsSideGiven f side mine)
          (other_side f engine group silent old.entries side mine apart.1.0 apart.0 apart.1.1) grew.more old.entries
          grew.each;
    })

-- entries that neither name nor give
pub keeps_entry : (f : Dqbf) (e : Entry) (es : List Entry) → NamesStay es (e ∷ es) →
    ((test : Origin → Bool) (mine : ℕ) → IsGroupGiven f test mine es e) →
    ((side mine : ℕ) → IsSideGiven f side mine es e) → Keeps f (λ mine. Unit {0}) es (e ∷ es)
keeps_entry f e es names plain plain_side = record {
  names = names;
  contains = λ x. contains_later e x es;
  groups = λ test mine apart own. (plain test mine, own);
  sides = λ side mine apart own. (plain_side side mine, own);
}

pub given_stays : (f : Dqbf) (apart : ℕ → Type 0) (old new : List Entry) → Keeps f apart old new →
    (group : ℕ) (origin : Origin) (names : List NamedLiteral) →
    IsGivenIn old group origin names → IsGivenIn new group origin names
given_stays f apart old new keeps group origin names given = search (arith, named_stay)

pub copies_stay : (old new : List Entry) → NamesStay old new → (side : ℕ) (flags : List Bool) (xs : List ℕ)
    (lits : List Literal) → AreCopies old side flags xs lits → AreCopies new side flags xs lits
copies_stay old new stay side flags xs lits are = record {
  long = are.long;
  named = λ k v l flag v_at l_at. literal_stays old new stay l (named_literal (CopyOf side v) false)
      (are.named k v l flag v_at l_at);
}

pub matrix_stays : (f : Dqbf) (apart : ℕ → Type 0) (old new : List Entry) → Keeps f apart old new →
    (side : ℕ) (flags : List Bool) (copy : MatrixCopy) →
    ((g : Group) → Contains copy.groups.items g → apart (group_variable g)) →
    IsMatrixCopy f side flags copy old → IsMatrixCopy f side flags copy new
matrix_stays f apart old new keeps side flags copy are_apart m = record {
  made = λ k d lt. made_stays old new (get_or copy.groups.items k d) keeps.names (m.made k d lt);
  universals = copies_stay old new keeps.names side flags f.universals copy.universals.items m.universals;
  existentials = named_stay old new keeps.names copy.existentials.items _ m.existentials;
  own = λ g among. keeps.sides side (group_variable g) (are_apart g among) (m.own g among);
  whole = λ clause inside.
      let there = m.whole clause inside in
      record {
        group = there.group;
        among = there.among;
        origin = there.origin;
        given = given_stays f apart old new keeps (group_variable there.group) there.origin
            (copy_names side clause) there.given;
      };
}

pub link_stays : (f : Dqbf) (apart : ℕ → Type 0) (old new : List Entry) → Keeps f apart old new → (x : ℕ) (g : Group) →
    apart (group_variable g) → IsLink f x g old → IsLink f x g new
link_stays f apart old new keeps x g is_apart l = record {
  made = made_stays old new g keeps.names l.made;
  own = keeps.groups _ (group_variable g) is_apart l.own;
  whole = λ i is. given_stays f apart old new keeps (group_variable g) _ _ (l.whole i is);
}

-- what holds of all groups' variables
pub of_mapped : (P : ℕ → Type 0) (gs : List Group) (g : Group) → All P (map group_variable gs) → Contains gs g →
    P (group_variable g)
of_mapped P [] g all (k, lt, at) = absurd (omega (arith, lt))
of_mapped P (h ∷ gs) g all (zero, lt, at) = search (arith, All-head)
of_mapped P (h ∷ gs) g all (suc k, lt, at) = of_mapped P gs g
    (All-tail P (group_variable h) (map group_variable gs) all) (k, omega (arith, lt), at)

pub to_mapped : (P : ℕ → Type 0) (gs : List Group) → ((g : Group) → Contains gs g → P (group_variable g)) →
    All P (map group_variable gs)
to_mapped P [] each = All-nil P
to_mapped P (g ∷ gs) each = All-cons P (group_variable g) (map group_variable gs) (each g (0, omega arith, refl))
    (to_mapped P gs (λ h among. each h (further h among)))
  where
    further : (h : Group) → Contains gs h → Contains (g ∷ gs) h
    further h (k, lt, at) = (suc k, omega (arith, lt), at)

pub group_element : (gs : List Group) (k : ℕ) (g : Group) → slice_get gs k ≡ Some g → Contains gs g
group_element gs k g at = (k, slice_get_within gs k g at, get_or_from_slice_get gs k g g at)

pub definability_stays : (f : Dqbf) (apart : ℕ → Type 0) (old new : List Entry) → Keeps f apart old new → (p : Definability) →
    All apart (groups_of p) → IsDefinability f p old → IsDefinability f p new
definability_stays f apart old new keeps p all is =
    let of_second = p.second.groups.items ++ p.links.items in
    let each : (g : Group) → Contains (all_groups p) g → apart (group_variable g) =
    λ g among. of_mapped apart (all_groups p) g all among in
    record {
      as_many_flags = is.as_many_flags;
      covered = is.covered;
      first = matrix_stays f apart old new keeps 1 p.copied.items p.first
          (λ g among. each g (Contains-append_left p.first.groups.items of_second g among)) is.first;
      second = matrix_stays f apart old new keeps 2 p.copied.items p.second
          (λ g among. each g (Contains-append_right p.first.groups.items of_second g
          (Contains-append_left p.second.groups.items p.links.items g among))) is.second;
      as_many = is.as_many;
      links_made = λ k d lt. made_stays old new (get_or p.links.items k d) keeps.names (is.links_made k d lt);
      links = λ i x g flag x_is g_is. link_stays f apart old new keeps x g
          (each g (Contains-append_right p.first.groups.items of_second g
          (Contains-append_right p.second.groups.items p.links.items g (group_element p.links.items i g g_is))))
          (is.links i x g flag x_is g_is);
    }

-- what is a copy stays one as the log grows
pub copy_given_stays : (old new : List Entry) (f : Dqbf) (side : ℕ) (c : List Literal) → NamesStay old new →
    IsCopyGiven old f side c → IsCopyGiven new f side c
copy_given_stays old new f side c stay given = search (arith, named_stay)

-- every group was made
pub groups_made : (f : Dqbf) (p : Definability) (es : List Entry) → IsDefinability f p es → (g : Group) →
    Contains (all_groups p) g → IsMade es g
groups_made f p es definability g among =
    search (
      arith,
      (Contains-append_cases p.first.groups.items (p.second.groups.items ++ p.links.items) g among),
      All-contains,
      (Contains-append_cases p.second.groups.items p.links.items g),
    )

-- and so has a name
pub groups_named : (f : Dqbf) (p : Definability) (es : List Entry) → IsDefinability f p es → All (IsNamed es) (groups_of p)
groups_named f p es definability = to_mapped (IsNamed es) (all_groups p)
    (λ g among. (Selector (group_variable g), (groups_made f p es definability g among).named))

all_both : (P Q : ℕ → Type 0) (xs : List ℕ) → All P xs → All Q xs → All (λ x. P x × Q x) xs
all_both P Q xs ps qs i d lt = (ps i d lt, qs i d lt)

pub all_plain : (xs : List ℕ) → All (λ x. Unit {0}) xs
all_plain xs i d lt = tt

pub engines_leave : EnginesLeaveCopies
engines_leave f p engine group silent old new grew apart definability =
    search (arith, definability_stays, keeps_by_engine, all_both, groups_named)

pub rounds_leave : RoundsLeaveCopies
rounds_leave f p entries row values j definability =
    definability_stays f (λ mine. Unit {0}) entries (Round row values j ∷ entries)
    (keeps_entry f (Round row values j) entries (λ v n is. is) (λ test mine. tt) (λ side mine. tt)) p (all_plain (groups_of p)) definability
