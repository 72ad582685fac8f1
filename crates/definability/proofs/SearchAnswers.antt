-- What a search leaves and shows.
use Rattle.std.proofs.Common.{◌≡◌, ◌≢◌, ℕ, zero, suc, ◌+◌, ◌<◌, Bool, true, false, inl, inr, List, [], ◌∷◌, ◌++◌, map, length, get_or, Some, IsSome, refl, sym, ◌∙◌, ap, subst, arith}
use Rattle.std.specs.List.{All, Contains}
use Rattle.std.proofs.lemmas.List.Elements.{All-cons, All-nil, Contains-get_or, Contains-append_left, Contains-append_right, Contains-append_cases}
use Rattle.std.proofs.lemmas.Option.{slice_get_within, slice_get-get_or}
use Rattle.dq_lits.specs.Literal.{Literal, positive, negative, variable_of}
use Rattle.dq_lits.specs.Formula.{Dqbf, Existential, existential_of, declared}
use Rattle.dq_lits.proofs.FormulaVariables.{find_sound}
use Rattle.hint_log.specs.Conditions.{IsId, AreLogged}
use Rattle.hint_log.specs.Entries.{Entry, Learned, Answer, ProofLog, has_id, numbered, last_id, name_of}
use Rattle.hint_log.specs.Deciding.{DecidesNothing}
use Rattle.hint_log.specs.Growth.{Grew}
use Rattle.hint_log.specs.Naming.{AreNamedAs}
use Rattle.hint_log.specs.Reached.{Reaches}
use Rattle.hint_log.specs.declared.names.Name.TheVariants.{Copy as CopyOf}
use Rattle.log_laws.specs.Engines.{copies, IsAddedBy}
use Rattle.log_laws.proofs.Found.{named_variable}
use Rattle.log_laws.proofs.Kept.{NamesStay, named_stay, each_of_weaker}
use Rattle.oracle.specs.Calls.{IsMade, IsLearnedEntry, IsRefutedUnder, assumed}
use Rattle.oracle.specs.Searched.{IsSearched}
use Rattle.oracle.specs.declared.groups.Group.{Group}
use Rattle.oracle.specs.declared.oracles.Answer.{Answer as AnswerOf}
use Rattle.oracle.specs.declared.oracles.Answer.TheVariants.{Sat, Unsat}
use Rattle.definability.specs.Copies.{all_groups, groups_of, is_copied_at, AreCopies, AreCopiesOf, IsDefinability, copy_names}
use Rattle.definability.specs.Dividing.{asked_of, IsAsked, AreActive, AreTold, ShowsDefinition}
use Rattle.definability.specs.declared.asking.Asked.{Asked}
use Rattle.definability.specs.declared.definability.Definability.{Definability}
use Rattle.definability.proofs.KeptCopies.{Keeps, IsNamed, group_element, keeps_by_engine, keeps_entry, definability_stays, groups_made, groups_named}
use Rattle.definability.proofs.Reached.{LinesAreImplied, undecided_answer}
use Rattle.definability.proofs.DividedAnswers.{divides, only_copies}
use Rattle.definition_order.proofs.Declared.{some_existential}
use Rattle.definability.specs.Growing.{HasSearched}
use Rattle.definability.proofs.SameGivens.{learned_same, refuted_same}

learned_is_added : (f : Dqbf) (group : ℕ) (silent : Bool) (old earlier : List Entry) (e : Entry) →
    IsLearnedEntry earlier e → IsAddedBy f copies group silent old earlier e
learned_is_added f group silent old earlier (Learned c hints) h = tt
learned_is_added f group silent old earlier _ h = absurd h

-- a search that logs no answer, wherever one begins to look
pub learned_from : (f : Dqbf) (start : List Entry) (old new : ProofLog) → Grew IsLearnedEntry old new → (group : ℕ) →
    Grew (IsAddedBy f copies group true start) old new
learned_from f start old new g group = search (arith, each_of_weaker, learned_is_added)

pub learned_grew : (f : Dqbf) (old new : ProofLog) → Grew IsLearnedEntry old new → (group : ℕ) →
    Grew (IsAddedBy f copies group true old.entries) old new
learned_grew f old new = learned_from f old.entries old new

next_differs : (n : ℕ) → n ≢ n + 1
next_differs n e = omega (arith, e)

keeps_learned : (f : Dqbf) (old new : ProofLog) → Grew IsLearnedEntry old new →
    Keeps f (IsNamed old.entries) old.entries new.entries
keeps_learned f old new grew =
    let by = λ (group : ℕ). keeps_by_engine f copies group true old new (learned_grew f old new grew group) in
    record {
      names = (by 0).names;
      contains = (by 0).contains;
      groups = λ test mine named. (by (mine + 1)).groups test mine (next_differs mine, named);
      sides = λ side mine named. (by (mine + 1)).sides side mine (next_differs mine, named);
    }

pub names_learned : (old new : ProofLog) → Dqbf → Grew IsLearnedEntry old new → NamesStay old.entries new.entries
names_learned old new f grew = (keeps_learned f old new grew).names

pub definability_learned : (f : Dqbf) (p : Definability) (old new : ProofLog) → Grew IsLearnedEntry old new →
    IsDefinability f p old.entries → IsDefinability f p new.entries
definability_learned f p old new grew definability = definability_stays f (IsNamed old.entries) old.entries new.entries
    (keeps_learned f old new grew) p (groups_named f p old.entries definability) definability

pub searched_learned : (f : Dqbf) (p : Definability) (old new : ProofLog) → Grew IsLearnedEntry old new →
    IsDefinability f p old.entries → HasSearched f p old new
searched_learned f p old new grew definability = search (arith, definability_learned, learned_same, learned_grew)

all_plain : (xs : List ℕ) → All (λ x. Unit {0}) xs
all_plain xs i d lt = tt

pub places_below : (places : List ℕ) (n m : ℕ) → n ≡ m → All (λ k. k < m) places → All (λ k. k < n) places
places_below places n m same within = subst (λ b. All (λ k. k < b) places) (sym same) within

pub active_made : (f : Dqbf) (p : Definability) (es : List Entry) (places : List ℕ) (active : List Group) → IsDefinability f p es →
    AreActive p places active → All (IsMade es) active
active_made f p es places active definability are k d lt =
    groups_made f p es definability (get_or active k d) (among (get_or active k d) (Contains-get_or active k d lt))
  where
    among : (g : Group) → Contains active g → Contains (all_groups p) g
    among g inside =
        let behind = p.second.groups.items ++ p.links.items in
        elim (Contains-append_cases p.first.groups.items (p.second.groups.items ++ are.links) g
        (subst (λ gs. Contains gs g) are.active_is inside)) [
          | inl one ↦ Contains-append_left p.first.groups.items behind g one
          | inr later ↦ Contains-append_right p.first.groups.items behind g
              (elim (Contains-append_cases p.second.groups.items are.links g later) [
                | inl two ↦ Contains-append_left p.second.groups.items p.links.items g two
                | inr link ↦ (
                    let r = are.sound g link in
                    Contains-append_right p.second.groups.items p.links.items g (group_element p.links.items r.0 g r.2))
              ])
        ]

-- a search that ends with an answer, whatever was assumed
module _ (f : Dqbf) (p : Definability) (assumptions : List Literal) (old new : ProofLog) (id : ℕ)
    (definability : IsDefinability f p old.entries) (r : IsRefutedUnder old new assumptions id) where
  abbrev answer : Entry
  answer = Answer r.clause r.hints

  pub answered : new.entries ≡ Answer r.clause r.hints ∷ r.before.entries
  answered = ap (λ (l : ProofLog). l.entries) r.answered

  pub answer_last : id ≡ last_id r.before.entries + 1
  answer_last = r.last ∙ ap last_id answered

  pub definability_answered : IsDefinability f p (Answer r.clause r.hints ∷ r.before.entries)
  definability_answered =
      definability_stays f (λ mine. Unit {0}) r.before.entries (answer ∷ r.before.entries)
      (keeps_entry f answer r.before.entries (λ w n named. named) (λ test mine. tt) (λ side mine. tt)) p (all_plain (groups_of p))
      (definability_learned f p old r.before r.learned definability)

  definability_refuted : IsDefinability f p new.entries
  definability_refuted = subst (IsDefinability f p) (sym answered) definability_answered

  pub names_answered : NamesStay old.entries (Answer r.clause r.hints ∷ r.before.entries)
  names_answered = names_learned old r.before f r.learned

  pub silent_grew : DecidesNothing f r.before.entries (Answer r.clause r.hints) → (group : ℕ) →
      Grew (IsAddedBy f copies group true old.entries) old new
  silent_grew undecided group =
      let g = learned_grew f old r.before r.learned group in
      record {
        more = answer ∷ g.more;
        grown = answered ∙ ap (λ es. answer ∷ es) g.grown;
        each = (λ quiet. subst (λ es. DecidesNothing f es answer) g.grown undecided, g.each);
        limit = ap (λ (l : ProofLog). l.limit) r.answered ∙ g.limit;
      }

  pub searched_refuted : ((group : ℕ) → Grew (IsAddedBy f copies group true old.entries) old new) →
      HasSearched f p old new
  searched_refuted grew = record { copied = definability_refuted; same = refuted_same assumptions old new id r; grew = grew }

-- a search in both copies that ends with an answer
module _ (implied : LinesAreImplied)
    (stays : (e : Entry) (entries : List Entry) (id : ℕ) → IsId entries id →
    numbered has_id (e ∷ entries) id ≡ numbered has_id entries id)
    (are_ids : (entries : List Entry) (id i : ℕ) → AreLogged entries → IsId entries id → Reaches entries id i →
    IsId entries i)
    (f : Dqbf) (places : List ℕ) (v : ℕ) (conditions : List Literal) (p : Definability) (active : List Group) (asked : Asked)
    (old new : ProofLog) (id : ℕ)
    (definability : IsDefinability f p old.entries) (within : All (λ k. k < length (declared f)) places)
    (flagged : All (λ k. is_copied_at p.copied.items k ≡ true) places)
    (are_active : AreActive p places active) (are : IsAsked old.entries v conditions asked)
    (searched : IsSearched new.entries) (r : IsRefutedUnder old new
    (assumed active (asked.first.items ++ asked.second.items)) id) where
  abbrev under : List Literal
  under = assumed active (asked.first.items ++ asked.second.items)

  abbrev all : List Entry
  all = Answer r.clause r.hints ∷ r.before.entries

  searched_there : IsSearched all
  searched_there = subst IsSearched (answered f p under old new id definability r) searched

  first_there : AreNamedAs all asked.first.items (copy_names 1 (asked_of conditions (positive v)))
  first_there = search (arith, named_stay, names_answered)

  second_there : AreNamedAs all asked.second.items (copy_names 2 (asked_of conditions (negative v)))
  second_there = search (arith, named_stay, names_answered)

  pub shows : ShowsDefinition f places v conditions p asked.first.items new.entries id
  shows =
      subst (λ es. ShowsDefinition f places v conditions p asked.first.items es id)
      (sym (answered f p under old new id definability r))
      (subst (ShowsDefinition f places v conditions p asked.first.items all)
      (sym (answer_last f p under old new id definability r)) (record {
        is_id = record { from_one = omega arith; last = omega arith };
        derived = searched_there.derived;
        divides = divides f v conditions p places active asked.first.items asked.second.items all r.before.entries
            r.clause r.hints stays are_ids refl searched_there
            (definability_answered f p under old new id definability r) within flagged are_active first_there second_there r.negated;
      }))

  pub refuted_grew : (group : ℕ) → Grew (IsAddedBy f copies group true old.entries) old new
  refuted_grew =
      silent_grew f p under old new id definability r
      (undecided_answer implied f r.before.entries r.clause r.hints searched_there
      (only_copies f v conditions p places active asked.first.items asked.second.items all r.before.entries r.clause
      r.hints stays are_ids refl searched_there
      (definability_answered f p under old new id definability r) within flagged are_active first_there second_there r.negated))

-- the assumptions, as they were put together
pub two_joined : (xs ys first second lits joined : List Literal) → xs ≡ first → ys ≡ second → lits ≡ xs ++ ys →
    joined ≡ lits → joined ≡ first ++ second
two_joined xs ys first second lits joined xs_are ys_are are same = search arith

pub refuted_under : (old new : ProofLog) (gs active : List Group) (joined lits : List Literal) (id : ℕ) → gs ≡ active →
    joined ≡ lits → IsRefutedUnder old new (assumed gs joined) id →
    IsRefutedUnder old new (assumed active lits) id
refuted_under old new gs active joined lits id gs_are all_are r = search arith

pub on_answer : {P : Type 0} (a : AnswerOf) → (a ≡ Sat → P) → ((id : ℕ) → a ≡ Unsat id → P) → P
on_answer Sat sat unsat = sat refl
on_answer (Unsat id) sat unsat = unsat id refl

pub mapped_existential : (ys : List Existential) (e : Existential) → Contains ys e →
    Contains (map (λ z. z.variable) ys) e.variable
mapped_existential [] e (k, lt, at) = absurd (omega (arith, lt))
mapped_existential (y ∷ ys) e (zero, lt, at) = (0, omega arith, ap (λ (z : Existential). z.variable) at)
mapped_existential (y ∷ ys) e (suc k, lt, at) = let r = mapped_existential ys e (k, omega (arith, lt), at) in let b =
    r.1 in (suc r.0, omega (arith, b), r.2)

pub found_declared : (f : Dqbf) (v : ℕ) (e : Existential) → existential_of f v ≡ Some e →
    Contains (declared f) e.variable
found_declared f v e found = search (arith, Contains-append_right, mapped_existential, find_sound)

pub found_variable : (f : Dqbf) (v : ℕ) (e : Existential) → existential_of f v ≡ Some e → e.variable ≡ v
found_variable f v e found = (find_sound v f.existentials e found).1

pub existential_declared : (f : Dqbf) (v : ℕ) → IsSome (existential_of f v) → Contains (declared f) v
existential_declared f v is = search (arith, some_existential, found_variable, found_declared)

-- the copies have names, so that an oracle that goes with the log has them
pub copies_told : (es : List Entry) (side : ℕ) (vs : List ℕ) (lits : List Literal) (P : ℕ → Type 0) →
    AreCopiesOf es side vs lits → ((v : ℕ) → IsSome (name_of es v) → P v) →
    All (λ l. P (variable_of l)) lits
copies_told es side vs [] P are made = All-nil (λ l. P (variable_of l))
copies_told es side [] (l ∷ lits) P are made = cc
copies_told es side (v ∷ vs) (l ∷ lits) P are made =
    search (arith, named_variable, All-cons, (copies_told es side vs lits P))

-- of those of the universals that have some
pub flags_told : (es : List Entry) (side : ℕ) (flags : List Bool) (vs : List ℕ) (lits : List Literal) (P : ℕ → Type 0) →
    AreCopies es side flags vs lits → ((v : ℕ) → IsSome (name_of es v) → P v) → AreTold P flags lits
flags_told es side flags vs lits P are made k l flag at =
    let lt = slice_get_within lits k l at in
    let long = are.long in
    let v = get_or vs k 0 in
    let is = are.named k v l flag (slice_get-get_or vs k 0 (omega (arith, lt, long))) at in
    let named = named_variable es l (CopyOf side v) false (name_of es (variable_of l)) refl is in
    made (variable_of l) (subst IsSome (sym named.0) refl)
