-- What stays as a log grows.
use Rattle.std.proofs.Common.{◌≡◌, ◌≢◌, ℕ, ◌≤◌, Bool, true, false, ◌⊎◌, inl, inr, List, [], ◌∷◌, ◌++◌, Option, Some, None, refl, sym, ◌∙◌, ap, subst, arith, filter, append_assoc}
use Rattle.std.proofs.lemmas.Bool.{false≢true, eqb-true}
use Rattle.dq_lits.specs.Literal.{Literal, negative}
use Rattle.dq_lits.specs.Formula.{Dqbf}
use Rattle.hint_log.specs.Entries.{ProofLog, with_entry, is_round, is_beginning, count, name_of, Entry, Named, Given, Learned, Answer, Round, Begun}
use Rattle.hint_log.specs.declared.names.Name.{Name}
use Rattle.hint_log.specs.declared.origins.Origin.{Origin}
use Rattle.hint_log.specs.declared.origins.Origin.TheVariants.{Fault}
use Rattle.hint_log.specs.Growth.{Each, EachOf, Grew}
use Rattle.hint_log.specs.Live.{live_numbers, before_beginning}
use Rattle.hint_log.specs.Naming.{rows_of}
use Rattle.hint_log.specs.Deciding.{DecidesNothing}
use Rattle.hint_log.specs.ProductiveLog.{MatchesOrigin, RefutesNewRow, FollowsModel, IsNotRepeated, is_fault, fault_groups}
use Rattle.hint_log.proofs.NamedEntries.{each_both}
use Rattle.log_laws.specs.Engines.{Engine, circuits, same_engine, origin_engine, name_engine, is_engine, is_own, IsInGroup, IsOwnGiven, IsAddedBy, LeavesRest, EnginesLeaveRest}

pub each_grown : (P Q : List Entry → Entry → Type 0) → ((earlier : List Entry) (e : Entry) → P earlier e →
    Q earlier e) →
    (more old : List Entry) → EachOf P more old → Each Q old → Each Q (more ++ old)
each_grown P Q weaker [] old more_ok old_ok = old_ok
each_grown P Q weaker (e ∷ more) old more_ok old_ok =
    search (arith, (each_grown P Q weaker more old more_ok.1 old_ok))

-- entries that fail a test
pub filter_grown : (P : List Entry → Entry → Type 0) (test : Entry → Bool) →
    ((earlier : List Entry) (e : Entry) → P earlier e → test e ≡ false) →
    (more old : List Entry) → EachOf P more old → filter test (more ++ old) ≡ filter test old
filter_grown P test fails [] old more_ok = refl
filter_grown P test fails (e ∷ more) old more_ok = search (arith, (filter_grown P test fails more old more_ok.1))

pub count_grown : (test : Entry → Bool) (more old : List Entry) → count test old ≤ count test (more ++ old)
count_grown test [] old = omega arith
count_grown test (e ∷ more) old = search (arith, (count_grown test more old))

pub count_same : (P : List Entry → Entry → Type 0) (test : Entry → Bool) →
    ((earlier : List Entry) (e : Entry) → P earlier e → test e ≡ false) →
    (more old : List Entry) → EachOf P more old → count test (more ++ old) ≡ count test old
count_same P test fails [] old more_ok = refl
count_same P test fails (e ∷ more) old more_ok = search (arith, (count_same P test fails more old more_ok.1))

module _ (f : Dqbf) (engine : Engine) (group : ℕ) (silent : Bool) (old : List Entry) where
  abbrev Added : List Entry → Entry → Type 0
  Added earlier e = IsAddedBy f engine group silent old earlier e

  pub no_round : (earlier : List Entry) (e : Entry) → Added earlier e → is_round e ≡ false
  no_round earlier (Round row values j) h = absurd h
  no_round earlier (Begun live) h = absurd h
  no_round earlier _ h = refl

  pub rightly_given : (earlier : List Entry) (e : Entry) → Added earlier e → MatchesOrigin f earlier e
  rightly_given earlier (Named v n) h = h.rightly
  rightly_given earlier (Given origin c) h = h.matches_origin
  rightly_given earlier _ h = tt

  pub first_of_origin : (earlier : List Entry) (e : Entry) → Added earlier e → IsNotRepeated earlier e
  first_of_origin earlier (Given origin c) h = h.not_repeated
  first_of_origin earlier _ h = tt

  pub real_round : (earlier : List Entry) (e : Entry) → Added earlier e → RefutesNewRow f earlier e
  real_round earlier (Round row values j) h = absurd h
  real_round earlier (Begun live) h = absurd h
  real_round earlier _ h = tt

  pub modelled : (earlier : List Entry) (e : Entry) → Added earlier e → FollowsModel f earlier e
  modelled earlier (Round row values j) h = absurd h
  modelled earlier (Begun live) h = absurd h
  modelled earlier _ h = tt

  pub undecided : silent ≡ true → (earlier : List Entry) (e : Entry) → Added earlier e → DecidesNothing f earlier e
  undecided s earlier (Answer c hints) h = h s
  undecided s earlier (Round row values j) h = absurd h
  undecided s earlier (Begun live) h = absurd h
  undecided s earlier _ h = tt

  own_name : (other : Engine) (o : Option Engine) → same_engine other engine ≡ false → (o ≡ None) ⊎ (o ≡ Some engine) →
      is_engine other o ≡ false
  own_name other o differ (inl none) = ap (is_engine other) none
  own_name other o differ (inr some) = ap (is_engine other) some ∙ differ

  pub foreign : (other : Engine) → same_engine other engine ≡ false → (earlier : List Entry) (e : Entry) →
      Added earlier e → is_own other e ≡ false
  foreign other differ earlier (Named v n) h = own_name other (name_engine n) differ h.own
  foreign other differ earlier (Given origin c) h = ap (same_engine other) h.own ∙ differ
  foreign other differ earlier (Learned c hints) h = refl
  foreign other differ earlier (Answer c hints) h = refl
  foreign other differ earlier _ h = absurd h

  -- names stay
  pub name_kept : (v : ℕ) (n : Name) (more : List Entry) → EachOf Added more old → name_of old v ≡ Some n →
      name_of (more ++ old) v ≡ Some n
  name_kept v n [] h is = is
  name_kept v n (Named w m ∷ more) h is = search (arith, (name_kept v n more h.1 is), eqb-true)
  name_kept v n (Round row values j ∷ more) h is = absurd h.0
  name_kept v n (Begun live ∷ more) h is = absurd h.0
  name_kept v n (_ ∷ more) h is = name_kept v n more h.1 is

  in_one_group : (g mine : ℕ) (c : List Literal) → IsInGroup mine c → IsInGroup g c → mine ≡ g
  in_one_group g mine c a b = let e : negative mine ∷ a.0 ≡ negative g ∷ b.0 = sym a.1 ∙ b.1 in cc

  -- no clause is given to another engine's group
  pub own_given : (other : Engine) (mine : ℕ) (n : Name) → mine ≢ group → name_of old mine ≡ Some n →
      (earlier : List Entry) (e : Entry) → Added earlier e → IsOwnGiven f other mine earlier e
  own_given other mine n apart named earlier (Given origin c) h = search (arith, in_one_group)
  own_given other mine n apart named earlier _ h = tt

  pub no_beginning : (earlier : List Entry) (e : Entry) → Added earlier e → is_beginning e ≡ false
  no_beginning earlier (Begun live) h = absurd h
  no_beginning earlier _ h = refl

  pub live_kept : (more : List Entry) → EachOf Added more old → live_numbers (more ++ old) ≡ live_numbers old
  live_kept [] h = refl
  live_kept (Round row values j ∷ more) h = absurd h.0
  live_kept (Begun live ∷ more) h = absurd h.0
  live_kept (_ ∷ more) h = live_kept more h.1

  pub before_kept : (more : List Entry) → EachOf Added more old → before_beginning (more ++ old) ≡ before_beginning old
  before_kept [] h = refl
  before_kept (Round row values j ∷ more) h = absurd h.0
  before_kept (Begun live ∷ more) h = absurd h.0
  before_kept (_ ∷ more) h = before_kept more h.1

  pub rows_kept : (more : List Entry) → EachOf Added more old → rows_of (more ++ old) ≡ rows_of old
  rows_kept [] h = refl
  rows_kept (Round row values j ∷ more) h = absurd h.0
  rows_kept (Begun live ∷ more) h = absurd h.0
  rows_kept (_ ∷ more) h = rows_kept more h.1

is_fault_of : (engine : Engine) (origin : Origin) → same_engine engine circuits ≡ false →
    origin_engine origin ≡ engine → is_fault origin ≡ false
is_fault_of engine (Fault j i leaf) h e = absurd (false≢true (sym h ∙ ap (λ x. same_engine x circuits) (sym e)))
is_fault_of engine _ h e = refl

-- other engines give no faults
faults_kept : (f : Dqbf) (engine : Engine) → same_engine engine circuits ≡ false →
    (group : ℕ) (silent : Bool) (old start more : List Entry) →
    EachOf (IsAddedBy f engine group silent old) more start → fault_groups (more ++ start) ≡ fault_groups start
faults_kept f engine other group silent old start [] h = refl
faults_kept f engine other group silent old start (Given origin c ∷ more) h =
    rw (is_fault_of engine origin other h.0.own) (faults_kept f engine other group silent old start more h.1)
faults_kept f engine other group silent old start (Round row values j ∷ more) h = absurd h.0
faults_kept f engine other group silent old start (Begun live ∷ more) h = absurd h.0
faults_kept f engine other group silent old start (_ ∷ more) h =
    faults_kept f engine other group silent old start more h.1

pub leaves_rest : EnginesLeaveRest
leaves_rest f engine group silent old new grew =
    let P : List Entry → List Entry → Type 0 = λ a b. LeavesRest f engine group silent a b in
    let Q : List Entry → Entry → Type 0 = IsAddedBy f engine group silent old.entries in
    let kept : LeavesRest f engine group silent old.entries (grew.more ++ old.entries) = record {
      origins = search (arith, each_grown, rightly_given);
      new_rows = search (arith, each_grown, real_round);
      models = search (arith, each_grown, modelled);
      givens = search (arith, each_grown, first_of_origin);
      decisions = λ s. each_grown Q (DecidesNothing f) (undecided f engine group silent old.entries s) grew.more
          old.entries grew.each;
      rows = rows_kept f engine group silent old.entries grew.more grew.each;
      rounds = count_same Q is_round (no_round f engine group silent old.entries) grew.more old.entries grew.each;
      names = λ v name. name_kept f engine group silent old.entries v name grew.more grew.each;
      others = λ other differ. filter_grown Q (is_own other)
          (foreign f engine group silent old.entries other differ) grew.more old.entries grew.each;
      groups = λ other mine name apart named. each_grown Q (IsOwnGiven f other mine)
          (own_given f engine group silent old.entries other mine name apart named) grew.more old.entries grew.each;
      beginnings = search (arith, count_same, no_beginning);
      room = search (arith, count_same, no_round, no_beginning);
      live = live_kept f engine group silent old.entries grew.more grew.each;
      before = before_kept f engine group silent old.entries grew.more grew.each;
      faults = λ other. faults_kept f engine other group silent old.entries old.entries grew.more grew.each;
    } in
    subst (LeavesRest f engine group silent old.entries) (sym grew.grown) kept

-- how logs grow, whatever the entries' fact
pub grown_by : (P : List Entry → Entry → Type 0) (old new : ProofLog) (e : Entry) → new ≡ with_entry old e →
    P old.entries e → Grew P old new
grown_by P old new e is fact = record {
  more = e ∷ [];
  grown = ap (λ (l : ProofLog). l.entries) is;
  each = (fact, tt);
  limit = ap (λ (l : ProofLog). l.limit) is;
}

pub grown_by_none : (P : List Entry → Entry → Type 0) (old new : ProofLog) → new ≡ old → Grew P old new
grown_by_none P old new is = search arith

pub grown_then : (P : List Entry → Entry → Type 0) (a b c : ProofLog) → Grew P a b → Grew P b c → Grew P a c
grown_then P a b c first second = search (arith, append_assoc, each_both)
