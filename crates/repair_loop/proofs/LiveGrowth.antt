-- What engines add in a session: which groups get faults, what room there is for them, and what
-- leaves a checker as it is. Questions add so little that any engine may have added it.
use Rattle.std.proofs.Common.{◌≡◌, ◌≢◌, ℕ, zero, suc, ◌+◌, ◌-◌, ◌<◌, Bool, true, false, inl, inr, ◌⊎◌, List, [], ◌∷◌, ◌++◌, Option, None, Some, IsSome, refl, sym, ◌∙◌, ap, subst, arith}
use Rattle.std.specs.List.{Contains}
use Rattle.list_laws.proofs.Members.{contains_later}
use Rattle.dq_lits.specs.Literal.{Literal, variable_of}
use Rattle.dq_lits.specs.Formula.{Dqbf}
use Rattle.hint_log.specs.Entries.{Entry, Named, Given, Learned, Answer, Round, Begun, ProofLog, name_of, rounds_of, beginnings_of}
use Rattle.hint_log.specs.Growth.{EachOf, Grew}
use Rattle.hint_log.specs.Live.{live_numbers, live_formula, with_matrix}
use Rattle.hint_log.specs.ProductiveLog.{MatchesOrigin, fault_groups, fault_room}
use Rattle.hint_log.specs.ProductiveSession.{MatchesLiveOrigin}
use Rattle.hint_log.specs.declared.origins.Origin.{Origin}
use Rattle.hint_log.specs.declared.origins.Origin.TheVariants.{Fault}
use Rattle.hint_log.specs.declared.names.Name.{Name}
use Rattle.hint_log.specs.declared.names.Name.TheVariants.{Selector}
use Rattle.log_laws.specs.Engines.{Engine, circuits, same_engine, origin_engine, IsAddedBy}
use Rattle.log_laws.specs.Sessions.{IsAddedLive}
use Rattle.log_laws.proofs.LargerLogs.{grown_by}
use Rattle.circuit_cnf.specs.declared.checkers.Checker.{Checker}
use Rattle.oracle.specs.declared.groups.Group.{Group}
use Rattle.circuit_cnf.specs.Checking.{IsChecker, CheckersStay, gate_groups}
use Rattle.known_functions.specs.Searching.{IsAsked}

asked_formula : (f : Dqbf) (more old : List Entry) → EachOf (IsAsked f) more old →
    live_numbers (more ++ old) ≡ live_numbers old
asked_formula f [] old each = refl
asked_formula f (Learned c hints ∷ more) old each = asked_formula f more old each.1
asked_formula f (Answer c hints ∷ more) old each = asked_formula f more old each.1
asked_formula f (_ ∷ more) old each = absurd each.0

asked_each : (all f : Dqbf) (engine : Engine) (groups : List ℕ) (start more old : List Entry) →
    f ≡ live_formula all old → EachOf (IsAsked f) more old →
    EachOf (IsAddedLive all engine groups true start) more old
asked_each all f engine groups start [] old now each = tt
asked_each all f engine groups start (Learned c hints ∷ more) old now each =
    (tt, asked_each all f engine groups start more old now each.1)
asked_each all f engine groups start (Answer c hints ∷ more) old now each =
    search (arith, asked_formula, (asked_each all f engine groups start more old now each.1))
asked_each all f engine groups start (_ ∷ more) old now each = absurd each.0

-- what questions add, any engine may have added
pub asked_live : (all f : Dqbf) (engine : Engine) (groups : List ℕ) (old new : ProofLog) →
    f ≡ live_formula all old.entries → Grew (IsAsked f) old new →
    Grew (IsAddedLive all engine groups true old.entries) old new
asked_live all f engine groups old new now grew = search (arith, asked_each)

no_fault : (engine : Engine) (origin : Origin) (c : List Literal) (es : List Entry) →
    same_engine engine circuits ≡ false → origin_engine origin ≡ engine →
    fault_groups (Given origin c ∷ es) ≡ fault_groups es
no_fault engine (Fault j i leaf) c es other own = search arith
no_fault engine _ c es other own = refl

module _ (all : Dqbf) (engine : Engine) (groups : List ℕ) (silent : Bool) (start old : List Entry) where
  abbrev Added : List Entry → Entry → Type 0
  Added = IsAddedLive all engine groups silent start

  faults_each : same_engine engine circuits ≡ false → (more : List Entry) → EachOf Added more old →
      fault_groups (more ++ old) ≡ fault_groups old
  faults_each other [] each = refl
  faults_each other (Given origin c ∷ more) each = search (arith, no_fault, (faults_each other more each.1))
  faults_each other (Round row values j ∷ more) each = absurd each.0
  faults_each other (Begun live ∷ more) each = absurd each.0
  faults_each other (_ ∷ more) each = faults_each other more each.1

  rounds_each : (more : List Entry) → EachOf Added more old → rounds_of (more ++ old) ≡ rounds_of old
  rounds_each [] each = refl
  rounds_each (Round row values j ∷ more) each = absurd each.0
  rounds_each (Begun live ∷ more) each = absurd each.0
  rounds_each (_ ∷ more) each = rounds_each more each.1

  beginnings_each : (more : List Entry) → EachOf Added more old → beginnings_of (more ++ old) ≡ beginnings_of old
  beginnings_each [] each = refl
  beginnings_each (Round row values j ∷ more) each = absurd each.0
  beginnings_each (Begun live ∷ more) each = absurd each.0
  beginnings_each (_ ∷ more) each = beginnings_each more each.1

pub same_faults : (all : Dqbf) (engine : Engine) (groups : List ℕ) (silent : Bool) (old new : ProofLog) →
    same_engine engine circuits ≡ false → Grew (IsAddedLive all engine groups silent old.entries) old new →
    fault_groups new.entries ≡ fault_groups old.entries
same_faults all engine groups silent old new other grew = search (arith, faults_each)

pub same_room : (all : Dqbf) (engine : Engine) (groups : List ℕ) (silent : Bool) (old new : ProofLog) →
    Grew (IsAddedLive all engine groups silent old.entries) old new →
    fault_room new.entries ≡ fault_room old.entries
same_room all engine groups silent old new grew =
    ap fault_room grew.grown
    ∙ ap (λ n. n + 1 + (beginnings_of (grew.more ++ old.entries) - 1))
    (rounds_each all engine groups silent old.entries old.entries grew.more grew.each)
    ∙ ap (λ n. rounds_of old.entries + 1 + (n - 1))
    (beginnings_each all engine groups silent old.entries old.entries grew.more grew.each)

-- what was given by another engine is right by all clauses
plain_origin : (all : Dqbf) (engine : Engine) (earlier : List Entry) (origin : Origin) (c : List Literal) →
    same_engine circuits engine ≡ false → origin_engine origin ≡ engine →
    MatchesLiveOrigin all earlier (Given origin c) → MatchesOrigin all earlier (Given origin c)
plain_origin all engine earlier (Fault j i leaf) c other own is = search arith
plain_origin all engine earlier _ c other own is = is

-- a number that no group has
abbrev above : List Group → ℕ
above [] = 0
above (g ∷ gs) = suc (variable_of g.selector) + above gs

below_all : (gs : List Group) (g : Group) → Contains gs g → variable_of g.selector < above gs
below_all [] g (k, below, is) = absurd (omega (arith, below))
below_all (h ∷ gs) g (zero, below, is) =
    let same : variable_of h.selector ≡ variable_of g.selector = ap (λ (x : Group). variable_of x.selector) is in
    let more : above (h ∷ gs) ≡ suc (variable_of h.selector) + above gs = refl in
    omega (arith, same, more)
below_all (h ∷ gs) g (suc k, below, is) =
    let low = below_all gs g (k, omega (arith, below), is) in
    let more : above (h ∷ gs) ≡ suc (variable_of h.selector) + above gs = refl in
    omega (arith, low, more)

abbrev log_of : List Entry → ProofLog
log_of es = record { limit = 0; entries = es }

module _ (stay : CheckersStay) (all : Dqbf) (engine : Engine) (other : same_engine circuits engine ≡ false)
    (groups : List ℕ) (silent : Bool) (c : Checker)
    (apart : (h : Group) → Contains (gate_groups c) h → Contains groups (variable_of h.selector) → ⊥)
    (start : List Entry)
    (made : (h : Group) → Contains (gate_groups c) h → IsSome (name_of start (variable_of h.selector))) where
  -- one entry, in a group that is none of the gates'
  by_one : (g : ℕ) (earlier : List Entry) (e : Entry) →
      ((h : Group) → Contains (gate_groups c) h → variable_of h.selector ≢ g) →
      IsAddedBy all engine g false earlier earlier e → IsChecker all c earlier → IsChecker all c (e ∷ earlier)
  by_one g earlier e differ added before =
      stay all c engine g false (log_of earlier) (log_of (e ∷ earlier)) other differ
      (grown_by (IsAddedBy all engine g false earlier) (log_of earlier) (log_of (e ∷ earlier)) e refl added) before

  not_more : (h : Group) → Contains (gate_groups c) h → variable_of h.selector ≢ above (gate_groups c)
  not_more h mine e = let low = below_all (gate_groups c) h mine in omega (arith, low, e)

  differs : (g : ℕ) → Contains groups g ⊎ (name_of start g ≡ None) →
      (h : Group) → Contains (gate_groups c) h → variable_of h.selector ≢ g
  differs g (inl among) h mine e = apart h mine (subst (Contains groups) (sym e) among)
  differs g (inr none) h mine e =
      let nothing : name_of start (variable_of h.selector) ≡ None = ap (name_of start) e ∙ none in
      let some : IsSome (name_of start (variable_of h.selector)) = made h mine in
      cc

  checker_each : (more : List Entry) → EachOf (IsAddedLive all engine groups silent start) more start →
      IsChecker all c start → IsChecker all c (more ++ start)
  checker_each [] each before = before
  checker_each (Named v n ∷ more) each before =
      by_one (above (gate_groups c)) (more ++ start) (Named v n) not_more each.0 (checker_each more each.1 before)
  checker_each (Given origin d ∷ more) each before =
      let given = each.0 in
      let g = given.in_group.0 in
      by_one g (more ++ start) (Given origin d) (differs g given.in_group.2) (record {
        own = given.own;
        in_group = (g, given.in_group.1, inl refl);
        matches_origin = plain_origin all engine (more ++ start) origin d other given.own given.matches_origin;
        not_repeated = given.not_repeated;
      }) (checker_each more each.1 before)
  checker_each (Learned d hints ∷ more) each before =
      by_one (above (gate_groups c)) (more ++ start) (Learned d hints) not_more tt (checker_each more each.1 before)
  checker_each (Answer d hints ∷ more) each before =
      by_one (above (gate_groups c)) (more ++ start) (Answer d hints) not_more (λ quiet. cc)
      (checker_each more each.1 before)
  checker_each (_ ∷ more) each before = absurd each.0

some_is : (o : Option Name) (n : Name) → o ≡ Some n → IsSome o
some_is None n is = cc
some_is (Some m) n is = refl

pub checker_left : CheckersStay → (all : Dqbf) (engine : Engine) (groups : List ℕ) (silent : Bool) (c : Checker)
    (old new : ProofLog) → same_engine circuits engine ≡ false →
    ((h : Group) → Contains (gate_groups c) h → Contains groups (variable_of h.selector) → ⊥) →
    Grew (IsAddedLive all engine groups silent old.entries) old new → IsChecker all c old.entries →
    IsChecker all c new.entries
checker_left stay all engine groups silent c old new other apart grew before =
    let some : (h : Group) → Contains (gate_groups c) h → IsSome (name_of old.entries (variable_of h.selector)) =
    λ h mine. some_is (name_of old.entries (variable_of h.selector)) (Selector (variable_of h.selector))
    (before.gates.made h mine).named in
    subst (IsChecker all c) (sym grew.grown)
    (checker_each stay all engine other groups silent c apart old.entries some grew.more grew.each before)

-- a checker reads the prefix alone
pub same_prefix : (f : Dqbf) (m n : List (List Literal)) (c : Checker) (es : List Entry) →
    IsChecker (with_matrix f m) c es → IsChecker (with_matrix f n) c es
same_prefix f m n c es is = record { gates = is.gates; inputs = is.inputs; bads = is.bads }

still_given : (live : List ℕ) (es : List Entry) (origin : Origin) (c : List Literal) →
    Contains (Begun live ∷ es) (Given origin c) → Contains es (Given origin c)
still_given live es origin c (zero, below, is) = cc
still_given live es origin c (suc k, below, is) = (k, omega (arith, below), is)

-- a beginning leaves it as it is
pub checker_begun : (f : Dqbf) (c : Checker) (live : List ℕ) (es : List Entry) → IsChecker f c es →
    IsChecker f c (Begun live ∷ es)
checker_begun f c live es is = record {
  gates = record {
    made = λ h mine. record { positive = (is.gates.made h mine).positive; named = (is.gates.made h mine).named };
    known = is.gates.known;
    sound = is.gates.sound;
    clauses = λ a b v found. let have = is.gates.clauses a b v found in
        (have.0, have.1, λ i rest few rest_is. contains_later (Begun live) _ es (have.2 i rest few rest_is));
    origins = λ v i d has. is.gates.origins v i d (still_given live es _ d has);
    own = λ h mine. (tt, is.gates.own h mine);
    last = λ gate last. let h = is.gates.last gate last in record {
      named = h.named;
      few = h.few;
      given = λ i rest few rest_is. contains_later (Begun live) _ es (h.given i rest few rest_is);
      missing = λ i d more has. h.missing i d more (still_given live es _ d has);
      unknown = h.unknown;
    };
  };
  inputs = is.inputs;
  bads = is.bads;
}
