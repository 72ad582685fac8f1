-- Walks through what outputs read.
use Rattle.std.proofs.Common.{◌≡◌, ℕ, ◌+◌, ◌++◌, ◌<◌, ◌≤◌, ◌⊎◌, inl, inr, false, List, length, take, drop, ◌*◌, Option, None, Some, refl, sym, ap, ◌∙◌, subst, arith}
use Rattle.std.specs.Prelude.{slice_index, IsSome}
use Rattle.std.specs.List.{Contains, All}
use Rattle.std.proofs.lemmas.Bool.{cases_eq, cases_Bool, false≢true}
use Rattle.std.proofs.lemmas.List.{get_or_default, get_or-take, get_or-drop, length-map, length-take, length-drop}
use Rattle.std.proofs.lemmas.List.Elements.{Contains-get_or}
use Rattle.dq_lits.specs.Formula.{Existential, Dqbf, existential_of}
use Rattle.circuit_plain.specs.declared.circuits.Gate.{Gate}
use Rattle.circuit_plain.specs.Netlist.{Netlist, IsNetlist, left_variable, right_variable}
use Rattle.circuit_plain.specs.Reach.{Reaches, itself, left, right}
use Rattle.circuit_plain.proofs.NetlistLaws.{same_place, same_gate, input_apart, input_fits, gate_fits}
use Rattle.skolem_checker.specs.Checks.{existential_at, ReadsDeclared}
use Rattle.skolem_checker.specs.Cones.{AreInputs, IsSeen, IsMember, Passes, IsClean, IsCone, Grows, ReachesAlone, AreAlone, AreKnown, AreSettled, circuit_variable}
use Rattle.skolem_checker.specs.Reads.{has_bit, root_of, IsAt, IsBatchAnswer}
use Rattle.skolem_checker.specs.Tables.{ReadsByTables, AreTables}
use Rattle.skolem_checker.specs.Mapping.{Mapping}
use Rattle.dq_formula.specs.Prefix.{existential_variables}
use Rattle.skolem_checker.proofs.ReadsLaws.{variable_at, named_at}
use Rattle.circuit_plain.proofs.ValueLaws.{Contains-place}
use Rattle.skolem_checker.specs.declared.cones.Cone.{Cone}
use Rattle.skolem_checker.proofs.SightsLaws.{whole_written}
use Rattle.dq_formula.proofs.Places.{existential_below}

pub grows_on : (slots slots' slots'' : List ℕ) (cone cone' cone'' : Cone) → Grows slots slots' cone cone' →
    Grows slots' slots'' cone' cone'' → Grows slots slots'' cone cone''
grows_on slots slots' slots'' cone cone' cone'' first second = search arith

pub clean_on : (net : Netlist) (literals universals sees slots slots' : List ℕ) (cone cone' : Cone) (done : ℕ) →
    Grows slots slots' cone cone' → done ≤ cone.end → IsClean net literals universals sees slots cone done
    → IsClean net literals universals sees slots' cone' done
clean_on net literals universals sees slots slots' cone cone' done grows within clean k from before = search arith

pub clean_more : (net : Netlist) (literals universals sees slots : List ℕ) (cone : Cone) (done : ℕ) →
    IsClean net literals universals sees slots cone done
    → Passes net literals universals sees slots cone (slice_index cone.members.items done)
    → IsClean net literals universals sees slots cone (done + 1)
clean_more net literals universals sees slots cone done clean passes k from before = search (arith, cases_eq)

-- from a member of a walk that has ended, members alone are reached
member_reached : (net : Netlist) (literals universals sees slots : List ℕ) (cone : Cone)
    → IsClean net literals universals sees slots cone cone.end → {v w : ℕ} → Reaches net v w
    → IsMember slots cone v → IsMember slots cone w
member_reached net literals universals sees slots cone clean itself member = member
member_reached net literals universals sees slots cone clean (left g g_in r) member =
    search (arith, (member_reached net literals universals sees slots cone clean r))
member_reached net literals universals sees slots cone clean (right g g_in r) member =
    search (arith, (member_reached net literals universals sees slots cone clean r))

pub walked_alone : (net : Netlist) (literals universals sees slots : List ℕ) (cone : Cone) (root : ℕ)
    → IsClean net literals universals sees slots cone cone.end → IsMember slots cone root
    → ReachesAlone net literals universals root sees
walked_alone net literals universals sees slots cone root clean member q below reaches =
    search (
      arith,
      (member_reached net literals universals sees slots cone clean reaches member),
      (Contains-get_or universals q 0 below),
    )

module _ (net : Netlist) (kept : IsNetlist net) (literals universals by_input sees slots : List ℕ) (cone : Cone)
    (inputs : AreInputs net literals universals by_input) where
  -- a gate whose sides were come to
  pub gate_passes : (v l r : ℕ) → ((g : Gate) × Contains net.gates g × (g.variable ≡ v) × (left_variable g ≡ l)
      × (right_variable g ≡ r)) → IsMember slots cone l → IsMember slots cone r
      → Passes net literals universals sees slots cone v
  gate_passes v l r (g, g_in, is, is_left, is_right) l_member r_member = record {
    sides = λ h h_in h_is.
        let same : g ≡ h = same_gate net kept g h g_in h_in (is ∙ sym h_is) in (
          subst (λ k. IsMember slots cone (left_variable k)) same (subst (IsMember slots cone) (sym is_left) l_member),
          subst (λ k. IsMember slots cone (right_variable k)) same
              (subst (IsMember slots cone) (sym is_right) r_member),
        );
    seen = λ x x_in x_is.
        let at = inputs x x_in in
        absurd (input_apart net kept v g (Contains-place net.inputs at.0 v at.1 (at.2 ∙ x_is)) g_in (sym is));
  }

  -- the constant, and an input
  pub seen_passes : (v : ℕ) → IsSeen net by_input sees v → Passes net literals universals sees slots cone v
  seen_passes v (inl zero) = record {
    sides = λ g g_in is. absurd (omega (arith, (gate_fits net kept g g_in).variable.0, is, zero));
    seen = λ x x_in x_is.
        let at = inputs x x_in in
        absurd (omega (arith, (input_fits net kept v (Contains-place net.inputs at.0 v at.1 (at.2 ∙ x_is))).0, zero));
  }
  seen_passes v (inr (i, i_in, is, sees_it)) = record {
    sides = λ g g_in g_is.
        absurd (input_apart net kept v g (Contains-place net.inputs i v i_in is) g_in (sym g_is));
    seen = λ x x_in x_is.
        let at = inputs x x_in in
        let same : at.0 ≡ i = same_place (λ w. w) net.inputs at.0 i 0 kept.inputs_once at.1 i_in
        (at.2 ∙ x_is ∙ sym is) in
        subst (Contains sees) (ap (slice_index by_input) (sym same) ∙ at.3) sees_it;
  }

-- one more of a batch
pub alone_more : (net : Netlist) (literals places : List ℕ) (f : Dqbf) (ys : List ℕ) (settled i : ℕ)
    → AreAlone net literals places f ys settled i
    → (has_bit settled i ≡ false → (e : Existential) → existential_of f (slice_index ys i) ≡ Some e
    → ReachesAlone net literals f.universals (root_of net places (slice_index ys i)) e.sees)
    → AreAlone net literals places f ys settled (i + 1)
alone_more net literals places f ys settled i before one j e lt at off =
    elim (cases_eq j i) [
      | inl same ↦ search arith
      | inr other ↦ before j e (omega (arith, lt, other)) at off
    ]

-- a walk for another existential, which goes on where both have one dependency set
pub turned : (f : Dqbf) (net : Netlist) (literals slots : List ℕ) (cone : Cone) (start y : ℕ)
    → (start ≤ cone.end) → IsSome (existential_of f y)
    → (cone.end ≤ start) ⊎ ((start ≡ cone.start) × ((d e : Existential) → existential_of f cone.last ≡ Some d
    → existential_of f y ≡ Some e → d.sees ≡ e.sees))
    → IsCone f net literals slots cone → IsCone f net literals slots (record cone { start = start; last = y })
turned f net literals slots cone start y within declared (inl past) before = record {
  ordered = within;
  room = before.room;
  declared = λ _. declared;
  clean = λ e is k from below. absurd (omega (arith, past, from, below));
}
turned f net literals slots cone start y within declared (inr (same, one)) before = record {
  ordered = within;
  room = before.room;
  declared = λ _. declared;
  clean = λ e is k from below.
      by (existential_of f cone.last) refl (before.declared (omega (arith, same, from, below))) e is k from below;
}
  where
    by : (o : Option Existential) → existential_of f cone.last ≡ o → IsSome o → (e : Existential) →
        existential_of f y ≡ Some e
        → (k : ℕ) → start ≤ k → k < cone.end
        → Passes net literals f.universals e.sees slots (record cone { start = start; last = y })
        (slice_index cone.members.items k)
    by None is some e y_is k from below = absurd (false≢true some)
    by (Some d) is some e y_is k from below =
        let passes = before.clean d is k (omega (arith, same, from)) below in
        let moved : (v : ℕ) → IsMember slots cone v → IsMember slots (record cone { start = start; last = y }) v =
        λ v member. record { since = omega (arith, member.since, same); before = member.before; is = member.is } in
        record {
          sides = λ g g_in g_is. (
            moved (left_variable g) (passes.sides g g_in g_is).0,
            moved (right_variable g) (passes.sides g g_in g_is).1,
          );
          seen = λ x x_in x_is. subst (λ sees. Contains sees x) (one d e is y_is) (passes.seen x x_in x_is);
        }

-- a batch of which all are known, or found by a walk
pub batch_alone : (net : Netlist) (literals places : List ℕ) (f : Dqbf) (ys : List ℕ) (settled : ℕ)
    → AreKnown net literals places f ys settled → AreAlone net literals places f ys settled (length ys)
    → IsBatchAnswer (ReadsByTables net literals places) f ys None
batch_alone net literals places f ys settled known alone i e at is q below reads =
    let moved : Reaches net (root_of net places (slice_index ys i))
    (circuit_variable literals (slice_index f.universals q)) =
    subst (λ y. Reaches net (root_of net places y) (circuit_variable literals (slice_index f.universals q))) is reads in
    elim (cases_Bool (has_bit settled i)) [
      | inl on ↦ known i e at on q below moved
      | inr off ↦ alone i e at.0 at off q below moved
    ]

-- what is known of a batch
pub batch_known : (net : Netlist) (literals places : List ℕ) (f : Dqbf) (ys settled : List ℕ) (batch n word : ℕ)
    → AreSettled net literals places f ys settled (length ys) → word ≡ slice_index settled batch → n ≤ 64
    → AreKnown net literals places f (take n (drop (batch * 64) ys)) word
batch_known net literals places f ys settled batch n word known is few i e at on =
    search (arith, length-take, length-drop, get_or-take, get_or-drop)

-- words that are written as a whole
pub cone_written : (f : Dqbf) (net : Netlist) (literals new old : List ℕ) (len : ℕ) (cone : Cone) → len ≡ length old →
    length new ≡ length old
    → IsCone f net literals new cone → IsCone f net literals (take len (new ++ drop (length new) old)) cone
cone_written f net literals new old len cone is same h = search (arith, whole_written)

pub settled_written : (net : Netlist) (literals places : List ℕ) (f : Dqbf) (ys ys' new old : List ℕ) (len : ℕ) →
    len ≡ length old → length new ≡ length old → ys ≡ ys' → AreSettled net literals places f ys new (length ys)
    → AreSettled net literals places f ys' (take len (new ++ drop (length new) old)) (length ys')
settled_written net literals places f ys ys' new old len is same one h = search (arith, whole_written)

-- the existentials are declared
pub all_declared : (f : Dqbf) (ys : List ℕ) → ys ≡ existential_variables f
    → All (λ y. existential_of f y.variable ≡ Some y) f.existentials → All (λ y. IsSome (existential_of f y)) ys
all_declared f ys same named k d below =
    rw (get_or_default ys k d 0 below ∙ variable_at f ys k same below)
    (rw (named_at f k named (existential_below f ys k same below)) refl)

-- each universal's input, by the tables
pub are_inputs : (f : Dqbf) (net : Netlist) (mapping : Mapping) (literals places : List ℕ) →
    AreTables f net mapping literals places
    → AreInputs net literals f.universals mapping.inputs
are_inputs f net mapping literals places tables x x_in =
    let (i, i_in, is) = tables.mapped.inputs.onto x x_in in
    let here : slice_index mapping.inputs i ≡ x = get_or_default mapping.inputs i 0 x i_in ∙ is in
    let literal : slice_index literals x ≡ 2 * slice_index net.inputs i =
    ap (slice_index literals) (sym here) ∙ tables.by_literal.input_literals i i_in in (
      i,
      omega (arith, i_in, tables.mapped.inputs_length, tables.mapped.inputs.same_length),
      omega (arith, literal),
      here,
    )

-- existentials that see all universals read declared ones alone, whatever they read
pub all_seen : (f : Dqbf) (ys : List ℕ) (Reads : ℕ → ℕ → Type 0) → ys ≡ existential_variables f
    → All (λ y. existential_of f y.variable ≡ Some y) f.existentials
    → ((i : ℕ) (e : Existential) → IsAt f ys i e → (q : ℕ) → q < length f.universals
    → Contains e.sees (slice_index f.universals q))
    → ReadsDeclared Reads f
all_seen f ys Reads same named see p below q within _ =
    let lengths : length ys ≡ length f.existentials = ap length same ∙ length-map f.existentials
    (λ (y : Existential). y.variable) in
    let at : p < length ys = omega (arith, below, lengths) in
    see p (existential_at f p)
    (at, ap (existential_of f) (get_or_default ys p 0 0 at ∙ variable_at f ys p same at) ∙ named_at f p named below)
    q within
