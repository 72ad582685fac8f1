-- Gates that are cut anywhere: what more bytes change of their reading.
use Rattle.std.proofs.Common.{◌≡◌, ℕ, zero, suc, ◌+◌, ◌-◌, ◌*◌, ◌/◌, ◌<◌, true, false, inl, inr, List, [], ◌∷◌, ◌++◌, length, drop, Some, refl, sym, ◌∙◌, ap, arith, subst, append_assoc, length-append}
use Rattle.std.specs.Prelude.{nat_lt, Result, Ok, Err}
use Rattle.std.proofs.lemmas.List.{drop_at}
use Rattle.std.proofs.lemmas.Bool.{cases_Bool, cond-true, cond-false}
use Rattle.circuit_plain.specs.Netlist.{Netlist}
use Rattle.circuit_plain.specs.declared.circuits.Gate.{Gate}
use Rattle.aiger_text.specs.Lines.{with_gate}
use Rattle.aiger_text.specs.declared.faults.AagFault.{AagFault}
use Rattle.aiger_text.specs.declared.faults.LineStop.{LineStop}
use Rattle.aiger_text.specs.declared.faults.LineStop.TheVariants.{Fault, Memory}
use Rattle.aiger_text.specs.declared.headers.Header.{Header}
use Rattle.aig_binary.specs.Deltas.{most_groups, and_then, read_delta, AreGroups}
use Rattle.aig_binary.specs.Gates.{lowered, first_side, read_gate, read_gates}
use Rattle.aig_binary.specs.MoreGates.{waits, AreGatesSoFar, AreMoreGates, AreTaken, IsBehind, IsProperEnd, IsWaiting, GoOn, gates_behind, next_variable}
use Rattle.aig_binary.proofs.Numbered.{numbered_push}
use Rattle.aig_binary.proofs.SpelledDeltas.{goes_on, ok_is, with_low, delta_is}
use Rattle.aig_binary.proofs.SpelledGates.{gate_is, behind_first, behind_left, behind_second, gate_with, same_gate}
use Rattle.aig_binary.proofs.Steps.{gate_stops, one_gate}

-- what is read, with more bytes behind
abbrev pub with_more : {A : Type 0} → Result (A × List ℕ) AagFault → List ℕ → Result (A × List ℕ) AagFault
with_more (Ok (value, rest)) more = Ok (value, rest ++ more)
with_more (Err name) more = Err name

-- it isn't said because the bytes end
abbrev pub Stays : {A : Type 0} → Result A AagFault → Type 0
Stays (Ok value) = Unit {0}
Stays (Err name) = waits name ≡ false

then_more : {A B : Type 0} (r s : Result (A × List ℕ) AagFault) (next : A × List ℕ → Result (B × List ℕ) AagFault)
    (more : List ℕ) → (Stays r → s ≡ with_more r more) →
    ((a : A) (rest : List ℕ) → Stays (next (a, rest)) → next (a, rest ++ more) ≡ with_more (next (a, rest)) more) →
    Stays (and_then r next) → and_then s next ≡ with_more (and_then r next) more
then_more (Ok (a, rest)) s next more same goes stays = search arith
then_more (Err name) s next more same goes stays = ap (λ t. and_then t next) (same stays)

value_more : {A B : Type 0} (r : Result A AagFault) (next later : A → Result (B × List ℕ) AagFault) (more : List ℕ) →
    ((a : A) → Stays (next a) → later a ≡ with_more (next a) more) → Stays (and_then r next) →
    and_then r later ≡ with_more (and_then r next) more
value_more (Ok a) next later more goes stays = goes a stays
value_more (Err name) next later more goes stays = refl

delta_more : (groups : ℕ) (bytes more : List ℕ) → Stays (read_delta groups bytes) →
    read_delta groups (bytes ++ more) ≡ with_more (read_delta groups bytes) more
delta_more zero bytes more stays = refl
delta_more (suc groups) [] more stays = cc
delta_more (suc groups) (byte ∷ bytes) more stays =
    search (arith, cases_Bool, cond-true, cond-false, then_more, (delta_more groups bytes more))

pub gate_more : (v : ℕ) (bytes more : List ℕ) → Stays (read_gate v bytes) →
    read_gate v (bytes ++ more) ≡ with_more (read_gate v bytes) more
gate_more v bytes more =
    then_more (read_delta most_groups bytes) (read_delta most_groups (bytes ++ more)) (behind_first v) more
    (delta_more most_groups bytes more) (λ first rest.
    value_more (first_side (2 * v) first) (behind_left v rest) (behind_left v (rest ++ more)) more (λ left.
    then_more (read_delta most_groups rest) (read_delta most_groups (rest ++ more)) (behind_second v left) more
    (delta_more most_groups rest more) (λ second last.
    value_more (lowered left second) (gate_with v left last) (gate_with v left (last ++ more)) more (λ right _. refl))))

-- it is said because the bytes end
abbrev pub Waits : {A : Type 0} → Result A AagFault → Type 0
Waits (Ok value) = ⊥
Waits (Err name) = waits name ≡ true

first_waits : {A B : Type 0} (r : Result A AagFault) (next : A → Result B AagFault) →
    ((a : A) → r ≡ Ok a → Waits (next a) → ⊥) → Waits (and_then r next) → Waits r
first_waits (Ok a) next never waiting = absurd (never a refl waiting)
first_waits (Err name) next never waiting = waiting

some_group : (code : List ℕ) (n : ℕ) (bytes rest : List ℕ) → AreGroups code n → bytes ≡ code ++ rest →
    IsProperEnd bytes rest
some_group [] n bytes rest are parts = absurd are
some_group (first ∷ front) n bytes rest are parts = record { first = first; front = front; parts = parts }

-- a difference that waits for bytes takes some
delta_takes : (groups : ℕ) (bytes more : List ℕ) (n : ℕ) (rest : List ℕ) → Waits (read_delta groups bytes) →
    read_delta groups (bytes ++ more) ≡ Ok (n, rest) → IsProperEnd more rest
delta_takes zero bytes more n rest waiting read = cc
delta_takes (suc groups) [] more n rest waiting read =
    let d = delta_is (suc groups) more n rest read in some_group d.code n more rest d.are d.parted
delta_takes (suc groups) (byte ∷ bytes) more n rest waiting read =
    let here : Result (ℕ × List ℕ) AagFault = Ok (byte, bytes) in
    let there : Result (ℕ × List ℕ) AagFault = Ok (byte, bytes ++ more) in
    let low = and_then (read_delta groups bytes) (with_low byte) in
    let later = and_then (read_delta groups (bytes ++ more)) (with_low byte) in
    elim (cases_Bool (nat_lt byte 128)) [
      | inl small ↦ absurd (subst Waits (cond-true (nat_lt byte 128) here low small) waiting)
      | inr large ↦
          let on = goes_on (read_delta groups (bytes ++ more)) (with_low byte) (n, rest)
          (sym (cond-false (nat_lt byte 128) there later large) ∙ read) in
          let same = ok_is (with_low byte on.0) (byte - 128 + 128 * on.0.0, on.0.1) (n, rest) refl on.2 in
          subst (IsProperEnd more) (ap (λ (p : ℕ × List ℕ). p.1) same)
          (delta_takes groups bytes more on.0.0 on.0.1
          (first_waits (read_delta groups bytes) (with_low byte) (λ high is none. none)
          (subst Waits (cond-false (nat_lt byte 128) here low large) waiting)) on.1)
    ]

pub longer_end : (bytes rest code last : List ℕ) → IsProperEnd bytes rest → rest ≡ code ++ last →
    IsProperEnd bytes last
longer_end bytes rest code last end is = search (arith, (append_assoc end.front code last))

module _ (v : ℕ) (bytes more : List ℕ) (g : Gate) (rest : List ℕ) (waiting : Waits (read_gate v bytes))
    (read : read_gate v (bytes ++ more) ≡ Ok (g, rest)) where
  first : (a : ℕ × List ℕ) × (read_delta most_groups (bytes ++ more) ≡ Ok a) × (behind_first v a ≡ Ok (g, rest))
  first = goes_on (read_delta most_groups (bytes ++ more)) (behind_first v) (g, rest) read

  left : (a : ℕ) × (first_side (2 * v) first.0.0 ≡ Ok a) × (behind_left v first.0.1 a ≡ Ok (g, rest))
  left = goes_on (first_side (2 * v) first.0.0) (behind_left v first.0.1) (g, rest) first.2

  second : (a : ℕ × List ℕ) × (read_delta most_groups first.0.1 ≡ Ok a) × (behind_second v left.0 a ≡ Ok (g, rest))
  second = goes_on (read_delta most_groups first.0.1) (behind_second v left.0) (g, rest) left.2

  right : (a : ℕ) × (lowered left.0 second.0.0 ≡ Ok a) × (gate_with v left.0 second.0.1 a ≡ Ok (g, rest))
  right = goes_on (lowered left.0 second.0.0) (gate_with v left.0 second.0.1) (g, rest) second.2

  rest_is : second.0.1 ≡ rest
  rest_is = (same_gate v left.0 right.0 second.0.1 rest g right.2).3

  -- the second difference waits
  second_takes : (n : ℕ) (behind : List ℕ) → read_delta most_groups bytes ≡ Ok (n, behind) →
      (r : Result (ℕ × List ℕ) AagFault) → read_delta most_groups behind ≡ r → IsProperEnd more second.0.1
  second_takes n behind is r second_is =
      let longer = delta_more most_groups bytes more (subst Stays (sym is) tt)
      ∙ ap (λ t. with_more t more) is in
      let same = ok_is (read_delta most_groups (bytes ++ more)) (n, behind ++ more) first.0 longer first.1 in
      let number : n ≡ first.0.0 = ap (λ (p : ℕ × List ℕ). p.0) same in
      let others : behind ++ more ≡ first.0.1 = ap (λ (p : ℕ × List ℕ). p.1) same in
      let side : first_side (2 * v) n ≡ Ok left.0 = ap (first_side (2 * v)) number ∙ left.1 in
      let there : Waits (behind_left v behind left.0) =
      subst (λ t. Waits (and_then t (behind_left v behind))) side
      (subst (λ t. Waits (and_then t (behind_first v))) is waiting) in
      let read_second : read_delta most_groups (behind ++ more) ≡ Ok second.0 =
      ap (read_delta most_groups) others ∙ second.1 in
      delta_takes most_groups behind more second.0.0 second.0.1
      (first_waits (read_delta most_groups behind) (behind_second v left.0) (λ a here none.
      let more_second = delta_more most_groups behind more (subst Stays (sym here) tt)
      ∙ ap (λ t. with_more t more) here in
      let twice = ok_is (read_delta most_groups (behind ++ more)) (a.0, a.1 ++ more) second.0 more_second read_second in
      let lower : lowered left.0 a.0 ≡ Ok right.0 = ap (lowered left.0) (ap (λ (p : ℕ × List ℕ). p.0) twice) ∙ right.1 in
      subst (λ t. Waits (and_then t (gate_with v left.0 a.1))) lower none) there) read_second

  by_first : (r : Result (ℕ × List ℕ) AagFault) → read_delta most_groups bytes ≡ r → IsProperEnd more second.0.1
  by_first (Ok (n, behind)) is = second_takes n behind is (read_delta most_groups behind) refl
  by_first (Err name) is =
      let here : Waits (read_delta most_groups bytes) =
      subst Waits (sym is) (subst (λ t. Waits (and_then t (behind_first v))) is waiting) in
      let d = delta_is most_groups first.0.1 second.0.0 second.0.1 second.1 in
      longer_end more first.0.1 d.code second.0.1
      (delta_takes most_groups bytes more first.0.0 first.0.1 here first.1) d.parted

  -- a gate that waits for bytes takes some
  pub gate_takes : IsProperEnd more rest
  gate_takes = subst (IsProperEnd more) rest_is (by_first (read_delta most_groups bytes) refl)

-- one gate more
pub record OneMoreGate (h : Header) (net made : Netlist) (bytes rest : List ℕ) : Type 0 where
  pub so_far : AreGatesSoFar h made
  pub goes : GoOn h net bytes made rest
  pub counted : length made.gates ≡ length net.gates + 1

module _ (h : Header) (net : Netlist) (bytes : List ℕ) (below : length net.gates < h.gates) where
  left_is : h.gates - length net.gates ≡ suc (h.gates - (length net.gates + 1))
  left_is = omega (arith, below)

  pub one_more_gate : (made : Netlist) (g : Gate) (rest : List ℕ) → AreGatesSoFar h net →
      read_gate (next_variable h net) bytes ≡ Ok (g, rest) → g.variable ≡ next_variable h net →
      made ≡ record net {
        gates = net.gates ++ record { variable = (2 * g.variable) / 2; left = g.left; right = g.right } ∷ [];
      } → OneMoreGate h net made bytes rest
  one_more_gate made g rest so_far read variable is =
      let half : (2 * g.variable) / 2 ≡ g.variable = omega arith in
      let made_is : made ≡ with_gate net g =
      is ∙ ap (λ v. record net {
        gates = net.gates ++ record { variable = v; left = g.left; right = g.right } ∷ [];
      }) half in
      let gates_are = ap (λ (n : Netlist). n.gates) made_is in
      let counted : length made.gates ≡ length net.gates + 1 =
      ap length gates_are ∙ length-append net.gates (g ∷ []) in
      let next : next_variable h net + 1 ≡ next_variable h made = omega (arith, counted) in
      let fewer : h.gates - (length net.gates + 1) ≡ h.gates - length made.gates = omega (arith, counted) in
      record {
        so_far = search (arith, numbered_push);
        goes = λ behind.
            ap (λ k. read_gates k (next_variable h net) net (bytes ++ behind)) left_is
            ∙ one_gate (h.gates - (length net.gates + 1)) (next_variable h net) net (bytes ++ behind) (rest ++ behind) g
            (gate_more (next_variable h net) bytes behind (subst Stays (sym read) tt)
            ∙ ap (λ r. with_more r behind) read)
            ∙ ap (λ k. read_gates k (next_variable h net + 1) (with_gate net g) (rest ++ behind)) fewer
            ∙ ap (λ v. read_gates (h.gates - length made.gates) v (with_gate net g) (rest ++ behind)) next
            ∙ ap (λ n. read_gates (h.gates - length made.gates) (next_variable h made) n (rest ++ behind)) (sym made_is);
        counted = counted;
      }

  -- a gate's fault, whatever bytes come
  pub gate_refused : (name : AagFault) (behind : List ℕ) → read_gate (next_variable h net) bytes ≡ Err name →
      waits name ≡ false → gates_behind h net (bytes ++ behind) ≡ Err name
  gate_refused name behind read final =
      ap (λ k. read_gates k (next_variable h net) net (bytes ++ behind)) left_is
      ∙ gate_stops (h.gates - (length net.gates + 1)) (next_variable h net) net (bytes ++ behind) name
      (gate_more (next_variable h net) bytes behind (subst Stays (sym read) final)
      ∙ ap (λ r. with_more r behind) read)

-- behind one more gate
pub still_behind : (h : Header) (old net made : Netlist) (whole bytes rest : List ℕ) (g : Gate) →
    IsBehind h old whole net bytes → read_gate (next_variable h net) bytes ≡ Ok (g, rest) →
    IsBehind h old whole made rest
still_behind h old net made whole bytes rest g behind read pending added parts waiting =
    inr (elim (behind pending added parts waiting) [
      | inl same ↦
          gate_takes (next_variable h old) pending added g rest (subst Waits (sym waiting.waits) refl)
          (subst (λ b. read_gate (next_variable h old) b ≡ Ok (g, rest)) (same.1 ∙ parts)
          (subst (λ n. read_gate (next_variable h n) bytes ≡ Ok (g, rest)) same.0 read))
      | inr end ↦
          let is = gate_is (next_variable h net) bytes g rest read in
          longer_end added bytes is.code rest end is.parted
    ])

-- what is left of bytes, by its length
end_is : (bytes rest : List ℕ) → IsProperEnd bytes rest →
    (length rest < length bytes) × (rest ≡ drop (length bytes - length rest) bytes)
end_is bytes rest end =
    let front = end.first ∷ end.front in
    let long : length bytes ≡ length front + length rest = ap length end.parts ∙ length-append front rest in
    let at : length front ≡ length bytes - length rest = omega (arith, long) in
    let some : length front ≡ suc (length end.front) = refl in (
      omega (arith, long, some),
      sym (ap (drop (length bytes - length rest)) end.parts ∙ drop_at front rest (length bytes - length rest) at),
    )

module _ (h : Header) (old new : Netlist) (pending bytes whole rest : List ℕ) (parts : whole ≡ pending ++ bytes) where
  cut_parts : (behind : List ℕ) → gates_behind h old (pending ++ (bytes ++ behind)) ≡ gates_behind h old (whole ++ behind)
  cut_parts behind = ap (gates_behind h old) (sym (ap (λ b. b ++ behind) parts ∙ append_assoc pending bytes behind))

  -- all gates came
  pub all_taken : AreMoreGates h old whole (Ok true) new rest → IsBehind h old whole new rest →
      IsWaiting h old pending → (left : ℕ) → left ≡ length rest → (kept : List ℕ) →
      AreTaken h old pending bytes (Ok (Some left)) new kept
  all_taken more behind waiting left is kept =
      let end : IsProperEnd bytes rest = search arith in
      let part = end_is bytes rest end in
      let none : h.gates - length new.gates ≡ 0 = let all = more.1 in omega (arith, all) in (
        subst (λ n. n < length bytes) (sym is) part.0,
        more.1,
        λ behind. cut_parts behind ∙ more.0 behind
            ∙ ap (λ k. read_gates k (next_variable h new) new (rest ++ behind)) none
            ∙ ap (λ r. Ok (new, r ++ behind)) (part.1 ∙ ap (λ n. drop (length bytes - n) bytes) (sym is)),
      )

  pub stop_taken : (stop : LineStop) → AreMoreGates h old whole (Err stop) new rest → (kept : List ℕ) →
      AreTaken h old pending bytes (Err stop) new kept
  stop_taken (Fault name) more kept = λ behind. cut_parts behind ∙ more behind
  stop_taken Memory more kept = tt
