-- A file that names only what it defines.
use Rattle.std.proofs.Common.{◌≡◌, ℕ, ◌<◌, ◌/◌, ◌==◌, nat_lt, get_or, Bool, true, false, not, cond, inl, inr, List, length, All, Option, Some, None, Ok, refl, sym, ◌∙◌, ap, arith}
use Rattle.std.specs.List.{position}
use Rattle.std.proofs.lemmas.Bool.{and_from, and_parts, or_left, or_right, or_cases, eq-eqb, eqb-true, not-false, ltb-false}
use Rattle.std.proofs.lemmas.List.Sums.{fails_before_first}
use Rattle.circuit_plain.proofs.NetlistLaws.{found_among, found_gate}
use Rattle.circuit_plain.specs.Netlist.{Netlist, IsDefined}
use Rattle.circuit_plain.specs.declared.circuits.Gate.{Gate}
use Rattle.aiger_text.specs.Grammar.{HasMeaning}
use Rattle.aiger_text.specs.Lines.{is_defined}
use Rattle.aiger_text.specs.Scan.{Body, stands_on_defined, reads_defined, or_gate, unless_undefined, finish}
use Rattle.aiger_text.specs.declared.files.AagFile.{AagFile}
use Rattle.aiger_text.proofs.Cuts.{position-None}
use Rattle.aiger_text.proofs.Variables.{defined_is}

abbrev pub GateHasMeaning : Netlist → Gate → Type 0
GateHasMeaning net g = HasMeaning net g.left × HasMeaning net g.right

abbrev pub file_of : Body → Option (List ℕ) → AagFile
file_of b comment = record { circuit = b.netlist; symbols = b.symbols; comment = comment }

stands_from : (net : Netlist) (l : ℕ) → HasMeaning net l → stands_on_defined net l ≡ true
stands_from net l (inl constant) = or_left (l / 2 == 0) (is_defined net (l / 2)) (eq-eqb (l / 2) 0 constant)
stands_from net l (inr defined) = or_right (l / 2 == 0) (is_defined net (l / 2)) (defined_is net (l / 2) defined)

is_defined_is : (net : Netlist) (v : ℕ) → is_defined net v ≡ true → IsDefined net v
is_defined_is net v h = search (arith, or_cases, (found_among v net.inputs), (found_gate net v net.gates))

stands_is : (net : Netlist) (l : ℕ) → stands_on_defined net l ≡ true → HasMeaning net l
stands_is net l h = search (arith, or_cases, eqb-true, is_defined_is)

pub finish_from : (b : Body) (comment : Option (List ℕ)) → All (HasMeaning b.netlist) b.netlist.outputs →
    All (GateHasMeaning b.netlist) b.netlist.gates →
    finish b comment ≡ Ok (file_of b comment)
finish_from b comment outputs gates =
    let net = b.netlist in
    let no_gate : Gate = record { variable = 0; left = 0; right = 0 } in
    let no_output = position-None (λ l. not (stands_on_defined net l)) net.outputs 0
    (λ k below. ap not (stands_from net (get_or net.outputs k 0) (outputs k 0 below))) in
    let no_side = position-None (λ g. not (reads_defined net g)) net.gates no_gate (λ k below.
    let g = get_or net.gates k no_gate in
    ap not (and_from (stands_on_defined net g.left) (stands_on_defined net g.right)
    (stands_from net g.left (gates k no_gate below).0) (stands_from net g.right (gates k no_gate below).1))) in
    ap (λ o. unless_undefined (or_gate b o (position (λ g. not (reads_defined net g)) net.gates)) (file_of b comment))
    no_output
    ∙ ap (λ o. unless_undefined (or_gate b None o) (file_of b comment)) no_side

none_test : (b : Bool) (n : ℕ) → cond b (Some n) None ≡ None → b ≡ false
none_test true n h = cc
none_test false n h = refl

pub none_passes : {X : Type 0} (p : X → Bool) (xs : List X) → position p xs ≡ None → (k : ℕ) (d : X) → k < length xs →
    p (get_or xs k d) ≡ false
none_passes p xs none k d below = search (arith, ltb-false, none_test, nat_lt, fails_before_first)

-- what a file that is finished says
pub record IsFinished (b : Body) (comment : Option (List ℕ)) (file : AagFile) : Type 0 where
  pub outputs_mean : All (HasMeaning b.netlist) b.netlist.outputs
  pub gates_mean : All (GateHasMeaning b.netlist) b.netlist.gates
  pub file_is : file ≡ file_of b comment

finished : (b : Body) (comment : Option (List ℕ)) (file : AagFile) (output gate : Option ℕ) →
    position (λ l. not (stands_on_defined b.netlist l)) b.netlist.outputs ≡ output →
    position (λ g. not (reads_defined b.netlist g)) b.netlist.gates ≡ gate →
    unless_undefined (or_gate b output gate) (file_of b comment) ≡ Ok file → IsFinished b comment file
finished b comment file (Some j) gate is_output is_gate h = cc
finished b comment file None (Some i) is_output is_gate h = cc
finished b comment file None None no_output no_side h =
    let same : file_of b comment ≡ file = cc in
    record {
      outputs_mean = λ k d below. stands_is b.netlist _ (not-false _
          (none_passes (λ l. not (stands_on_defined b.netlist l)) b.netlist.outputs no_output k d below));
      gates_mean = λ k d below.
          let g = get_or b.netlist.gates k d in
          let sides = and_parts (stands_on_defined b.netlist g.left) (stands_on_defined b.netlist g.right)
          (not-false (reads_defined b.netlist g) (none_passes
          (λ e. not (reads_defined b.netlist e)) b.netlist.gates no_side k d below)) in
          (stands_is b.netlist g.left sides.0, stands_is b.netlist g.right sides.1);
      file_is = sym same;
    }

pub finish_is : (b : Body) (comment : Option (List ℕ)) (file : AagFile) → finish b comment ≡ Ok file →
    IsFinished b comment file
finish_is b comment file h = finished b comment file _ _ refl refl h
