-- The exported circuit: a netlist without cycles, whose outputs read what their leaves read.
use Rattle.std.proofs.Common.{◌≡◌, ℕ, zero, suc, ◌+◌, ◌*◌, ◌^◌, ◌≤◌, ◌<◌, ◌==◌, Bool, true, false, cond, inl, inr, List, [], ◌∷◌, ◌++◌, map, length, get_or, slice_index, Some, refl, sym, ◌∙◌, ap, subst, arith, append_assoc, length-append}
use Rattle.std.specs.List.{All, Contains, range_with_len}
use Rattle.std.proofs.lemmas.Bool.{cond-true, cases_lt, true≢false}
use Rattle.std.proofs.lemmas.List.{get_or-map, get_or-append-add, length-map}
use Rattle.std.proofs.lemmas.List.Elements.{All-contains, All-nil, All-cons, All-map, Contains-get_or}
use Rattle.std.proofs.lemmas.List.FromFn.{length-range_with_len, get_or-range_with_len}
use Rattle.list_laws.proofs.Members.{contains_map, mapped_from, place_within}
use Rattle.dq_lits.specs.Literal.{Literal, positive, negative, variable_of}
use Rattle.dq_lits.specs.Formula.{Dqbf, Existential, IsWellFormed}
use Rattle.hint_log.specs.Conditions.{is_circuit_name, HasSides, MayFollow}
use Rattle.hint_log.specs.Entries.{name_of, Entry, Named, Given, Learned, Answer, Round, Begun}
use Rattle.hint_log.specs.declared.names.Name.{Name}
use Rattle.hint_log.specs.declared.names.Name.TheVariants.{Input, And, Bad}
use Rattle.hint_log.specs.declared.origins.Leaf.{Leaf}
use Rattle.hint_log.specs.declared.origins.Leaf.TheVariants.{Constant, Literal as LeafLiteral}
use Rattle.circuit_plain.specs.Ground.{IsGrounded, constant, input, gate}
use Rattle.circuit_plain.specs.Netlist.{Netlist, IsVariable, IsLiteral, IsGate, IsNetlist, literal_variable, left_variable, right_variable}
use Rattle.circuit_plain.specs.Reach.{Reaches, itself as reaches_itself, left as reaches_left, right as reaches_right}
use Rattle.circuit_plain.specs.declared.circuits.Gate.{Gate}
use Rattle.skolem_checker.specs.Checks.{existential_at}
use Rattle.skolem_checker.specs.SkolemCircuit.{IsComplete}
use Rattle.cert_export.specs.CircuitPart.{CircuitPart, max_number, circuit_renaming, or_zero, literal_code, leaf_code, gate_of, exported_netlist, IsInFile, IsLeafInFile, IsCircuitPart}
use Rattle.cert_export.specs.ExportedCircuit.{ExportedCircuitIsComplete, ExportedCircuitReadsSeen, ExportedCircuitIsNetlist}
use Rattle.hint_log.specs.Growth.{Each}
use Rattle.cert_export.specs.Given.{HasUniversalInputs}
use Rattle.cert_export.specs.Renaming.{Renaming}
use Rattle.hint_log.specs.Deciding.{ReadsInput, itself, left, right, LeafReads}
use Rattle.cert_export.proofs.CircuitNumbers.{IsNumbered, number_cases, HasNumber, code_at, circuit_numbered, circuit_numbers_are_injective}
use Rattle.log_laws.proofs.ReachedClauses.{name_stays}
use Rattle.log_laws.proofs.Solved.{sides}
use Rattle.log_laws.proofs.Found.{variable}
use Rattle.cert_text.proofs.CircuitLiterals.{half_even, half_odd}

pub variable_of_code : (r : Renaming) (l : Literal) (h : HasNumber r l) → literal_variable (literal_code r l) ≡ h.number
variable_of_code r (positive v) h = ap (λ o. literal_variable (2 * or_zero o)) h.is ∙ half_even h.number
variable_of_code r (negative v) h = ap (λ o. literal_variable (2 * or_zero o + 1)) h.is ∙ half_odd h.number

module _ (f : Dqbf) (all : List Entry) (e : CircuitPart) (lawful : Each MayFollow all)
    (given : HasUniversalInputs f all) (part : IsCircuitPart f all e) where
  abbrev r : Renaming
  r = circuit_renaming f all e

  abbrev net : Netlist
  net = exported_netlist f all e

  abbrev file_gate : ℕ → Gate
  file_gate v = gate_of r v (name_of all v)

  numbered : (l : Literal) → is_circuit_name (name_of all (variable_of l)) ≡ true → IsInFile all e.gates l →
      HasNumber r l
  numbered l circuit in_file = circuit_numbered f all e given l circuit in_file

  -- a gate of the file
  pub record IsFileGate (g : Gate) : Type 0 where
    pub variable : ℕ
    pub inside : Contains e.gates variable
    pub left : Literal
    pub right : Literal
    pub named : name_of all variable ≡ Some (And left right)
    pub own : HasNumber r (positive variable)
    pub left_number : HasNumber r left
    pub right_number : HasNumber r right
    pub is : file_gate variable ≡ g
    pub variable_is : g.variable ≡ own.number
    pub left_is : left_variable g ≡ left_number.number
    pub right_is : right_variable g ≡ right_number.number

  file_gate_of : (v : ℕ) → Contains e.gates v → (g : Gate) → file_gate v ≡ g → IsFileGate g
  file_gate_of v inside g is =
      let n = part.named v inside in
      let both = sides all v n.0 n.1 lawful n.2 in
      let files = part.sides v n.0 n.1 inside n.2 in
      let own = numbered (positive v) (ap is_circuit_name n.2) (λ a b h. inside) in
      let a = numbered n.0 both.0 files.0 in
      let b = numbered n.1 both.1 files.1 in
      let g_is : gate_of r v (Some (And n.0 n.1)) ≡ g = ap (gate_of r v) (sym n.2) ∙ is in
      record {
        variable = v;
        inside = inside;
        left = n.0;
        right = n.1;
        named = n.2;
        own = own;
        left_number = a;
        right_number = b;
        is = is;
        variable_is = ap (λ (x : Gate). x.variable) (sym g_is) ∙ ap or_zero own.is;
        left_is = ap left_variable (sym g_is) ∙ variable_of_code r n.0 a;
        right_is = ap right_variable (sym g_is) ∙ variable_of_code r n.1 b;
      }

  file_gate_in : (g : Gate) → Contains net.gates g → IsFileGate g
  file_gate_in g inside = let m = mapped_from file_gate e.gates g inside in file_gate_of m.0 m.1 g m.2

  same_number : (v w x y : ℕ) → r v ≡ Some x → r w ≡ Some y → x ≡ y → v ≡ w
  same_number v w x y h k same = circuit_numbers_are_injective f all e lawful v w y (h ∙ ap Some same) k

  -- what is reached in the file is read in the log
  reach_reads : (n m : ℕ) → Reaches net n m → (l : Literal) → r (variable_of l) ≡ Some n → (p : ℕ) → m ≡ p + 1 →
      p < length f.universals → ReadsInput all l (slice_index f.universals p)
  reach_reads n m reaches_itself l is p last below = by_case
      (number_cases f e (variable_of l) (name_of all (variable_of l)) n is) where
        by_case : IsNumbered f e (variable_of l) (name_of all (variable_of l)) n →
            ReadsInput all l (slice_index f.universals p)
        by_case (inl i) =
            let same : i.2.place ≡ p = omega (arith, i.2.number, last) in
            let u : i.0 ≡ slice_index f.universals p = sym i.2.there ∙ ap (slice_index f.universals) same in
            itself l (slice_index f.universals p) (i.1 ∙ ap (λ x. Some (Input x)) u)
        by_case (inr (inl g)) = absurd (omega (arith, g.1.number, g.2, last, below))
        by_case (inr (inr j)) = absurd (omega (arith, j.2, j.3, last, below))
  reach_reads n m (reaches_left g inside rest) l is p last below =
      let q = file_gate_in g inside in
      let same : variable_of l ≡ q.variable = same_number (variable_of l) q.variable n q.own.number is q.own.is
      q.variable_is in
      left l q.left q.right (slice_index f.universals p) (ap (name_of all) same ∙ q.named)
      (reach_reads (left_variable g) m rest q.left (q.left_number.is ∙ ap Some (sym q.left_is)) p last below)
  reach_reads n m (reaches_right g inside rest) l is p last below =
      let q = file_gate_in g inside in
      let same : variable_of l ≡ q.variable = same_number (variable_of l) q.variable n q.own.number is q.own.is
      q.variable_is in
      right l q.left q.right (slice_index f.universals p) (ap (name_of all) same ∙ q.named)
      (reach_reads (right_variable g) m rest q.right (q.right_number.is ∙ ap Some (sym q.right_is)) p last below)

  none_reached : (n m : ℕ) → Reaches net n m → n ≡ 0 → 1 ≤ m → ⊥
  none_reached n m reaches_itself zero_is one = omega arith
  none_reached n m (reaches_left g inside rest) zero_is one = let q = file_gate_in g inside in
      omega (arith, q.variable_is, q.own.from_one, zero_is)
  none_reached n m (reaches_right g inside rest) zero_is one = let q = file_gate_in g inside in
      omega (arith, q.variable_is, q.own.from_one, zero_is)

  leaf_reads : (leaf : Leaf) → IsLeafInFile all e.gates leaf → (p : ℕ) → p < length f.universals →
      Reaches net (literal_variable (leaf_code r leaf)) (p + 1) → LeafReads all leaf (slice_index f.universals p)
  leaf_reads (Constant true) h p below reaches = search (arith, none_reached)
  leaf_reads (Constant false) h p below reaches = search (arith, none_reached)
  leaf_reads (LeafLiteral l) h p below reaches =
      let n = numbered l h.0 h.1 in
      reach_reads (literal_variable (literal_code r l)) (p + 1) reaches l
      (n.is ∙ ap Some (sym (variable_of_code r l n))) p refl below

  -- every variable of the file can be evaluated, by the order of the log
  grounded : (es more : List Entry) → all ≡ more ++ es → Each MayFollow es → (l : Literal) →
      is_circuit_name (name_of es (variable_of l)) ≡ true → IsInFile all e.gates l → (n : ℕ) →
      r (variable_of l) ≡ Some n → IsGrounded net n
  unfolding file_gate_of
  grounded [] more is own l h in_file n number = cc
  grounded (Named w name ∷ es) more is own l h in_file n number =
      by_bit (λ k c i m q. grounded es (more ++ Named w name ∷ [])
      (is ∙ sym (append_assoc more (Named w name ∷ []) es)) own.1 k c i m q) (variable_of l == w) refl h where
        there : (v : ℕ) (x : Name) → name_of (Named w name ∷ es) v ≡ Some x → name_of all v ≡ Some x
        there v x k = ap (λ xs. name_of xs v) is ∙ name_stays more (Named w name ∷ es) v x
            (subst (Each MayFollow) is lawful) k

        by_name : ((k : Literal) → is_circuit_name (name_of es (variable_of k)) ≡ true → IsInFile all e.gates k →
            (m : ℕ) → r (variable_of k) ≡ Some m → IsGrounded net m) →
            (o : Name) → HasSides es o → is_circuit_name (Some o) ≡ true → name_of all (variable_of l) ≡ Some o →
            IsGrounded net n
        by_name later (Input x) s c at = by_case (number_cases f e (variable_of l)
            (name_of all (variable_of l)) n number) where
              by_case : IsNumbered f e (variable_of l) (name_of all (variable_of l)) n → IsGrounded net n
              by_case (inl i) =
                  let n_is : 1 + i.2.place ≡ n = omega (arith, i.2.number) in
                  subst (IsGrounded net) n_is (input (place_within 1 (length f.universals) i.2.place i.2.below))
              by_case (inr (inl g)) =
                  let q = file_gate_of (variable_of l) (let p = g.1 in let c =
                  Contains-get_or e.gates p.place 0 p.below in
                  subst (Contains e.gates) p.there c) (file_gate (variable_of l)) refl in
                  let both : Some (Input x) ≡ Some (And q.left q.right) = sym at ∙ q.named in cc
              by_case (inr (inr j)) = let both : Some (Input x) ≡ Some (Bad e.group j.0) = sym at ∙ j.1 in cc
        by_name later (And a b) s c at =
            let inside = in_file a b at in
            let q = file_gate_of (variable_of l) inside (file_gate (variable_of l)) refl in
            let files = part.sides (variable_of l) a b inside at in
            let both : Some (And q.left q.right) ≡ Some (And a b) = sym q.named ∙ at in
            let a_is : a ≡ q.left = cc in
            let b_is : b ≡ q.right = cc in
            let left_ground = later a s.0 files.0 q.left_number.number
            (ap (λ k. r (variable_of k)) a_is ∙ q.left_number.is) in
            let right_ground = later b s.1 files.1 q.right_number.number
            (ap (λ k. r (variable_of k)) b_is ∙ q.right_number.is) in
            let own_is : q.own.number ≡ n = let two : Some q.own.number ≡ Some n = sym q.own.is ∙ number in cc in
            subst (IsGrounded net) (q.variable_is ∙ own_is)
            (gate (file_gate (variable_of l)) (contains_map file_gate e.gates (variable_of l) inside)
            (subst (IsGrounded net) (sym q.left_is) left_ground)
            (subst (IsGrounded net) (sym q.right_is) right_ground))
        by_name later _ s c at = cc

        by_bit : ((k : Literal) → is_circuit_name (name_of es (variable_of k)) ≡ true → IsInFile all e.gates k →
            (m : ℕ) → r (variable_of k) ≡ Some m → IsGrounded net m) →
            (b : Bool) → (variable_of l == w) ≡ b → is_circuit_name (cond b (Some name) (name_of es (variable_of l)))
            ≡ true → IsGrounded net n
        by_bit later true at h = by_name later name own.0.sides h
            (there (variable_of l) name (cond-true (variable_of l == w) (Some name) (name_of es (variable_of l)) at))
        by_bit later false at h = later l h in_file n number
  grounded (Given origin c ∷ es) more is own l h in_file n number =
      grounded es (more ++ Given origin c ∷ []) (is ∙ sym (append_assoc more (Given origin c ∷ []) es)) own.1 l h
      in_file n number
  grounded (Learned c hints ∷ es) more is own l h in_file n number =
      grounded es (more ++ Learned c hints ∷ []) (is ∙ sym (append_assoc more (Learned c hints ∷ []) es)) own.1 l h
      in_file n number
  grounded (Answer c hints ∷ es) more is own l h in_file n number =
      grounded es (more ++ Answer c hints ∷ []) (is ∙ sym (append_assoc more (Answer c hints ∷ []) es)) own.1 l h
      in_file n number
  grounded (Round row values j ∷ es) more is own l h in_file n number =
      grounded es (more ++ Round row values j ∷ []) (is ∙ sym (append_assoc more (Round row values j ∷ []) es)) own.1 l
      h in_file n number
  grounded (Begun live ∷ es) more is own l h in_file n number =
      grounded es (more ++ Begun live ∷ []) (is ∙ sym (append_assoc more (Begun live ∷ []) es)) own.1 l h in_file
      n number

  leaf_grounded : (leaf : Leaf) → IsLeafInFile all e.gates leaf → IsGrounded net (literal_variable (leaf_code r leaf))
  leaf_grounded (Constant true) h = constant
  leaf_grounded (Constant false) h = constant
  leaf_grounded (LeafLiteral l) h =
      let n = numbered l h.0 h.1 in
      subst (IsGrounded net) (sym (variable_of_code r l n)) (grounded all [] refl lawful l h.0 h.1 n.number n.is)

  complete : IsComplete net
  complete = record {
    gates = λ k d below.
        let g = get_or net.gates k d in
        let q = file_gate_in g (Contains-get_or net.gates k d below) in
        subst (IsGrounded net) (sym q.variable_is) (grounded all [] refl lawful (positive q.variable)
        (ap is_circuit_name q.named) (λ a b h. q.inside) q.own.number q.own.is);
    outputs = λ k d below.
        let m = mapped_from (λ y. leaf_code r (e.leaf y)) f.existentials (get_or net.outputs k d)
        (Contains-get_or net.outputs k d below) in
        subst (λ n. IsGrounded net (literal_variable n)) m.2
        (leaf_grounded (e.leaf m.0) (All-contains (λ y. IsLeafInFile all e.gates (e.leaf y)) f.existentials m.0
        part.leaves m.1));
  }

  pub sides_grounded : (g : Gate) → Contains net.gates g → IsGrounded net (left_variable g) × IsGrounded net
      (right_variable g)
  sides_grounded g inside =
      let q = file_gate_in g inside in
      let both = sides all q.variable q.left q.right lawful q.named in
      let files = part.sides q.variable q.left q.right q.inside q.named in (
        subst (IsGrounded net) (sym q.left_is) (grounded all [] refl lawful q.left both.0 files.0 q.left_number.number
            q.left_number.is),
        subst (IsGrounded net) (sym q.right_is) (grounded all [] refl lawful q.right both.1 files.1
            q.right_number.number q.right_number.is),
      )

pub exported_circuit_is_complete : ExportedCircuitIsComplete
exported_circuit_is_complete f entries e lawful given part = complete f entries e lawful given part

-- existentials are declared once
once : (f : Dqbf) → IsWellFormed f → (i j : ℕ) (d : Existential) → i < length f.existentials →
    j < length f.existentials → i < j → (get_or f.existentials i d).variable ≡ (get_or f.existentials j d).variable → ⊥
once f well i j d a b less same =
    let us = f.universals in
    let es = map variable f.existentials in
    let at_i : get_or (us ++ es) (length us + i) 0 ≡ (get_or f.existentials i d).variable =
    get_or-append-add us es i 0 ∙ get_or-map variable f.existentials i d 0 a in
    let at_j : get_or (us ++ es) (length us + j) 0 ≡ (get_or f.existentials j d).variable =
    get_or-append-add us es j 0 ∙ get_or-map variable f.existentials j d 0 b in
    well.prefix.declared_once (length us + i) (length us + j) 0 (omega (arith, less))
    (omega (arith, b, length-map f.existentials variable, length-append us es))
    (at_i ∙ same ∙ sym at_j)

same_place : (f : Dqbf) → IsWellFormed f → (i j : ℕ) (d : Existential) → i < length f.existentials →
    j < length f.existentials → (get_or f.existentials i d).variable ≡ (get_or f.existentials j d).variable → i ≡ j
same_place f well i j d a b same = elim (cases_lt i j) [
  | inl less ↦ absurd (once f well i j d a b less same)
  | inr more ↦ elim (cases_lt j i) [
    | inl less ↦ absurd (once f well j i d b a less (sym same))
    | inr more' ↦ omega arith
  ]
]

pub exported_circuit_reads_seen : ExportedCircuitReadsSeen
exported_circuit_reads_seen f entries e well lawful given part seen p below q small reads =
    let y = existential_at f p in
    let inside : Contains f.existentials y = Contains-get_or f.existentials p _ below in
    let out = reads.out in
    let out_small : out < length f.existentials = omega (arith, reads.out_in_range, length-map f.existentials variable) in
    let at_out : slice_index (map variable f.existentials) out ≡ (get_or f.existentials out y).variable =
    get_or-map variable f.existentials out y 0 out_small in
    let k = inside.0 in
    let k_small = inside.1 in
    let places : out ≡ k = same_place f well out k y out_small k_small
    (sym at_out ∙ reads.out_stands_for ∙ ap variable (sym inside.2)) in
    let there : get_or f.existentials out y ≡ y = ap (λ n. get_or f.existentials n y) places ∙ inside.2 in
    let output : slice_index (exported_netlist f entries e).outputs out ≡ leaf_code (circuit_renaming f entries e)
    (e.leaf y) =
    get_or-map (λ z. leaf_code (circuit_renaming f entries e) (e.leaf z)) f.existentials out y 0 out_small ∙ ap
    (λ z. leaf_code (circuit_renaming f entries e) (e.leaf z)) there in
    let input' = reads.input in
    let in_small = reads.input_in_range in
    let at_input : slice_index (exported_netlist f entries e).inputs input' ≡ input' + 1 =
    get_or-range_with_len 1 (length f.universals) input' 0 in_small
    ∙ (let s : 1 + input' ≡ input' + 1 = omega arith in s) in
    let reaches : Reaches (exported_netlist f entries e) (literal_variable
    (leaf_code (circuit_renaming f entries e) (e.leaf y))) (input' + 1) =
    subst (λ n. Reaches (exported_netlist f entries e) (literal_variable n) (input' + 1)) output
    (subst (λ n. Reaches (exported_netlist f entries e) (literal_variable
    (slice_index (exported_netlist f entries e).outputs out)) n) at_input reads.reaches) in
    let in_file = All-contains (λ z. IsLeafInFile entries e.gates (e.leaf z)) f.existentials y part.leaves inside in
    let read = leaf_reads f entries e lawful given part (e.leaf y) in_file input' in_small reaches in
    let x_is : slice_index f.universals input' ≡ slice_index f.universals q = reads.input_stands_for in
    subst (Contains y.sees) x_is (All-contains (λ z. (x : ℕ) → LeafReads entries (e.leaf z) x → Contains z.sees x)
    f.existentials y seen inside (slice_index f.universals input') read)

range_fits : (a n bound : ℕ) → 1 ≤ a → a + n ≤ bound + 1 → All (IsVariable bound) (range_with_len a n)
range_fits a zero bound one most = All-nil (IsVariable bound)
range_fits a (suc n) bound one most = search (arith, All-cons, (range_fits (a + 1) n bound))

module _ (f : Dqbf) (all : List Entry) (e : CircuitPart) (lawful : Each MayFollow all)
    (given : HasUniversalInputs f all) (part : IsCircuitPart f all e) (small : max_number f e < 2 ^ 62) where
  -- numbers of the file's circuit are at most its largest
  number_small : (l : Literal) → is_circuit_name (name_of all (variable_of l)) ≡ true → (n : ℕ) →
      circuit_renaming f all e (variable_of l) ≡ Some n → n ≤ max_number f e
  number_small l circuit n is = search (arith, number_cases, true≢false)

  code_fits : (l : Literal) → is_circuit_name (name_of all (variable_of l)) ≡ true → IsInFile all e.gates l →
      literal_code (circuit_renaming f all e) l ≤ 2 * max_number f e + 1
  code_fits l circuit in_file = search (arith, circuit_numbered, number_small, code_at)

  leaf_fits : (leaf : Leaf) → IsLeafInFile all e.gates leaf →
      leaf_code (circuit_renaming f all e) leaf ≤ 2 * max_number f e + 1
  leaf_fits (Constant true) h = omega arith
  leaf_fits (Constant false) h = omega arith
  leaf_fits (LeafLiteral l) h = code_fits l h.0 h.1

  gate_number : (v : ℕ) → Contains e.gates v → HasNumber (circuit_renaming f all e) (positive v)
  gate_number v inside = circuit_numbered f all e given (positive v) (ap is_circuit_name (part.named v inside).2)
      (λ a b h. inside)

  gate_is : (v : ℕ) (inside : Contains e.gates v) → gate_of (circuit_renaming f all e) v (name_of all v) ≡ gate_of
      (circuit_renaming f all e) v (Some (And (part.named v inside).0 (part.named v inside).1))
  gate_is v inside = ap (gate_of (circuit_renaming f all e) v) (part.named v inside).2

  gate_variable : (v : ℕ) (inside : Contains e.gates v) → (gate_of (circuit_renaming f all e) v
      (name_of all v)).variable ≡ (gate_number v inside).number
  gate_variable v inside = ap (λ (g : Gate). g.variable) (gate_is v inside) ∙ ap or_zero (gate_number v inside).is

  gate_fits : (v : ℕ) → Contains e.gates v → IsGate (max_number f e)
      (gate_of (circuit_renaming f all e) v (name_of all v))
  gate_fits v inside =
      let n = part.named v inside in
      let number = gate_number v inside in
      let both = sides all v n.0 n.1 lawful n.2 in
      let files = part.sides v n.0 n.1 inside n.2 in
      let is = ap or_zero number.is in
      let variable' : IsVariable (max_number f e) (or_zero (circuit_renaming f all e v)) = (
        omega (arith, number.from_one, is),
        omega (arith, number_small (positive v) (ap is_circuit_name n.2) number.number number.is, is),
      ) in
      let left' = code_fits n.0 both.0 files.0 in
      let right' = code_fits n.1 both.1 files.1 in
      subst (IsGate (max_number f e)) (sym (gate_is v inside))
      (record { variable = variable'; left = left'; right = right' })

  -- a gate's number lies above the inputs'
  gate_above : (v : ℕ) (inside : Contains e.gates v) → length f.universals < (gate_number v inside).number
  gate_above v inside = by_case (number_cases f e v (name_of all v) (gate_number v inside).number
      (gate_number v inside).is) where
        by_case : IsNumbered f e v (name_of all v) (gate_number v inside).number →
            length f.universals < (gate_number v inside).number
        by_case (inl i) = let both : Some (Input i.0) ≡ Some (And (part.named v inside).0 (part.named v inside).1) =
            sym i.1 ∙ (part.named v inside).2 in cc
        by_case (inr (inl g)) = omega (arith, g.1.number, g.2)
        by_case (inr (inr j)) = omega (arith, j.3, j.2)

  is_netlist : IsNetlist (exported_netlist f all e)
  is_netlist = record {
    numbered = small;
    inputs_fit = range_fits 1 (length f.universals) (max_number f e) (omega arith) (omega arith);
    outputs_fit = All-map (IsLiteral (max_number f e)) (λ y. leaf_code (circuit_renaming f all e) (e.leaf y))
        f.existentials (λ k d below. leaf_fits (e.leaf (get_or f.existentials k d)) (part.leaves k d below));
    gates_fit = All-map (IsGate (max_number f e)) (λ v. gate_of (circuit_renaming f all e) v (name_of all v)) e.gates
        (λ k d below. gate_fits (get_or e.gates k d) (Contains-get_or e.gates k d below));
    inputs_once = λ i j d less below same.
        let long = length-range_with_len 1 (length f.universals) in
        let a = range_place 1 (length f.universals) i d (omega (arith, less, below, long)) in
        omega (arith, a, range_place 1 (length f.universals) j d (omega (arith, below, long)), less, same);
    gates_once = λ i j d less below same.
        let long = length-map e.gates (λ v. gate_of (circuit_renaming f all e) v (name_of all v)) in
        let i_small : i < length e.gates = omega (arith, less, below, long) in
        let j_small : j < length e.gates = omega (arith, below, long) in
        let v = get_or e.gates i 0 in
        let w = get_or e.gates j 0 in
        let v_in = Contains-get_or e.gates i 0 i_small in
        let w_in = Contains-get_or e.gates j 0 j_small in
        let at_i = get_or-map (λ u. gate_of (circuit_renaming f all e) u (name_of all u)) e.gates i 0 d i_small in
        let at_j = get_or-map (λ u. gate_of (circuit_renaming f all e) u (name_of all u)) e.gates j 0 d j_small in
        let numbers : (gate_number v v_in).number ≡ (gate_number w w_in).number =
        sym (gate_variable v v_in) ∙ ap (λ (g : Gate). g.variable) (sym at_i) ∙ same ∙ ap
        (λ (g : Gate). g.variable) at_j ∙ gate_variable w w_in in
        let equal : v ≡ w = same_number f all e lawful given part v w (gate_number v v_in).number
        (gate_number w w_in).number (gate_number v v_in).is (gate_number w w_in).is numbers in
        part.distinct i j 0 less j_small equal;
    apart = λ k d below i g inside same.
        let long = length-range_with_len 1 (length f.universals) in
        let many = length-map e.gates (λ v. gate_of (circuit_renaming f all e) v (name_of all v)) in
        let i_small : i < length e.gates = omega (arith, inside, many) in
        let v = get_or e.gates i 0 in
        let v_in = Contains-get_or e.gates i 0 i_small in
        let at_i = get_or-map (λ u. gate_of (circuit_renaming f all e) u (name_of all u)) e.gates i 0 g i_small in
        let number : get_or (range_with_len 1 (length f.universals)) k d ≡ (gate_number v v_in).number =
        same ∙ ap (λ (x : Gate). x.variable) at_i ∙ gate_variable v v_in in
        let above = gate_above v v_in in
        omega (arith, range_place 1 (length f.universals) k d (omega (arith, below, long)), number, above, below, long);
  } where
    range_place : (a n p d : ℕ) → p < n → get_or (range_with_len a n) p d ≡ a + p
    range_place a zero p d h = absurd (omega arith)
    range_place a (suc n) zero d h = omega arith
    range_place a (suc n) (suc p) d h = let e : a + 1 + p ≡ a + suc p = omega arith in
        range_place (a + 1) n p d (omega arith) ∙ e

pub exported_circuit_is_netlist : ExportedCircuitIsNetlist
exported_circuit_is_netlist f entries e lawful given part small = is_netlist f entries e lawful given part small
