-- A circuit's text in the binary form spells it on the page.
use Rattle.std.proofs.Common.{◌≡◌, ◌≢◌, ℕ, ◌+◌, ◌-◌, ◌*◌, ◌<◌, inl, inr, List, [], ◌∷◌, ◌++◌, length, map, drop, Option, Some, None, codes, refl, sym, ◌∙◌, ap, subst, arith, append_assoc, append-nil, length-append}
use Rattle.std.specs.List.{All, AllByRecursion, AllZip, flat_map, range_with_len}
use Rattle.std.proofs.lemmas.List.Elements.{All-append, All-from_recursion}
use Rattle.circuit_plain.specs.declared.circuits.Gate.{Gate as ReadGate}
use Rattle.dq_text.specs.Line.{TextLine, IsFirstLine, lines_from}
use Rattle.aiger_text.specs.declared.files.ReadCircuit.{ReadCircuit}
use Rattle.aig_binary.specs.Deltas.{AreGroups}
use Rattle.aig_binary.specs.Gates.{SpellsGate, SpellsGates}
use Rattle.aig_binary.specs.Grammar.{EndsOn, SpellsOutputs, SpellsBinary as IsReadBinary}
use Rattle.cert_text.specs.Beginning.{Begins, header_place, verdict_word}
use Rattle.cert_text.specs.declared.kinds.Kind.{Kind}
use Rattle.headline.specs.Headline.{Gate, AreGateCodes, AreLinesBefore, IsDifference, IsEnd, IsGateCode, Spells, SpellsBinary, natural, words}
use Rattle.skolem_checker.proofs.NamedMappings.{same_name}
use Rattle.headline_laws.proofs.AsciiTexts.{IsVerdict, body_lines, drop_first, header_spelled, split}
use Rattle.headline_laws.proofs.Circuits.{page_circuit, page_gate}
use Rattle.headline_laws.proofs.Formulas.{up_to_is}
use Rattle.headline_laws.proofs.NamedPlaces.{blank_same, names_spelled}
use Rattle.headline_laws.proofs.Skolems.{page_names}
use Rattle.headline_laws.proofs.Tokens.{lines_are, texts, words_are}
use Rattle.list_laws.proofs.Numbers.{range_append}

-- the gates
difference : (bytes : List ℕ) (n : ℕ) → AreGroups bytes n → IsDifference bytes n
difference [] n h = h
difference (byte ∷ bytes) n (inl last) = inl last
difference (byte ∷ bytes) n (inr more) = inr (more.0, (more.1.0, difference bytes more.1.0 more.1.1, more.1.2))

gate_code : (v : ℕ) (code : List ℕ) (g : ReadGate) → SpellsGate v code g → IsGateCode code (page_gate g)
gate_code v code g s = record {
  first = s.first;
  second = s.second;
  parts = s.parts;
  short = (s.first_spelled.few, s.second_spelled.few);
  left = (
    subst (λ w. g.left < 2 * w) (sym s.variable) s.left,
    subst (λ w. IsDifference s.first (2 * w - g.left)) (sym s.variable) (difference s.first (2 * v - g.left) s.first_spelled.groups),
  );
  right = (s.right, difference s.second (g.left - g.right) s.second_spelled.groups);
}

gate_codes : (v : ℕ) (code : List ℕ) (gates : List ReadGate) → SpellsGates v code gates → AreGateCodes code (map page_gate gates)
gate_codes v code [] s = s
gate_codes v code (g ∷ gates) (own, others, parts, spelled, rest) =
    (own, others, parts, gate_code v own g spelled, gate_codes (v + 1) others gates rest)

gate_range : (v : ℕ) (code : List ℕ) (gates : List ReadGate) → SpellsGates v code gates →
    map (λ (g : Gate). g.variable) (map page_gate gates) ≡ range_with_len v (length gates)
gate_range v code [] s = refl
gate_range v code (g ∷ gates) (own, others, parts, spelled, rest) =
    search (arith, (gate_range (v + 1) others gates rest))

-- lines with their ends
abbrev with_feeds : List (List ℕ) → List ℕ
with_feeds ls = flat_map (λ line. line ++ 10 ∷ []) ls

no_feed_ends : (l : List ℕ) (ls : List (List ℕ)) (others : List ℕ) → [] ≡ with_feeds (l ∷ ls) ++ others → ⊥
no_feed_ends l ls others h =
    let long = ap length h in
    let one = length-append (with_feeds (l ∷ ls)) others in
    let two = length-append (l ++ 10 ∷ []) (with_feeds ls) in
    let three = length-append l (10 ∷ []) in
    omega (arith, long, one, two, three)

with_first : (bytes line behind others : List ℕ) (ls : List (List ℕ)) → IsFirstLine bytes line behind →
    (behind ≡ [] → (ls ≡ []) × (others ≡ [])) → AreLinesBefore ls others behind → AreLinesBefore (line ∷ ls) others bytes
with_first bytes line behind others ls first empty before = elim first.parts [
  | inl fed ↦ elim before [
    | inl all ↦ inl (fed ∙ (ap (λ b. line ++ (10 ∷ b)) all
        ∙ (sym (append_assoc line (10 ∷ []) (with_feeds ls ++ others)) ∙ sym (append_assoc (line ++ 10 ∷ []) (with_feeds ls) others))))
    | inr last ↦ inr (
      last.0,
      ap (λ b. b ++ 10 ∷ []) fed
          ∙ (append_assoc line (10 ∷ behind) (10 ∷ [])
          ∙ (ap (λ b. line ++ (10 ∷ b)) last.1 ∙ sym (append_assoc line (10 ∷ []) (with_feeds ls)))),
    )
  ]
  | inr alone ↦ (let both = empty alone.1 in
      inr (
        both.1,
        ap (λ b. b ++ 10 ∷ []) alone.0
            ∙ (sym (append-nil (line ++ 10 ∷ [])) ∙ ap (λ ks. (line ++ 10 ∷ []) ++ with_feeds ks) (sym both.0)),
      ))
]

-- the outputs' lines
record HasOutputs (bytes : List ℕ) (outputs : List ℕ) (behind : List ℕ) : Type 0 where
  pub own : List (List ℕ)
  pub before : AreLinesBefore own behind bytes
  pub one_line : AllByRecursion (λ (line : List ℕ). All (λ byte. byte ≢ 10) line) own
  pub spelled : AllZip (λ line l. AllZip Spells (words line) (natural l ∷ [])) own outputs
  pub empty : bytes ≡ [] → (own ≡ []) × (behind ≡ [])

some_lines : (number : ℕ) (bytes : List ℕ) (l : TextLine) (ls : List TextLine) → lines_from number bytes ≡ l ∷ ls → bytes ≢ []
some_lines number bytes l ls h none = search arith

outputs_there : (number : ℕ) (bytes : List ℕ) (outputs : List ℕ) (behind : List ℕ) → SpellsOutputs number bytes outputs behind →
    HasOutputs bytes outputs behind
outputs_there number bytes [] behind is = search arith
outputs_there number bytes (l ∷ outputs) behind (first, rest) =
    let more = outputs_there (number + 1) first.line.behind outputs behind rest in
    let cut = split number bytes first.line first.others first.lines in
    let line : AllZip (λ line row. AllZip Spells (words line) row) (first.line.text ∷ []) ((natural l ∷ []) ∷ []) =
    body_lines (first.line ∷ []) ((l ∷ []) ∷ []) (ap (λ ns. ns ∷ []) first.spelled) in
    record {
      own = first.line.text ∷ more.own;
      before = with_first bytes first.line.text first.line.behind behind more.own cut.first more.empty more.before;
      one_line = (cut.first.one_line, more.one_line);
      spelled = (line.0, more.spelled);
      empty = λ none. absurd (some_lines number bytes first.line first.others first.lines none);
    }

ends_there : (ls : List TextLine) (comment : Option (List ℕ)) (number : Option ℕ) → EndsOn ls comment number → IsEnd (texts ls)
ends_there [] comment number h = tt
ends_there (l ∷ ls) None number h = absurd h
ends_there (l ∷ ls) (Some comment) None h = absurd h
ends_there (l ∷ ls) (Some comment) (Some number) h = (h.0.blanks, h.0.mark, blank_same h.0.blanks ∙ h.0.blank)

-- the verdict's line, where there is one, in front of the others
record HasFront (text rest : List ℕ) : Type 0 where
  pub verdict : List (List ℕ)
  pub verdict_is : IsVerdict verdict
  pub one_line : AllByRecursion (λ (line : List ℕ). All (λ byte. byte ≢ 10) line) verdict
  pub before : (ls : List (List ℕ)) (others : List ℕ) → AreLinesBefore ls others rest → AreLinesBefore (verdict ++ ls) others text

front : (text : List ℕ) (kind : Kind) → verdict_word kind ≡ Some (codes "TRUE") → Begins text kind →
    HasFront text (drop (header_place kind) text)
front text kind shows (inl plain) = record {
  verdict = [];
  verdict_is = inl refl;
  one_line = tt;
  before = λ ls others h. subst (λ n. AreLinesBefore ls others (drop n text)) plain.place h;
}
front text kind shows (inr b) =
    let first = split 1 text b.stated (b.header ∷ b.others) b.lines in
    let behind = drop_first text b.stated.text b.stated.behind (header_place kind) first.first b.place in
    let shown = same_name b.shown (codes "TRUE") (sym b.shows ∙ shows) in
    record {
      verdict = b.stated.text ∷ [];
      verdict_is = inr (ap (λ ws. ws ∷ []) (words_are b.stated.text ∙ (b.verdict ∙ ap (λ w. codes "s" ∷ w ∷ []) shown)));
      one_line = (first.first.one_line, tt);
      before = λ ls others h. with_first text b.stated.text b.stated.behind others ls first.first
          (λ none. absurd (some_lines (1 + 1) b.stated.behind b.header b.others (sym first.next) none))
          (subst (AreLinesBefore ls others) behind h);
    }

pub binary_on_page : (text : List ℕ) (kind : Kind) → verdict_word kind ≡ Some (codes "TRUE") → Begins text kind →
    (first : ℕ) (read : ReadCircuit) (s : IsReadBinary (drop (header_place kind) text) first read) →
    SpellsBinary text (page_circuit read.file.circuit) (page_names s.symbols)
binary_on_page text kind shows begins first read s =
    let net = read.file.circuit in
    let there = front text kind shows begins in
    let rest = drop (header_place kind) text in
    let head = split first rest s.header_line s.other_lines s.lines in
    let outs = outputs_there (first + 1) s.header_line.behind net.outputs s.binary s.outputs in
    record {
      verdict = there.verdict;
      header = s.header_line.text;
      outputs = outs.own;
      code = s.code;
      behind = s.behind;
      zeros = s.header.zeros;
      parts = subst (λ b. AreLinesBefore (there.verdict ++ (s.header_line.text ∷ outs.own)) b text) s.parted
          (there.before (s.header_line.text ∷ outs.own) s.binary
          (with_first rest s.header_line.text s.header_line.behind s.binary outs.own head.first outs.empty outs.before));
      one_line = All-append (λ (line : List ℕ). All (λ byte. byte ≢ 10) line) there.verdict (s.header_line.text ∷ outs.own)
          (All-from_recursion (λ (line : List ℕ). All (λ byte. byte ≢ 10) line) there.verdict there.one_line)
          (All-from_recursion (λ (line : List ℕ). All (λ byte. byte ≢ 10) line) (s.header_line.text ∷ outs.own)
          (head.first.one_line, outs.one_line));
      verdict_is = there.verdict_is;
      header_is = (s.header.few_sections, header_spelled (codes "aig") s.header_line.text net s.header);
      outputs_are = outs.spelled;
      inputs_first = ap (λ vs. vs ++ map (λ (g : Gate). g.variable) (map page_gate net.gates)) s.inputs
          ∙ (ap (λ vs. range_with_len 1 (length net.inputs) ++ vs) (gate_range (length net.inputs + 1) s.code net.gates s.gates)
          ∙ (ap (λ v. range_with_len 1 (length net.inputs) ++ range_with_len v (length net.gates))
          (let e : length net.inputs + 1 ≡ 1 + length net.inputs = omega arith in e)
          ∙ (range_append 1 (length net.inputs) (length net.gates)
          ∙ (ap (range_with_len 1) (sym s.all_defined) ∙ sym (up_to_is net.max_var)))));
      gates_are = gate_codes (length net.inputs + 1) s.code net.gates s.gates;
      names_are = subst (λ ls. Rattle.headline.specs.Headline.SpellsNames ls (page_names s.symbols))
          (sym (lines_are (first + 1 + length net.outputs + 1) s.behind ∙ ap texts s.lines_behind))
          (names_spelled s.symbol_lines s.comment_lines s.symbols read.file.symbols (length net.inputs) (length net.outputs) s.table
          s.input_names s.output_names s.symbols_spelled (ends_there s.comment_lines read.file.comment read.comment_line s.comment));
    }
