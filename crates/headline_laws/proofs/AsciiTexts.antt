-- A circuit's text in the ASCII form spells it on the page.
use Rattle.std.proofs.Common.{◌≡◌, ◌≢◌, ℕ, zero, suc, ◌+◌, ◌*◌, ◌==◌, ◌⊎◌, inl, inr, pos, Bool, true, false, cond, List, [], ◌∷◌, ◌++◌, length, map, replicate, drop, Some, codes, refl, sym, ◌∙◌, ap, subst, arith, append_assoc, append-nil}
use Rattle.std.specs.List.{All, AllZip}
use Rattle.std.proofs.lemmas.Bool.{eqb-true}
use Rattle.std.proofs.lemmas.List.{length-map, map-append}
use Rattle.std.proofs.Math.Seq.{drop-append_seam}
use Rattle.circuit_plain.specs.Netlist.{Netlist}
use Rattle.circuit_plain.specs.declared.circuits.Gate.{Gate as ReadGate}
use Rattle.dq_text.specs.Line.{TextLine, IsFirstLine, extend_line, lines_from}
use Rattle.dq_text.specs.Number.{number_of}
use Rattle.dq_text.specs.declared.numbers.Number.{Number}
use Rattle.dq_text.specs.declared.numbers.Number.TheVariants.{Int}
use Rattle.aiger_text.specs.Grammar.{naturals, line_numbers, netlist_numbers, input_numbers, output_numbers, gate_numbers, counts_in, SpellsHeader, SpellsCircuit}
use Rattle.aiger_text.specs.declared.files.AagFile.{AagFile}
use Rattle.cert_text.specs.Beginning.{Begins, header_place, verdict_word}
use Rattle.cert_text.specs.declared.kinds.Kind.{Kind}
use Rattle.headline.specs.Headline.{Gate, natural, Spells, SpellsAscii, header_symbols, lines, rows, words}
use Rattle.skolem_checker.proofs.NamedMappings.{same_name}
use Rattle.headline_laws.proofs.Circuits.{page_circuit, page_gate}
use Rattle.headline_laws.proofs.Skolems.{page_names}
use Rattle.headline_laws.proofs.NamedPlaces.{ends_on_page, names_spelled}
use Rattle.headline_laws.proofs.Symbols.{natural_number}
use Rattle.headline_laws.proofs.Tokens.{lines_are, texts, words_are}

-- the first line, and those behind it
pub record IsSplit (number : ℕ) (text : List ℕ) (line : TextLine) (others : List TextLine) : Type 0 where
  pub first : IsFirstLine text line.text line.behind
  pub next : others ≡ lines_from (number + 1) line.behind

one_more : (byte : ℕ) (text line behind : List ℕ) → (byte == 10) ≡ false → IsFirstLine text line behind →
    IsFirstLine (byte ∷ text) (byte ∷ line) behind
one_more byte text line behind other first = record {
  parts = elim first.parts [
    | inl fed ↦ inl (ap (λ bytes. byte ∷ bytes) fed)
    | inr alone ↦ inr (ap (λ bytes. byte ∷ bytes) alone.0, alone.1)
  ];
  one_line = each;
}
  where
    each : All (λ b. b ≢ 10) (byte ∷ line)
    each zero d below = λ same. cc_false (sym (eq_true byte 10 same) ∙ other) where
      eq_true : (a b : ℕ) → a ≡ b → (a == b) ≡ true
      eq_true a b e = Rattle.std.proofs.lemmas.Bool.eq-eqb a b e

      cc_false : true ≡ false → ⊥
      cc_false e = cc
    each (suc k) d below = first.one_line k d (omega (arith, below))

pub split : (number : ℕ) (text : List ℕ) (line : TextLine) (others : List TextLine) → lines_from number text ≡ line ∷ others →
    IsSplit number text line others
split number [] line others h = cc
split number (byte ∷ bytes) line others h = by (byte == 10) refl (lines_from number bytes) refl (λ l ls is. split number bytes l ls is) h where
  same_line : (l : TextLine) (ls : List TextLine) → l ∷ ls ≡ line ∷ others → (l ≡ line) × (ls ≡ others)
  same_line l ls e = (cc, cc)

  by : (feed : Bool) → (byte == 10) ≡ feed → (found : List TextLine) → lines_from number bytes ≡ found →
      ((l : TextLine) (ls : List TextLine) → lines_from number bytes ≡ l ∷ ls → IsSplit number bytes l ls) →
      cond feed (record { text = []; number = number; behind = bytes } ∷ lines_from (number + 1) bytes)
      (extend_line byte number found) ≡ line ∷ others →
      IsSplit number (byte ∷ bytes) line others
  by true is found there later e =
      let both = same_line (record { text = []; number = number; behind = bytes }) (lines_from (number + 1) bytes) e in
      subst (λ l. IsSplit number (byte ∷ bytes) l others) both.0 (record {
        first = record { parts = inl (ap (λ b. b ∷ bytes) (eqb-true byte 10 is)); one_line = λ k d below. absurd (omega (arith, below)) };
        next = sym both.1;
      })
  by false is [] there later e =
      let both = same_line (record { text = byte ∷ []; number = number; behind = [] }) [] e in
      subst (λ l. IsSplit number (byte ∷ bytes) l others) both.0 (record {
        first = one_more byte bytes [] [] is (record { parts = inr (nothing bytes there, refl); one_line = λ k d below. absurd (omega (arith, below)) });
        next = sym both.1;
      })
    where
      nothing : (bytes : List ℕ) → lines_from number bytes ≡ [] → bytes ≡ []
      nothing [] e = refl
      nothing (b ∷ bs) e = some (b == 10) (lines_from number bs) e where
        some : (feed : Bool) (ls : List TextLine) →
            cond feed (record { text = []; number = number; behind = bs } ∷ lines_from (number + 1) bs) (extend_line b number ls) ≡ [] →
            b ∷ bs ≡ []
        some true ls e = cc
        some false [] e = cc
        some false (l ∷ ls) e = cc
  by false is (l ∷ ls) there later e =
      let one = later l ls there in
      let both = same_line (record { text = byte ∷ l.text; number = number; behind = l.behind }) ls e in
      subst (λ x. IsSplit number (byte ∷ bytes) x others) both.0 (record {
        first = one_more byte bytes l.text l.behind is one.first;
        next = sym both.1 ∙ one.next;
      })

-- the text behind its first line
pub drop_first : (text line behind : List ℕ) (place : ℕ) → IsFirstLine text line behind →
    place + length behind ≡ length text → drop place text ≡ behind
drop_first text line behind place first at = elim first.parts [
  | inl fed ↦ dropped (line ++ 10 ∷ []) (fed ∙ sym (append_assoc line (10 ∷ []) behind))
  | inr alone ↦ dropped text (sym (append-nil text) ∙ ap (λ bytes. text ++ bytes) (sym alone.1))
]
  where
    dropped : (front : List ℕ) → text ≡ front ++ behind → drop place text ≡ behind
    dropped front is =
        let long = ap length is ∙ Rattle.std.proofs.Common.length-append front behind in
        let same : place ≡ length front = omega (arith, long, at) in
        ap (λ n. drop n text) same ∙ (ap (drop (length front)) is ∙ drop-append_seam front behind)

-- numbers
pub numbers_spelled : (ts : List (List ℕ)) (ns : List ℕ) → map number_of ts ≡ naturals ns → AllZip Spells ts (map natural ns)
numbers_spelled [] [] h = tt
numbers_spelled [] (n ∷ ns) h = cc
numbers_spelled (t ∷ ts) [] h = cc
numbers_spelled (t ∷ ts) (n ∷ ns) h = (
  natural_number t n (head (number_of t) (Int (pos n)) (map number_of ts) (naturals ns) h),
  numbers_spelled ts ns (tail (number_of t) (Int (pos n)) (map number_of ts) (naturals ns) h),
)
  where
    head : (x y : Number) (xs ys : List Number) → x ∷ xs ≡ y ∷ ys → x ≡ y
    head x y xs ys e = cc

    tail : (x y : Number) (xs ys : List Number) → x ∷ xs ≡ y ∷ ys → xs ≡ ys
    tail x y xs ys e = cc

-- the header
zeros_are : (n : ℕ) → replicate n (natural 0) ≡ map natural (replicate n 0)
zeros_are zero = refl
zeros_are (suc n) = ap (λ xs. natural 0 ∷ xs) (zeros_are n)

pub header_spelled : (form line : List ℕ) (net : Netlist) (h : SpellsHeader form line (counts_in net)) →
    AllZip Spells (words line) (header_symbols form (page_circuit net) h.zeros)
header_spelled form line net h =
    subst (λ ws. AllZip Spells ws (header_symbols form (page_circuit net) h.zeros)) (sym (words_are line ∙ h.word)) (
      refl,
      subst (AllZip Spells h.tokens) counts
          (numbers_spelled h.tokens (net.max_var ∷ length net.inputs ∷ 0 ∷ length net.outputs ∷ length net.gates ∷ replicate h.zeros 0)
          h.numbers),
    )
  where
    counts : map natural (net.max_var ∷ length net.inputs ∷ 0 ∷ length net.outputs ∷ length net.gates ∷ replicate h.zeros 0)
        ≡ natural net.max_var ∷ natural (length net.inputs) ∷ natural 0 ∷ natural (length net.outputs)
        ∷ natural (length (map page_gate net.gates)) ∷ replicate h.zeros (natural 0)
    counts =
        ap (λ zs. natural net.max_var ∷ natural (length net.inputs) ∷ natural 0 ∷ natural (length net.outputs)
        ∷ natural (length net.gates) ∷ zs) (sym (zeros_are h.zeros))
        ∙ ap (λ n. natural net.max_var ∷ natural (length net.inputs) ∷ natural 0 ∷ natural (length net.outputs)
        ∷ natural n ∷ replicate h.zeros (natural 0)) (sym (length-map net.gates page_gate))

-- the body
abbrev row_numbers : Netlist → List (List ℕ)
row_numbers net =
    map (λ v. 2 * v ∷ []) net.inputs
    ++ (map (λ l. l ∷ []) net.outputs ++ map (λ (g : ReadGate). 2 * g.variable ∷ g.left ∷ g.right ∷ []) net.gates)

numbers_are : (net : Netlist) → netlist_numbers net ≡ map naturals (row_numbers net)
numbers_are net =
    sym (map-append naturals (map (λ v. 2 * v ∷ []) net.inputs) (map (λ l. l ∷ []) net.outputs
    ++ map (λ (g : ReadGate). 2 * g.variable ∷ g.left ∷ g.right ∷ []) net.gates)
    ∙ (ap (λ xs. map naturals (map (λ v. 2 * v ∷ []) net.inputs) ++ xs)
    (map-append naturals (map (λ l. l ∷ []) net.outputs) (map (λ (g : ReadGate). 2 * g.variable ∷ g.left ∷ g.right ∷ []) net.gates))
    ∙ (ap (λ xs. xs ++ (map naturals (map (λ l. l ∷ []) net.outputs)
    ++ map naturals (map (λ (g : ReadGate). 2 * g.variable ∷ g.left ∷ g.right ∷ []) net.gates))) (inputs net.inputs)
    ∙ (ap (λ xs. map input_numbers net.inputs ++ (xs ++ map naturals (map (λ (g : ReadGate). 2 * g.variable ∷ g.left ∷ g.right ∷ []) net.gates))) (outs net.outputs)
    ∙ ap (λ xs. map input_numbers net.inputs ++ (map output_numbers net.outputs ++ xs)) (gates net.gates)))))
  where
    inputs : (vs : List ℕ) → map naturals (map (λ v. 2 * v ∷ []) vs) ≡ map input_numbers vs
    inputs [] = refl
    inputs (v ∷ vs) = ap (λ xs. input_numbers v ∷ xs) (inputs vs)

    outs : (ls : List ℕ) → map naturals (map (λ l. l ∷ []) ls) ≡ map output_numbers ls
    outs [] = refl
    outs (l ∷ ls) = ap (λ xs. output_numbers l ∷ xs) (outs ls)

    gates : (gs : List ReadGate) → map naturals (map (λ (g : ReadGate). 2 * g.variable ∷ g.left ∷ g.right ∷ []) gs) ≡ map gate_numbers gs
    gates [] = refl
    gates (g ∷ gs) = ap (λ xs. gate_numbers g ∷ xs) (gates gs)

rows_are : (net : Netlist) → rows (page_circuit net) ≡ map (map natural) (row_numbers net)
rows_are net =
    sym (map-append (map natural) (map (λ v. 2 * v ∷ []) net.inputs) (map (λ l. l ∷ []) net.outputs
    ++ map (λ (g : ReadGate). 2 * g.variable ∷ g.left ∷ g.right ∷ []) net.gates)
    ∙ (ap (λ xs. map (map natural) (map (λ v. 2 * v ∷ []) net.inputs) ++ xs)
    (map-append (map natural) (map (λ l. l ∷ []) net.outputs) (map (λ (g : ReadGate). 2 * g.variable ∷ g.left ∷ g.right ∷ []) net.gates))
    ∙ (ap (λ xs. xs ++ (map (map natural) (map (λ l. l ∷ []) net.outputs)
    ++ map (map natural) (map (λ (g : ReadGate). 2 * g.variable ∷ g.left ∷ g.right ∷ []) net.gates))) (inputs net.inputs)
    ∙ (ap (λ xs. map (λ v. natural (2 * v) ∷ []) net.inputs ++ (xs ++ map (map natural) (map (λ (g : ReadGate). 2 * g.variable ∷ g.left ∷ g.right ∷ []) net.gates))) (outs net.outputs)
    ∙ ap (λ xs. map (λ v. natural (2 * v) ∷ []) net.inputs ++ (map (λ l. natural l ∷ []) net.outputs ++ xs)) (gates net.gates)))))
  where
    inputs : (vs : List ℕ) → map (map natural) (map (λ v. 2 * v ∷ []) vs) ≡ map (λ v. natural (2 * v) ∷ []) vs
    inputs [] = refl
    inputs (v ∷ vs) = ap (λ xs. (natural (2 * v) ∷ []) ∷ xs) (inputs vs)

    outs : (ls : List ℕ) → map (map natural) (map (λ l. l ∷ []) ls) ≡ map (λ l. natural l ∷ []) ls
    outs [] = refl
    outs (l ∷ ls) = ap (λ xs. (natural l ∷ []) ∷ xs) (outs ls)

    gates : (gs : List ReadGate) → map (map natural) (map (λ (g : ReadGate). 2 * g.variable ∷ g.left ∷ g.right ∷ []) gs)
        ≡ map (λ (g : Gate). natural (2 * g.variable) ∷ natural g.left ∷ natural g.right ∷ []) (map page_gate gs)
    gates [] = refl
    gates (g ∷ gs) = ap (λ xs. (natural (2 * g.variable) ∷ natural g.left ∷ natural g.right ∷ []) ∷ xs) (gates gs)

pub body_lines : (ls : List TextLine) (ns : List (List ℕ)) → map line_numbers ls ≡ map naturals ns →
    AllZip (λ line row. AllZip Spells (words line) row) (texts ls) (map (map natural) ns)
body_lines [] [] h = tt
body_lines [] (n ∷ ns) h = cc
body_lines (l ∷ ls) [] h = cc
body_lines (l ∷ ls) (n ∷ ns) h = search (arith, words_are, numbers_spelled, (body_lines ls ns))

pub body_spelled : (ls : List TextLine) (net : Netlist) → map line_numbers ls ≡ netlist_numbers net →
    AllZip (λ line row. AllZip Spells (words line) row) (texts ls) (rows (page_circuit net))
body_spelled ls net h =
    subst (AllZip (λ line row. AllZip Spells (words line) row) (texts ls)) (sym (rows_are net))
    (body_lines ls (row_numbers net) (h ∙ numbers_are net))

-- the whole text, behind a line that states the verdict or without one
texts_append : (ls ks : List TextLine) → texts (ls ++ ks) ≡ texts ls ++ texts ks
texts_append ls ks = map-append (λ (l : TextLine). l.text) ls ks

-- nothing, or a line that states that the formula is true
abbrev pub IsVerdict : List (List ℕ) → Type 0
IsVerdict verdict = (verdict ≡ []) ⊎ (map words verdict ≡ (codes "s" ∷ codes "TRUE" ∷ []) ∷ [])

-- the lines of the text behind the verdict
pub record HasLines (text rest : List ℕ) : Type 0 where
  pub verdict : List (List ℕ)
  pub verdict_is : IsVerdict verdict
  pub lines_are : lines text ≡ verdict ++ lines rest

pub lines_behind : (text : List ℕ) (kind : Kind) → verdict_word kind ≡ Some (codes "TRUE") → Begins text kind →
    HasLines text (drop (header_place kind) text)
lines_behind text kind shows (inl plain) = record {
  verdict = [];
  verdict_is = inl refl;
  lines_are = ap (λ n. lines (drop n text)) (sym plain.place);
}
lines_behind text kind shows (inr b) =
    let first = split 1 text b.stated (b.header ∷ b.others) b.lines in
    let behind = drop_first text b.stated.text b.stated.behind (header_place kind) first.first b.place in
    let shown = same_name b.shown (codes "TRUE") (sym b.shows ∙ shows) in
    record {
      verdict = b.stated.text ∷ [];
      verdict_is = inr (ap (λ ws. ws ∷ []) (words_are b.stated.text ∙ (b.verdict ∙ ap (λ w. codes "s" ∷ w ∷ []) shown)));
      lines_are = lines_are 1 text ∙ (ap texts b.lines
          ∙ ap (λ ls. b.stated.text ∷ ls) (ap texts first.next ∙ (sym (lines_are (1 + 1) b.stated.behind) ∙ ap lines (sym behind))));
    }

pub ascii_on_page : (text : List ℕ) (kind : Kind) → verdict_word kind ≡ Some (codes "TRUE") → Begins text kind →
    (file : AagFile) (s : SpellsCircuit (drop (header_place kind) text) file) →
    SpellsAscii text (page_circuit file.circuit) (page_names s.symbols)
ascii_on_page text kind shows begins file s =
    let front = lines_behind text kind shows begins in
    record {
      verdict = front.verdict;
      header = s.header_line.text;
      body = texts s.netlist_lines;
      behind = texts (s.symbol_lines ++ s.comment_lines);
      zeros = s.header.zeros;
      lines_are = front.lines_are ∙ ap (λ ls. front.verdict ++ ls)
          (lines_are 1 (drop (header_place kind) text) ∙ (ap texts s.lines
          ∙ ap (λ ls. s.header_line.text ∷ ls) (texts_append s.netlist_lines (s.symbol_lines ++ s.comment_lines))));
      verdict_is = front.verdict_is;
      header_is = (s.header.few_sections, header_spelled (codes "aag") s.header_line.text file.circuit s.header);
      body_is = body_spelled s.netlist_lines file.circuit s.netlist;
      names_are = names_spelled s.symbol_lines s.comment_lines s.symbols file.symbols (length file.circuit.inputs)
          (length file.circuit.outputs) s.table s.input_names s.output_names s.symbols_spelled
          (ends_on_page s.comment_lines file.comment s.comment);
    }
