-- The lines that the reader takes boxes from spell them on the page.
use Rattle.std.proofs.Common.{◌≡◌, ℕ, zero, suc, ◌+◌, ◌<◌, ◌≤◌, ◌^◌, nat_lt, Bool, true, false, cond, List, [], ◌∷◌, ◌++◌, length, map, take, drop, Option, Some, None, Result, Ok, Err, codes, refl, sym, ◌∙◌, ap, subst, arith, append_assoc, append-nil, length-append, length-drop}
use Rattle.std.specs.List.{AllZip}
use Rattle.std.specs.Option.{option_and_then, option_map}
use Rattle.std.specs.Prelude.{slice_index}
use Rattle.std.specs.Str.{bytes_eq}
use Rattle.std.proofs.lemmas.Bool.{eqb-true, ltb-false, ltb-true}
use Rattle.std.proofs.lemmas.List.{map-append, take-append-drop}
use Rattle.std.proofs.lemmas.Slice.Eq.{bytes_eq-Decides}
use Rattle.circuit_plain.specs.Netlist.{Netlist}
use Rattle.list_laws.proofs.Options.{some_same, then_some}
use Rattle.dq_text.specs.Line.{TextLine, line_tokens}
use Rattle.dq_text.specs.Number.{natural_of}
use Rattle.dq_text.proofs.Naturals.{natural_spelled as number_spelled}
use Rattle.headline.specs.BlackBoxes.{Box, box_symbols}
use Rattle.headline.specs.Headline.{Spells, natural, word}
use Rattle.headline_laws.proofs.Symbols.{natural_number as natural_spelled}
use Rattle.pec_front.specs.BoxLine.{box_line, box_of, counts_fit, is_box, small_number, small_numbers}
use Rattle.pec_front.specs.Boxes.{BlackBox}
use Rattle.pec_front.specs.Reading.{behind_pec, box_count, driven_inputs, go_on, max_boxes, read_boxes, read_lines, repeats, wires_of, with_box}
use Rattle.pec_front.specs.declared.faults.PecFault.{PecFault}
use Rattle.pec_front.specs.declared.faults.PecFault.TheVariants.{BoxTwice, Limit}

abbrev pub page_box : BlackBox → Box
page_box box = record { reads = box.ins; drives = box.outs }

-- ---- numbers

spells_number : (token : List ℕ) (n : ℕ) → natural_of token ≡ Some n → n < 10 ^ 18 → Spells token (natural n)
spells_number token n h small =
    natural_spelled token n (number_spelled token n h small)

small_spelled : (token : List ℕ) (n : ℕ) → small_number token ≡ Some n → Spells token (natural n)
small_spelled token n h =
    let one = then_some (λ k. cond (nat_lt k (10 ^ 18)) (Some k) None) (natural_of token) n h in
    by one.0 (nat_lt one.0 (10 ^ 18)) refl one.1 one.2
  where
    by : (k : ℕ) (b : Bool) → nat_lt k (10 ^ 18) ≡ b → natural_of token ≡ Some k → cond b (Some k) None ≡ Some n →
        Spells token (natural n)
    by k true less found same =
        let is = some_same k n same in
        let below = ltb-true k (10 ^ 18) less in
        spells_number token n (found ∙ same) (omega (arith, below, is))
    by k false less found same = cc

-- a list with one more in front
with_front : (n : ℕ) (o : Option (List ℕ)) (ns : List ℕ) → option_map (λ ms. n ∷ ms) o ≡ Some ns →
    (ms : List ℕ) × (o ≡ Some ms) × (n ∷ ms ≡ ns)
with_front n None ns h = cc
with_front n (Some ms) ns h = (ms, refl, some_same (n ∷ ms) ns h)

numbers_spelled : (tokens : List (List ℕ)) (ns : List ℕ) → small_numbers tokens ≡ Some ns →
    AllZip Spells tokens (map natural ns)
numbers_spelled [] ns h = subst (λ ms. AllZip Spells [] (map natural ms)) (some_same [] ns h) tt
numbers_spelled (token ∷ tokens) ns h =
    let one = then_some (λ n. option_map (λ ms. n ∷ ms) (small_numbers tokens)) (small_number token) ns h in
    let more = with_front one.0 (small_numbers tokens) ns one.2 in
    subst (λ ms. AllZip Spells (token ∷ tokens) (map natural ms)) more.2
    (small_spelled token one.0 one.1, numbers_spelled tokens more.0 more.1)

-- ---- a box

both_counts : (k l : ℕ) (rest : List ℕ) → length rest ≡ k + l →
    (k ≡ length (take k rest)) × (l ≡ length (drop k rest))
both_counts k l rest long =
    let whole = ap length (take-append-drop k rest) in
    let parts = length-append (take k rest) (drop k rest) in
    let behind = length-drop k rest in
    (omega (arith, whole, parts, behind, long), omega (arith, behind, long))

symbols_are : (k l : ℕ) (rest : List ℕ) → length rest ≡ k + l →
    map natural (k ∷ l ∷ rest) ≡ box_symbols (record { reads = take k rest; drives = drop k rest })
symbols_are k l rest long =
    let both = both_counts k l rest long in
    ap (λ n. natural n ∷ natural l ∷ map natural rest) both.0
    ∙ (ap (λ n. natural (length (take k rest)) ∷ natural n ∷ map natural rest) both.1
    ∙ ap (λ ss. natural (length (take k rest)) ∷ natural (length (drop k rest)) ∷ ss)
    (ap (map natural) (sym (take-append-drop k rest)) ∙ map-append natural (take k rest) (drop k rest)))

-- two counts, and as many numbers as they say
long_enough : (ns : List ℕ) (box : BlackBox) → box_of ns ≡ Some box → 2 ≤ length ns
long_enough ns box h = by (counts_fit ns) refl h where
  by : (b : Bool) → counts_fit ns ≡ b →
      cond b (Some (record {
        ins = take (slice_index ns 0) (drop 2 ns);
        outs = drop (slice_index ns 0) (drop 2 ns);
      })) None ≡ Some box → 2 ≤ length ns
  by true fits same =
      let long = eqb-true (length ns) (2 + (slice_index ns 0 + slice_index ns 1)) fits in
      omega (arith, long)
  by false fits same = cc

box_symbols_are : (ns : List ℕ) (box : BlackBox) → box_of ns ≡ Some box → map natural ns ≡ box_symbols (page_box box)
box_symbols_are [] box h = let long = long_enough [] box h in absurd (omega (arith, long))
box_symbols_are (k ∷ []) box h = let long = long_enough (k ∷ []) box h in absurd (omega (arith, long))
box_symbols_are (k ∷ l ∷ rest) box h = by (counts_fit (k ∷ l ∷ rest)) refl h where
  by : (b : Bool) → counts_fit (k ∷ l ∷ rest) ≡ b →
      cond b (Some (record { ins = take k rest; outs = drop k rest })) None ≡ Some box →
      map natural (k ∷ l ∷ rest) ≡ box_symbols (page_box box)
  by true fits same =
      let long = eqb-true (length (k ∷ l ∷ rest)) (2 + (k + l)) fits in
      subst (λ (x : BlackBox). map natural (k ∷ l ∷ rest) ≡ box_symbols (page_box x))
      (some_same (record { ins = take k rest; outs = drop k rest }) box same)
      (symbols_are k l rest (omega (arith, long)))
  by false fits same = cc

kept : (b : Bool) (x y : BlackBox) → cond b (Some x) None ≡ Some y → x ≡ y
kept true x y h = some_same x y h
kept false x y h = cc

box_spelled : (s i : Netlist) (tokens : List (List ℕ)) (box : BlackBox) → box_line (wires_of s i) tokens ≡ Some box →
    AllZip Spells tokens (box_symbols (page_box box))
box_spelled s i tokens box h =
    let one = then_some (λ b. cond (is_box (wires_of s i) b) (Some b) None) (option_and_then box_of (small_numbers tokens)) box h in
    let two = then_some box_of (small_numbers tokens) one.0 one.1 in
    subst (λ (x : BlackBox). AllZip Spells tokens (box_symbols (page_box x)))
    (kept (is_box (wires_of s i) one.0) one.0 box one.2)
    (subst (AllZip Spells tokens) (box_symbols_are two.0 one.0 two.2) (numbers_spelled tokens two.0 two.1))

-- ---- the lines of boxes

abbrev pub AreBoxLines : List TextLine → List BlackBox → Type 0
AreBoxLines = AllZip (λ (line : TextLine) box. AllZip Spells (line_tokens line.text) (box_symbols (page_box box)))

record AreRead (boxes : List BlackBox) (count : ℕ) (ls : List TextLine) (result : List BlackBox) : Type 0 where
  pub own : List BlackBox
  pub is : result ≡ boxes ++ own
  pub many : length own ≡ count
  pub stated : List TextLine
  pub others : List TextLine
  pub lines : ls ≡ stated ++ others
  pub spelled : AreBoxLines stated own

record IsAdded (boxes : List BlackBox) (found : Option BlackBox) (more : List BlackBox) : Type 0 where
  pub box : BlackBox
  pub is : found ≡ Some box
  pub behind : more ≡ boxes ++ box ∷ []

ok_same : {A E : Type 0} (a b : A) → ◌≡◌ {A = Result A E} (Ok a) (Ok b) → a ≡ b
ok_same a b h = cc

added : (boxes : List BlackBox) (found : Option BlackBox) (more : List BlackBox) → with_box boxes found ≡ Ok more →
    IsAdded boxes found more
added boxes None more h = cc
added boxes (Some box) more h = by (repeats (driven_inputs boxes) box.outs) h where
  by : (b : Bool) → cond b (Err BoxTwice) (Ok (boxes ++ box ∷ []))
      ≡ Ok more → IsAdded boxes (Some box) more
  by true h = cc
  by false h = record { box = box; is = refl; behind = sym (ok_same (boxes ++ box ∷ []) more h) }

boxes_read : (s i : Netlist) (count : ℕ) (boxes : List BlackBox) (ls : List TextLine) (number : ℕ)
    (result : List BlackBox) → read_boxes (wires_of s i) count boxes ls number ≡ Ok result → AreRead boxes count ls result
boxes_read s i zero boxes ls number result h = record {
  own = [];
  is = sym (append-nil boxes ∙ ok_same boxes result h);
  many = refl;
  stated = [];
  others = ls;
  lines = refl;
  spelled = tt;
}
boxes_read s i (suc count) boxes [] number result h = cc
boxes_read s i (suc count) boxes (line ∷ ls) number result h =
    by (with_box boxes (box_line (wires_of s i) (line_tokens line.text))) refl
    (λ more read. boxes_read s i count more ls (line.number + 1) result read) h
  where
    by : (r : Result (List BlackBox) PecFault) → with_box boxes (box_line (wires_of s i) (line_tokens line.text)) ≡ r →
        ((more : List BlackBox) → read_boxes (wires_of s i) count more ls (line.number + 1) ≡ Ok result →
        AreRead more count ls result) →
        go_on line.number r (λ more. read_boxes (wires_of s i) count more ls (line.number + 1)) ≡ Ok result →
        AreRead boxes (suc count) (line ∷ ls) result
    by (Err name) is later h = cc
    by (Ok more) is later h =
        let one = added boxes (box_line (wires_of s i) (line_tokens line.text)) more is in
        let rest = later more h in
        record {
          own = one.box ∷ rest.own;
          is = rest.is ∙ (ap (λ bs. bs ++ rest.own) one.behind ∙ append_assoc boxes (one.box ∷ []) rest.own);
          many = ap suc rest.many;
          stated = line ∷ rest.stated;
          others = rest.others;
          lines = ap (λ xs. line ∷ xs) rest.lines;
          spelled = (box_spelled s i (line_tokens line.text) one.box one.is, rest.spelled);
        }

-- ---- all lines

counted : (tokens : List (List ℕ)) (count : ℕ) → box_count tokens ≡ Some count → count < 10 ^ 18 →
    AllZip Spells tokens (word (codes "pec") ∷ natural count ∷ [])
counted [] count h small = cc
counted (first ∷ []) count h small = cc
counted (first ∷ second ∷ []) count h small = by (bytes_eq first (codes "pec")) refl h where
  by : (b : Bool) → bytes_eq first (codes "pec") ≡ b → cond b (natural_of second) None ≡ Some count →
      AllZip Spells (first ∷ second ∷ []) (word (codes "pec") ∷ natural count ∷ [])
  by true same found = ((bytes_eq-Decides first (codes "pec")).0 same, (spells_number second count found small, tt))
  by false same found = cc
counted (first ∷ second ∷ third ∷ tokens) count h small = cc

pub record AreStated (ls : List TextLine) (boxes : List BlackBox) : Type 0 where
  pub count : TextLine
  pub stated : List TextLine
  pub others : List TextLine
  pub lines : ls ≡ count ∷ (stated ++ others)
  pub count_is : AllZip Spells (line_tokens count.text) (word (codes "pec") ∷ natural (length boxes) ∷ [])
  pub boxes_are : AreBoxLines stated boxes

pub lines_stated : (s i : Netlist) (ls : List TextLine) (number : ℕ) (boxes : List BlackBox) →
    read_lines (wires_of s i) ls number ≡ Ok boxes → AreStated ls boxes
lines_stated s i [] number boxes h = cc
lines_stated s i (line ∷ ls) number boxes h = by (box_count (line_tokens line.text)) refl h where
  by : (found : Option ℕ) → box_count (line_tokens line.text) ≡ found →
      behind_pec (wires_of s i) line.number found ls ≡ Ok boxes → AreStated (line ∷ ls) boxes
  by None is h = cc
  by (Some count) is h = within (nat_lt max_boxes count) refl h where
    within : (b : Bool) → nat_lt max_boxes count ≡ b →
        cond b (Err (record { line = line.number; name = Limit }))
        (read_boxes (wires_of s i) count [] ls (line.number + 1)) ≡ Ok boxes → AreStated (line ∷ ls) boxes
    within true large h = cc
    within false few h =
        let most = ltb-false max_boxes count few in
        let read = boxes_read s i count [] ls (line.number + 1) boxes h in
        record {
          count = line;
          stated = read.stated;
          others = read.others;
          lines = ap (λ xs. line ∷ xs) read.lines;
          count_is = subst (λ n. AllZip Spells (line_tokens line.text) (word (codes "pec") ∷ natural n ∷ []))
              (sym (ap length read.is ∙ read.many))
              (counted (line_tokens line.text) count is (omega (arith, most)));
          boxes_are = subst (AreBoxLines read.stated) (sym read.is) read.spelled;
        }
