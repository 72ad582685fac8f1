-- Lines that each add one item to what was read.
use Rattle.std.proofs.Common.{◌≡◌, ℕ, ◌+◌, ◌<◌, zero, suc, List, [], ◌∷◌, ◌++◌, map, length, Ok, refl, sym, ◌∙◌, ap, ap₂, arith, append_assoc, length-append}
use Rattle.std.proofs.lemmas.List.{append-nil}
use Rattle.dq_text.specs.Line.{TextLine}
use Rattle.dq_text.specs.declared.numbers.Number.{Number}
use Rattle.aiger_text.specs.Grammar.{line_numbers}
use Rattle.aiger_text.specs.Scan.{Body, read_body}
use Rattle.aiger_text.specs.declared.files.AagFile.{AagFile}

-- what items and lines complete a stage of the reading
pub record CompletesStage (X : Type 0) (numbers : X → List Number) (body : List X → Body) (total : ℕ)
    (Kept : List X → Type 0) (file : AagFile) (done : List X) (lines : List TextLine) : Type 0 where
  pub items : List X
  pub all : List X
  pub own : List TextLine
  pub rest : List TextLine
  pub number : ℕ
  pub whole : done ++ items ≡ all
  pub parted : lines ≡ own ++ rest
  pub spelled : map line_numbers own ≡ map numbers items
  pub counted : length all ≡ total
  pub kept : Kept all
  pub read : read_body (body all) rest number ≡ Ok file

-- an item that a line adds
pub record AddsItem (X : Type 0) (numbers : X → List Number) (body : List X → Body) (Kept : List X → Type 0)
    (file : AagFile) (done : List X) (line : TextLine) (lines : List TextLine) : Type 0 where
  pub item : X
  pub spelled : line_numbers line ≡ numbers item
  pub kept : Kept (done ++ item ∷ [])
  pub read : read_body (body (done ++ item ∷ [])) lines (line.number + 1) ≡ Ok file

module _ (X : Type 0) (numbers : X → List Number) (body : List X → Body) (file : AagFile) where
  pub stage_read : (all : List X) →
      ((done : List X) (x : X) (todo : List X) (line : TextLine) (lines : List TextLine) (number : ℕ) →
      done ++ (x ∷ todo) ≡ all → line_numbers line ≡ numbers x →
      read_body (body (done ++ x ∷ [])) lines (line.number + 1) ≡ Ok file →
      read_body (body done) (line ∷ lines) number ≡ Ok file) →
      (todo done : List X) (lines behind : List TextLine) (tail : List (List Number)) → done ++ todo ≡ all →
      map line_numbers lines ≡ map numbers todo ++ tail →
      ((rest : List TextLine) (number : ℕ) → map line_numbers rest ≡ tail →
      read_body (body all) (rest ++ behind) number ≡ Ok file) →
      (number : ℕ) → read_body (body done) (lines ++ behind) number ≡ Ok file
  stage_read all step [] done lines behind tail whole spelled next number = search (arith, append-nil)
  stage_read all step (x ∷ todo) done [] behind tail whole spelled next number = cc
  stage_read all step (x ∷ todo) done (line ∷ lines) behind tail whole spelled next number =
      let here : line_numbers line ≡ numbers x = cc in
      let rest : map line_numbers lines ≡ map numbers todo ++ tail = cc in
      step done x todo line (lines ++ behind) number whole here
      (stage_read all step todo (done ++ x ∷ []) lines behind tail (append_assoc done (x ∷ []) todo ∙ whole) rest next
      (line.number + 1))

  pub stage_spelled : (total : ℕ) (Kept : List X → Type 0) →
      ((done : List X) (line : TextLine) (lines : List TextLine) (number : ℕ) → length done < total → Kept done →
      read_body (body done) (line ∷ lines) number ≡ Ok file →
      AddsItem X numbers body Kept file done line lines) →
      ((done : List X) (number : ℕ) → length done < total → read_body (body done) [] number ≡ Ok file → ⊥) →
      (k : ℕ) (done : List X) (lines : List TextLine) (number : ℕ) → length done + k ≡ total → Kept done →
      read_body (body done) lines number ≡ Ok file →
      CompletesStage X numbers body total Kept file done lines
  stage_spelled total Kept step ends zero done lines number counted kept read = record {
    items = [];
    all = done;
    own = [];
    rest = lines;
    number = number;
    whole = append-nil done;
    parted = refl;
    spelled = refl;
    counted = omega arith;
    kept = kept;
    read = read;
  }
  stage_spelled total Kept step ends (suc k) done [] number counted kept read = search arith
  stage_spelled total Kept step ends (suc k) done (line ∷ lines) number counted kept read =
      let s = step done line lines number (omega arith) kept read in
      let longer : length (done ++ s.item ∷ []) + k ≡ total = omega (arith, length-append done (s.item ∷ [])) in
      let c = stage_spelled total Kept step ends k (done ++ s.item ∷ []) lines (line.number + 1) longer s.kept s.read in
      record {
        items = s.item ∷ c.items;
        all = c.all;
        own = line ∷ c.own;
        rest = c.rest;
        number = c.number;
        whole = sym (append_assoc done (s.item ∷ []) c.items) ∙ c.whole;
        parted = ap (λ ls. line ∷ ls) {y = c.own ++ c.rest} c.parted;
        spelled = ap₂ (λ x xs. x ∷ xs) s.spelled c.spelled;
        counted = c.counted;
        kept = c.kept;
        read = c.read;
      }
