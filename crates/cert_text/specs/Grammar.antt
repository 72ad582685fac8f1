-- The grammar: which refutation a text spells for a formula, in this project's own format: rows for
-- a universal expansion (U. Bubeck, H. Kleine Büning, "Dependency quantified Horn formulas", 2006),
-- and lines and deletions as in LRAT (L. Cruz-Filipe et al., "Efficient certified RAT verification",
-- 2017).
-- Tokens stand between any spaces, tabs and CRs.
use Rattle.std.specs.Prelude.{◌≡◌, ℕ, ◌+◌, ◌*◌, ◌^◌, ◌<◌, ◌≤◌, ℤ, pos, neg_ℤ, Bool, true, false, List, [], ◌∷◌, ◌++◌, map, length, replicate, codes, IsSome}
use Rattle.std.specs.List.{All, AllZip, zip}
use Rattle.dq_lits.specs.Derivation.{ProofStep}
use Rattle.dq_lits.specs.Formula.{Dqbf, existential_of}
use Rattle.dq_lits.specs.Literal.{dimacs_number, variable_of}
use Rattle.dq_text.specs.Line.{line_tokens, lines_from}
use Rattle.dq_text.specs.Number.{number_of}
use Rattle.dq_text.specs.declared.numbers.Number.{Number}
use Rattle.dq_text.specs.declared.numbers.Number.TheVariants.{Int}
use Rattle.rup_core.specs.Items.{ProofItem, derived, gone}
use Rattle.cert_text.specs.Header.{max_count, refutation_word}
use Rattle.cert_text.specs.Numbering.{Numbering, are_live, behind_item, numbered_from}
use Rattle.cert_text.specs.Pairs.{is_pair_number}
use Rattle.cert_text.specs.Scan.{first_id}
use Rattle.cert_text.specs.declared.refutations.Dqr.{Dqr}
use Rattle.cert_text.specs.declared.versions.Version.{Version}
use Rattle.cert_text.specs.declared.versions.Version.TheVariants.{Two}

-- a line by its tokens
abbrev pub Tokens : Type 0
Tokens = List (List ℕ)

-- these numbers
abbrev pub integers : List ℤ → List Number
integers ns = map (λ n. Int n) ns

-- `p dqr`, or `p dqr2` in version 2, and how many rows and items of the proof there are
pub record SpellsHeader (tokens : Tokens) (version : Version) (rows items : ℕ) : Type 0 where
  pub rows_token : List ℕ
  pub items_token : List ℕ
  pub words : tokens ≡ codes "p" ∷ refutation_word version ∷ rows_token ∷ items_token ∷ []
  pub rows_number : number_of rows_token ≡ Int (pos rows)
  pub items_number : number_of items_token ≡ Int (pos items)

-- a variable, negated where its bit is false
abbrev pub signed : Bool → ℕ → ℤ
signed true v = pos v
signed false v = neg_ℤ (pos v)

-- each universal with its bit as its sign, and 0
abbrev pub row_numbers : List ℕ → List Bool → List ℤ
row_numbers universals row = map (λ x. signed x.1 x.0) (zip universals row) ++ pos 0 ∷ []

pub record SpellsRow (universals : List ℕ) (tokens : Tokens) (row : List Bool) : Type 0 where
  pub rest : Tokens
  pub letter : tokens ≡ codes "u" ∷ rest
  pub numbers : map number_of rest ≡ integers (row_numbers universals row)

-- the id, the literals and 0, the hints and 0
abbrev pub step_numbers : ProofStep → List ℤ
step_numbers s =
    pos s.id
    ∷ (map dimacs_number s.literals ++ (pos 0 ∷ (map (λ hint. pos hint) s.hints ++ pos 0 ∷ [])))

abbrev pub SpellsStep : Tokens → ProofStep → Type 0
SpellsStep tokens s = map number_of tokens ≡ integers (step_numbers s)

-- `d`, the ids, and 0
pub record SpellsDeletion (tokens : Tokens) (ids : List ℕ) : Type 0 where
  pub rest : Tokens
  pub letter : tokens ≡ codes "d" ∷ rest
  pub numbers : map number_of rest ≡ integers (map (λ id. pos id) ids ++ pos 0 ∷ [])

-- only version 2 has deletions
abbrev pub SpellsItem : Version → Tokens → ProofItem → Type 0
SpellsItem version tokens (derived s) = SpellsStep tokens s
SpellsItem version tokens (gone ids) = (version ≡ Two) × SpellsDeletion tokens ids

-- a step with this id, on variables of the proof, and with hints before it
pub record IsStep (is_variable : ℕ → Bool) (id : ℕ) (s : ProofStep) : Type 0 where
  pub numbered : s.id ≡ id
  pub on_variables : All (λ l. is_variable (variable_of l) ≡ true) s.literals
  pub hints_before : All (λ hint. (1 ≤ hint) × (hint < id)) s.hints

-- ids of lines before that weren't deleted, at least one
pub record IsDeletion (n : Numbering) (ids : List ℕ) : Type 0 where
  pub some : 1 ≤ length ids
  pub live : are_live n ids ≡ true

abbrev pub IsItem : (ℕ → Bool) → Numbering → ProofItem → Type 0
IsItem is_variable n (derived s) = IsStep is_variable n.next s
IsItem is_variable n (gone ids) = IsDeletion n ids

-- items of which each stands behind those before it
abbrev pub AreItems : (ℕ → Bool) → Numbering → List ProofItem → Type 0
AreItems is_variable n [] = Unit {0}
AreItems is_variable n (item ∷ items) =
    IsItem is_variable n item × AreItems is_variable (behind_item n item) items

-- numbers that a text can hold; hints and deleted ids are below those of lines
pub record HasSmallNumbers (s : ProofStep) : Type 0 where
  pub id : s.id < 10 ^ 18
  pub variables : All (λ l. variable_of l < 10 ^ 18) s.literals

abbrev pub IsSmallItem : ProofItem → Type 0
IsSmallItem (derived s) = HasSmallNumbers s
IsSmallItem (gone ids) = Unit {0}

-- steps that are numbered from an id on
abbrev pub AreSteps : (ℕ → Bool) → ℕ → List ProofStep → Type 0
AreSteps is_variable id [] = Unit {0}
AreSteps is_variable id (s ∷ ss) = IsStep is_variable id s × AreSteps is_variable (id + 1) ss

-- what a text can hold for a formula: whole rows, and items that are numbered behind the instances
-- of the clauses
pub record IsDqrOf (f : Dqbf) (d : Dqr) : Type 0 where
  pub few_rows : length d.rows ≤ max_count
  pub few_items : length d.items ≤ max_count
  pub whole : All (λ row. length row ≡ length f.universals) d.rows
  pub items : AreItems (is_pair_number f (length d.rows))
      (numbered_from (first_id f (length d.rows))) d.items

abbrev pub tokens_by_line : List ℕ → List Tokens
tokens_by_line text = map (λ line. line_tokens line.text) (lines_from 1 text)

-- the header, a line for each row, a line for each item, and then only lines of blanks
pub record SpellsRefutation (text : List ℕ) (f : Dqbf) (d : Dqr) : Type 0 where
  pub version : Version
  pub header : Tokens
  pub row_lines : List Tokens
  pub item_lines : List Tokens
  pub blank_lines : ℕ
  pub lines : tokens_by_line text ≡ header ∷ (row_lines ++ (item_lines ++ replicate blank_lines []))
  pub header_spelled : SpellsHeader header version (length d.rows) (length d.items)
  pub rows_spelled : AllZip (SpellsRow f.universals) row_lines d.rows
  pub items_spelled : AllZip (SpellsItem version) item_lines d.items
  pub allowed : IsDqrOf f d

-- the pair of an existential and row k + 1 of so many
pub record IsPairNumber (f : Dqbf) (rows number : ℕ) : Type 0 where
  pub k : ℕ
  pub y : ℕ
  pub within : k < rows
  pub existential : IsSome (existential_of f y)
  pub number_is : number ≡ k * f.variables + y
