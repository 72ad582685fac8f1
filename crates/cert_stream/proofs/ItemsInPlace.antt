-- Items that came stand where they may, and the ids go on.
use Rattle.std.proofs.Common.{◌≡◌, ℕ, suc, ◌-◌, ◌≤◌, ◌<◌, nat_lt, Bool, true, false, cond, List, [], Option, None, Some, Result, Ok, Err, refl, ◌∙◌, ap, arith, subst, append-nil}
use Rattle.std.specs.Prelude.{IfSome}
use Rattle.std.proofs.lemmas.Bool.{ltb-false}
use Rattle.dq_lits.specs.Formula.{Dqbf}
use Rattle.dq_text.specs.BlankLine.{is_blank_line}
use Rattle.dq_text.specs.Line.{line_tokens}
use Rattle.rup_core.specs.Items.{ProofItem, derived, gone}
use Rattle.cert_text.specs.Grammar.{IsItem}
use Rattle.cert_text.specs.Header.{header_of, proof_header}
use Rattle.cert_text.specs.ItemLine.{item_line}
use Rattle.cert_text.specs.Kind.{refusal}
use Rattle.cert_text.specs.LineStop.{and_then}
use Rattle.cert_text.specs.Numbering.{Numbering, behind_item}
use Rattle.cert_text.specs.Pairs.{is_pair_number}
use Rattle.cert_text.specs.RowLine.{row_line}
use Rattle.cert_text.specs.Variables.{is_up_to}
use Rattle.cert_text.specs.declared.faults.CertFault.{CertFault}
use Rattle.cert_text.specs.declared.faults.CertFault.TheVariants.{BadLine, Truncated}
use Rattle.cert_text.specs.declared.headers.RowsAndItems.{RowsAndItems}
use Rattle.cert_text.specs.declared.headers.ItemCount.{ItemCount}
use Rattle.cert_text.specs.declared.versions.Version.{Version}
use Rattle.cert_text.proofs.Numberings.{next_kept}
use Rattle.cert_stream.specs.ProofLines as Proof
use Rattle.cert_stream.specs.RefutationLines.{BodyRead, MayCome, RefutationBody, body_behind, body_gives, line_read, rows_of, with_item_read, with_row, without_item}

pub goes_on : (n : Numbering) (item : ProofItem) → n.next ≤ (behind_item n item).next
goes_on n (derived step) = omega arith
goes_on n (gone ids) = omega (arith, next_kept n ids)

-- what a line of a proof is read as may stand there
abbrev pub AreLawful : Type 0
AreLawful = (version : Version) (p : ℕ → Bool) (n : Numbering) (tokens : List (List ℕ)) (item : ProofItem) →
    item_line version p n tokens ≡ Ok item → IsItem p n item

abbrev Stands : Dqbf → Option RefutationBody → BodyRead → Result BodyRead CertFault → Type 0
Stands f body read line = line ≡ Ok read → IfSome read.item (MayCome f body)

no_item : (f : Dqbf) (body : Option RefutationBody) (read : BodyRead) (made : RefutationBody) →
    Stands f body read (Ok (without_item made))
no_item f body read made is =
    let same : without_item made ≡ read = cc in
    subst (λ (r : BodyRead). IfSome r.item (MayCome f body)) same tt

header_stands : (f : Dqbf) (read : BodyRead) (h : Result RowsAndItems CertFault) →
    Stands f None read (and_then (λ counts. Ok (without_item (body_behind f counts))) h)
header_stands f read (Ok counts) = no_item f None read (body_behind f counts)
header_stands f read (Err name) = λ is. cc

row_stands : (f : Dqbf) (body : RefutationBody) (read : BodyRead) (h : Result (List Bool) CertFault) →
    Stands f (Some body) read (and_then (λ row. Ok (with_row body row)) h)
row_stands f body read (Ok row) = λ is.
    let same : with_row body row ≡ read = cc in
    subst (λ (r : BodyRead). IfSome r.item (MayCome f (Some body))) same tt
row_stands f body read (Err name) = λ is. cc

item_stands : AreLawful → (f : Dqbf) (body : RefutationBody) (read : BodyRead) (tokens : List (List ℕ))
    (h : Result ProofItem CertFault) →
    item_line body.version (is_pair_number f body.row_count) body.numbering tokens ≡ h → body.rows_left ≡ 0 →
    Stands f (Some body) read (and_then (λ item. Ok (with_item_read body item)) h)
item_stands lawful f body read tokens (Ok item) line none = λ is.
    let same : with_item_read body item ≡ read = cc in
    subst (λ (r : BodyRead). IfSome r.item (MayCome f (Some body))) same (record {
      rows = none;
      lawful = lawful body.version (is_pair_number f body.row_count) body.numbering tokens item line;
    })
item_stands lawful f body read tokens (Err name) line none = λ is. cc

blank_stands : (f : Dqbf) (body : RefutationBody) (read : BodyRead) (b : Bool) →
    Stands f (Some body) read (cond b (Ok (without_item body)) (Err BadLine))
blank_stands f body read true = no_item f (Some body) read body
blank_stands f body read false = λ is. cc

by_test : {A : Type 0} (P : A → Type 0) (b : Bool) (x y : A) → (b ≡ true → P x) → (b ≡ false → P y) → P (cond b x y)
by_test P true x y yes_case no_case = yes_case refl
by_test P false x y yes_case no_case = no_case refl

pub item_in_place : AreLawful → (f : Dqbf) (body : Option RefutationBody) (text : List ℕ) (read : BodyRead) →
    line_read f body text ≡ Ok read → IfSome read.item (MayCome f body)
item_in_place lawful f None text read = header_stands f read (header_of (line_tokens text))
item_in_place lawful f (Some body) text read =
    let tokens = line_tokens text in
    by_test (Stands f (Some body) read) (nat_lt 0 body.rows_left) _ _
    (λ more. row_stands f body read (row_line f.universals tokens))
    (λ none. by_test (Stands f (Some body) read) (nat_lt 0 body.items_left) _ _
    (λ more. item_stands lawful f body read tokens _ refl (omega (arith, ltb-false 0 body.rows_left none)))
    (λ no_more. blank_stands f body read (is_blank_line text)))

-- the same of a circuit's proof
abbrev ProofStands : ℕ → Option Proof.ProofBody → Proof.BodyRead → Result Proof.BodyRead CertFault → Type 0
ProofStands last body read line = line ≡ Ok read → IfSome read.item (Proof.MayCome last body)

no_proof_item : (last : ℕ) (body : Option Proof.ProofBody) (read : Proof.BodyRead) (made : Proof.ProofBody) →
    ProofStands last body read (Ok (Proof.without_item made))
no_proof_item last body read made is =
    let same : Proof.without_item made ≡ read = cc in
    subst (λ (r : Proof.BodyRead). IfSome r.item (Proof.MayCome last body)) same tt

proof_header_stands : (last first_id : ℕ) (read : Proof.BodyRead) (h : Result ItemCount CertFault) →
    ProofStands last None read (and_then (λ count. Ok (Proof.without_item (Proof.body_behind first_id count))) h)
proof_header_stands last first_id read (Ok count) = no_proof_item last None read (Proof.body_behind first_id count)
proof_header_stands last first_id read (Err name) = λ is. cc

proof_item_stands : AreLawful → (last : ℕ) (body : Proof.ProofBody) (read : Proof.BodyRead) (tokens : List (List ℕ))
    (h : Result ProofItem CertFault) → item_line body.version (is_up_to last) body.numbering tokens ≡ h →
    ProofStands last (Some body) read (and_then (λ item. Ok (Proof.with_item_read body item)) h)
proof_item_stands lawful last body read tokens (Ok item) line = λ is.
    let same : Proof.with_item_read body item ≡ read = cc in
    subst (λ (r : Proof.BodyRead). IfSome r.item (Proof.MayCome last (Some body))) same
    (lawful body.version (is_up_to last) body.numbering tokens item line)
proof_item_stands lawful last body read tokens (Err name) line = λ is. cc

pub proof_item_in_place : AreLawful → (last first_id : ℕ) (body : Option Proof.ProofBody) (text : List ℕ)
    (read : Proof.BodyRead) → Proof.line_read last first_id body text ≡ Ok read →
    IfSome read.item (Proof.MayCome last body)
proof_item_in_place lawful last first_id None text read =
    proof_header_stands last first_id read (proof_header (line_tokens text))
proof_item_in_place lawful last first_id (Some body) text read =
    by_test (ProofStands last (Some body) read) (nat_lt 0 body.items_left) _ _
    (λ more. proof_item_stands lawful last body read (line_tokens text) _ refl)
    (λ none. no_proof_item last (Some body) read body)

-- where all lines came
pub all_came : (f : Dqbf) (body : RefutationBody) (number : ℕ) → body.rows_left ≡ 0 → body.items_left ≡ 0 →
    rows_of (body_gives f body [] number) ≡ Ok body.rows
all_came f body number no_rows no_items =
    ap (λ n. rows_of (body_gives f (record body { rows_left = n }) [] number)) no_rows
    ∙ ap (λ n. rows_of (body_gives f (record body { rows_left = 0; items_left = n }) [] number)) no_items
    ∙ ap Ok (append-nil body.rows)

some_left : (n : ℕ) → 0 < n → n ≡ suc (n - 1)
some_left n some = omega (arith, some)

-- where a line of the proof is missing
pub items_missing : (f : Dqbf) (body : RefutationBody) (number : ℕ) → body.rows_left ≡ 0 → 0 < body.items_left →
    rows_of (body_gives f body [] number) ≡ Err (refusal number Truncated)
items_missing f body number no_rows some =
    ap (λ n. rows_of (body_gives f (record body { rows_left = n }) [] number)) no_rows
    ∙ ap (λ n. rows_of (body_gives f (record body { rows_left = 0; items_left = n }) [] number))
    (some_left body.items_left some)
