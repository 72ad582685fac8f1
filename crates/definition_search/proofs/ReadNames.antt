-- Names that were read stay so as the log grows.
use Rattle.std.proofs.Common.{◌≡◌, ℕ, List, [], ◌∷◌, ◌++◌, take, length, length-append, sym, ◌∙◌, ap, subst, arith}
use Rattle.std.proofs.lemmas.List.{take-append-le, append_assoc, append-nil}
use Rattle.hint_log.specs.Entries.{Entry, Named, Given, Learned, Answer, Round, Begun, ProofLog, names_of}
use Rattle.hint_log.specs.Growth.{Grew}
use Rattle.hint_log.specs.declared.names.Name.{Name}
use Rattle.definition_export.specs.TermOrder.{HasRead, with_terms}
use Rattle.definition_export.specs.declared.terms.TermOrder.{TermOrder}

abbrev IsBeginning : List (ℕ × Name) → List (ℕ × Name) → Type 0
IsBeginning xs ys = (rest : List (ℕ × Name)) × (ys ≡ xs ++ rest)

names_begin : (more old : List Entry) → IsBeginning (names_of old) (names_of (more ++ old))
names_begin [] old = ([], sym (append-nil (names_of old)))
names_begin (Named v n ∷ more) old =
    let r = names_begin more old in
    (r.0 ++ (v, n) ∷ [], ap (λ ns. ns ++ (v, n) ∷ []) r.1 ∙ append_assoc (names_of old) r.0 ((v, n) ∷ []))
names_begin (Given o c ∷ more) old = names_begin more old
names_begin (Learned c hints ∷ more) old = names_begin more old
names_begin (Answer c hints ∷ more) old = names_begin more old
names_begin (Round row values j ∷ more) old = names_begin more old
names_begin (Begun live ∷ more) old = names_begin more old

pub read_stays : (P : List Entry → Entry → Type 0) (order : TermOrder) (old new : ProofLog) → Grew P old new →
    HasRead order old.entries → HasRead order new.entries
read_stays P order old new grew read =
    let begin = subst (λ es. IsBeginning (names_of old.entries) (names_of es)) (sym grew.grown)
    (names_begin grew.more old.entries) in
    let within = read.within in
    let more = ap length begin.1 ∙ length-append (names_of old.entries) begin.0 in
    record {
      within = omega (arith, within, more);
      terms = read.terms ∙ ap (with_terms []) (sym (ap (take order.read) begin.1
          ∙ take-append-le order.read (names_of old.entries) begin.0 read.within));
    }
