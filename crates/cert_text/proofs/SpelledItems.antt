-- Items, as their reader takes them and as the grammar spells them.
use Rattle.std.proofs.Common.{◌≡◌, ℕ, ◌≤◌, ℤ, pos, nat_abs, Bool, true, false, not, cond, List, [], ◌∷◌, ◌++◌, map, length, Option, None, Some, Result, Ok, Err, codes, refl, sym, ◌∙◌, ap, arith, subst}
use Rattle.std.specs.Str.{bytes_eq}
use Rattle.std.proofs.lemmas.Bool.{and_from, and_parts}
use Rattle.std.proofs.lemmas.Option.{option_and_then_some}
use Rattle.std.proofs.lemmas.Slice.Eq.{bytes_eq-Decides}
use Rattle.dq_lits.specs.Derivation.{ProofStep}
use Rattle.dq_text.specs.Number.{number_of}
use Rattle.dq_text.specs.declared.numbers.Number.TheVariants.{Int}
use Rattle.rup_core.specs.Items.{ProofItem, derived, gone}
use Rattle.cert_text.specs.Grammar.{Tokens, integers, SpellsStep, SpellsDeletion, SpellsItem, IsDeletion, IsItem, IsSmallItem}
use Rattle.cert_text.specs.ItemLine.{ids_of_parts, deletion_of, deleted_ids, checked_ids, as_item, marked_line, item_line}
use Rattle.cert_text.specs.LineStop.{and_then}
use Rattle.cert_text.specs.Numbering.{Numbering}
use Rattle.cert_text.specs.Numbers.{line_integers}
use Rattle.cert_text.specs.StepLine.{cut_at_zero, is_nil, shaped, step_line}
use Rattle.cert_text.specs.declared.faults.CertFault.{CertFault}
use Rattle.cert_text.specs.declared.faults.CertFault.TheVariants.{NotLive}
use Rattle.cert_text.specs.declared.versions.Version.{Version}
use Rattle.cert_text.specs.declared.versions.Version.TheVariants.{One, Two}
use Rattle.cert_text.proofs.Integers.{integers_taken, integers_spelled}
use Rattle.cert_text.proofs.Numberings.{IsNumbered, live_ids}
use Rattle.cert_text.proofs.SmallNumbers.{step_small}
use Rattle.cert_text.proofs.SpelledSteps.{AreIds, hint_numbers, cut, hints_nonzero, hints_positive, hints_back, cut_back, hints_are, nil_is, step_taken, step_spelled}

abbrev Parts : Type 0
Parts = List ℤ × List ℤ

-- a number isn't `d`
by_test : (b : Bool) (token : List ℕ) (k : ℤ) → number_of token ≡ Int k → (b ≡ true → token ≡ codes "d") → b ≡ false
by_test false token k is letter = refl
by_test true token k is letter = search arith

-- what a deletion spells is taken
some_ids : (ids : List ℕ) → 1 ≤ length ids → not (is_nil (hint_numbers ids)) ≡ true
some_ids [] some = absurd (omega (arith, some))
some_ids (id ∷ ids) some = refl

pub deletion_kept : (ids : List ℕ) → 1 ≤ length ids → AreIds ids → deletion_of (hint_numbers ids ++ pos 0 ∷ []) ≡ Some ids
deletion_kept ids some are =
    search (arith, hint_numbers, and_from, some_ids, hints_positive, cut, hints_nonzero, nat_abs, hints_back)

deletion_taken : (p : ℕ → Bool) (n : Numbering) (tokens : Tokens) (ids : List ℕ) → IsNumbered n →
    SpellsDeletion tokens ids → IsDeletion n ids →
    marked_line p n tokens ≡ Ok (gone ids)
deletion_taken p n tokens ids numbered spelled is =
    search (arith, integers_taken, hint_numbers, deletion_kept, live_ids)

pub marked_step : (p : ℕ → Bool) (n : Numbering) (tokens : Tokens) (s : ProofStep) → SpellsStep tokens s →
    step_line p n.next tokens ≡ Ok s →
    marked_line p n tokens ≡ Ok (derived s)
marked_step p n [] s spelled taken = cc
marked_step p n (token ∷ tokens) s spelled taken = search (arith, by_test, bytes_eq-Decides)

pub item_taken : (version : Version) (p : ℕ → Bool) (n : Numbering) (tokens : Tokens) (item : ProofItem) →
    ((v : ℕ) → p v ≡ true → 1 ≤ v) → IsNumbered n →
    SpellsItem version tokens item → IsItem p n item → item_line version p n tokens ≡ Ok item
item_taken One p n tokens (derived s) some numbered spelled is = search (arith, step_taken)
item_taken One p n tokens (gone ids) some numbered spelled is = search arith
item_taken Two p n tokens (derived s) some numbered spelled is = search (arith, marked_step, step_taken)
item_taken Two p n tokens (gone ids) some numbered spelled is = deletion_taken p n tokens ids numbered spelled.1 is

-- an item, spelled and lawful
pub record IsItemLine (version : Version) (p : ℕ → Bool) (n : Numbering) (tokens : Tokens)
    (item : ProofItem) : Type 0 where
  pub spelled : SpellsItem version tokens item
  pub lawful : IsItem p n item
  pub small : IsSmallItem item

by_step : (version : Version) (p : ℕ → Bool) (n : Numbering) (tokens : Tokens) (taken : Result ProofStep CertFault)
    (item : ProofItem) →
    step_line p n.next tokens ≡ taken → as_item taken ≡ Ok item → IsItemLine version p n tokens item
by_step version p n tokens (Err name) item is h = cc
by_step version p n tokens (Ok s) item is h =
    let same : derived s ≡ item = cc in
    let l = step_spelled p n.next tokens s is in
    subst (IsItemLine version p n tokens) same (record {
      spelled = l.spelled;
      lawful = l.lawful;
      small =
          step_small tokens s l.spelled;
    })

-- ids that were taken
record AreTaken (tokens : Tokens) (ids : List ℕ) : Type 0 where
  numbers : map number_of tokens ≡ integers (hint_numbers ids ++ pos 0 ∷ [])
  some : 1 ≤ length ids

kept_ids : (b : Bool) (made ids : List ℕ) → cond b (Some made) None ≡ Some ids → (b ≡ true) × (made ≡ ids)
kept_ids true made ids h = let is : made ≡ ids = cc in (refl, is)
kept_ids false made ids h = cc

length_some : (ns : List ℤ) → not (is_nil ns) ≡ true → 1 ≤ length (map nat_abs ns)
length_some [] h = cc
length_some (n ∷ ns) h = omega arith

of_parts : (tokens : Tokens) (ns : List ℤ) (parts : Parts) (ids : List ℕ) → map number_of tokens ≡ integers ns →
    cut_at_zero ns ≡ Some parts →
    ids_of_parts parts.0 parts.1 ≡ Some ids → AreTaken tokens ids
of_parts tokens ns parts ids numbers is h =
    search (arith, kept_ids, nat_abs, and_parts, hint_numbers, cut_back, hints_are, nil_is, length_some)

by_shape : (tokens : Tokens) (ns : List ℤ) (found : Option (List ℕ)) (ids : List ℕ) →
    map number_of tokens ≡ integers ns → deletion_of ns ≡ found →
    shaped found ≡ Ok ids → AreTaken tokens ids
by_shape tokens ns None ids numbers is h = cc
by_shape tokens ns (Some found) ids numbers is h =
    let same : found ≡ ids = cc in
    option_and_then_some (λ (parts : Parts). ids_of_parts parts.0 parts.1) (cut_at_zero ns) ids (is ∙ ap Some same)
    (λ parts there made. of_parts tokens ns parts ids numbers there made)

by_integers : (tokens : Tokens) (taken : Result (List ℤ) CertFault) (ids : List ℕ) → line_integers tokens ≡ taken →
    and_then (λ ns. shaped (deletion_of ns)) taken ≡ Ok ids → AreTaken tokens ids
by_integers tokens (Err name) ids is h = cc
by_integers tokens (Ok ns) ids is h = by_shape tokens ns (deletion_of ns) ids (integers_spelled tokens ns is) refl h

live_kept : (b : Bool) (ids : List ℕ) (item : ProofItem) → cond b (Ok (gone ids)) (Err NotLive) ≡ Ok item →
    (b ≡ true) × (gone ids ≡ item)
live_kept true ids item h = let is : gone ids ≡ item = cc in (refl, is)
live_kept false ids item h = cc

by_ids : (p : ℕ → Bool) (n : Numbering) (tokens : Tokens) (taken : Result (List ℕ) CertFault) (item : ProofItem) →
    deleted_ids tokens ≡ taken →
    and_then (checked_ids n) taken ≡ Ok item → IsItemLine Two p n (codes "d" ∷ tokens) item
by_ids p n tokens (Err name) item is h = cc
by_ids p n tokens (Ok ids) item is h = search (arith, live_kept, by_integers)

by_letter : (b : Bool) (p : ℕ → Bool) (n : Numbering) (token : List ℕ) (tokens : Tokens) (item : ProofItem) →
    (b ≡ true → token ≡ codes "d") →
    cond b (and_then (checked_ids n) (deleted_ids tokens)) (as_item (step_line p n.next (token ∷ tokens))) ≡ Ok item →
    IsItemLine Two p n (token ∷ tokens) item
by_letter true p n token tokens item letter h =
    subst (λ t. IsItemLine Two p n (t ∷ tokens) item) (sym (letter refl))
    (by_ids p n tokens (deleted_ids tokens) item refl h)
by_letter false p n token tokens item letter h = search (arith, by_step)

pub item_spelled : (version : Version) (p : ℕ → Bool) (n : Numbering) (tokens : Tokens) (item : ProofItem) →
    item_line version p n tokens ≡ Ok item →
    IsItemLine version p n tokens item
item_spelled One p n tokens item h = by_step One p n tokens (step_line p n.next tokens) item refl h
item_spelled Two p n [] item h = by_step Two p n [] (step_line p n.next []) item refl h
item_spelled Two p n (token ∷ tokens) item h =
    by_letter (bytes_eq token (codes "d")) p n token tokens item (bytes_eq-Decides token (codes "d")).0 h
