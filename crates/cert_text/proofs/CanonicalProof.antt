-- The canonical text of a circuit's proof spells it.
use Rattle.std.proofs.Common.{◌≡◌, ℕ, ◌^◌, ◌≤◌, ◌<◌, Bool, true, List, [], ◌∷◌, ◌++◌, map, length, codes, refl, sym, ◌∙◌, ap, arith, subst, append_assoc, append-nil}
use Rattle.std.specs.Fmt.{decimal}
use Rattle.std.specs.List.{AllByRecursion, flat_map}
use Rattle.std.proofs.lemmas.List.Elements.{recursion_from_All}
use Rattle.rup_core.specs.Items.{ProofItem, derived, gone}
use Rattle.dq_lits.specs.Formula.{Dqbf}
use Rattle.dq_lits.specs.Literal.{Literal, variable_of}
use Rattle.circuit_plain.specs.Netlist.{Netlist}
use Rattle.cert_text.specs.Canonical.{proof_header_text, item_text, version_for, canonical_proof}
use Rattle.cert_text.specs.CircuitProof.{is_proof_variable, first_proof_id}
use Rattle.cert_text.specs.Grammar.{IsSmallItem, AreItems}
use Rattle.cert_text.specs.Header.{proof_word}
use Rattle.cert_text.specs.Numbering.{Numbering, numbered_from, with_next, without_all}
use Rattle.cert_text.specs.ProofGrammar.{IsDqpOf, SpellsProof}
use Rattle.cert_text.specs.declared.circuit_proofs.Dqp.{Dqp}
use Rattle.cert_text.specs.declared.versions.Version.{Version}
use Rattle.cert_text.specs.declared.versions.Version.TheVariants.{One, Two}
use Rattle.cert_text.proofs.CanonicalLines.{HasSmallLiterals, AreSpelledSmall, item_tokens, small_hints, items_lines, items_spell}
use Rattle.cert_text.proofs.Numberings.{Live, live_line, live_gone, live_ids, none_live}
use Rattle.cert_text.proofs.LineTokens.{tokens_by_text}
use Rattle.cert_text.proofs.LineWords.{tokens_of, line_of_words}
use Rattle.dq_text.proofs.Numerals.{natural_is_read}
use Rattle.dq_text.proofs.LineWords.{natural_is_word}
use Rattle.cert_text.proofs.SpelledProofs.{variable_some}

header_line : (version : Version) (items : ℕ) (rest : List ℕ) → items < 10 ^ 18 →
    tokens_of (proof_header_text version items ++ rest) ≡ (proof_word version ∷ decimal items ∷ []) ∷ tokens_of rest
header_line One items rest few =
    ap (λ bytes. tokens_of (100 ∷ 113 ∷ 112 ∷ 32 ∷ bytes)) (append_assoc (decimal items) (10 ∷ []) rest)
    ∙ line_of_words (codes "dqp" ∷ []) (decimal items) rest ((refl, (refl, (refl, tt))), tt) (natural_is_word items few)
header_line Two items rest few =
    ap (λ bytes. tokens_of (100 ∷ 113 ∷ 112 ∷ 50 ∷ 32 ∷ bytes)) (append_assoc (decimal items) (10 ∷ []) rest)
    ∙ line_of_words (codes "dqp2" ∷ []) (decimal items) rest ((refl, (refl, (refl, (refl, tt)))), tt)
    (natural_is_word items few)

small_literals : (p : ℕ → Bool) (ls : List Literal) → ((v : ℕ) → p v ≡ true → 1 ≤ v) →
    AllByRecursion (λ l. p (variable_of l) ≡ true) ls →
    AllByRecursion (λ l. variable_of l < 10 ^ 18) ls → HasSmallLiterals ls
small_literals p [] some on small = tt
small_literals p (l ∷ ls) some on small = ((some (variable_of l) on.0, small.0), small_literals p ls some on.1 small.1)

abbrev IsSmallId : ℕ → Type 0
IsSmallId id = id < 10 ^ 18

small_items : (p : ℕ → Bool) (n : Numbering) (items : List ProofItem) → ((v : ℕ) → p v ≡ true → 1 ≤ v) →
    AllByRecursion IsSmallItem items → Live IsSmallId n →
    AreItems p n items → AreSpelledSmall items
small_items p n [] some small live are = tt
small_items p n (derived s ∷ items) some small live are =
    let is = are.0 in
    let below : n.next < 10 ^ 18 = subst (λ id. id < 10 ^ 18) is.numbered small.0.id in (
      record {
        id = small.0.id;
        literals = small_literals p s.literals some (recursion_from_All
            (λ l. p (variable_of l) ≡ true) s.literals is.on_variables)
            (recursion_from_All (λ l. variable_of l < 10 ^ 18) s.literals small.0.variables);
        hints = small_hints n.next s.hints below (recursion_from_All
            (λ h. (1 ≤ h) × (h < n.next)) s.hints is.hints_before);
      },
      small_items p (with_next n) items some small.1 (live_line IsSmallId n below live) are.1,
    )
small_items p n (gone ids ∷ items) some small live are = (
  live_ids IsSmallId n ids live are.0.live,
  small_items p (without_all n ids) items some small.1
      (live_gone IsSmallId n ids live) are.1,
)

pub canonical_spells : (f : Dqbf) (net : Netlist) (d : Dqp) → IsDqpOf f net d → SpellsProof (canonical_proof d) f net d
canonical_spells f net d is =
    let items = length d.items in
    let version = version_for d.items in
    let header = proof_word version ∷ decimal items ∷ [] in
    let small = small_items (is_proof_variable f net) (numbered_from (first_proof_id f net)) d.items
    (λ v h. variable_some _ v h)
    (recursion_from_All IsSmallItem d.items is.small) (none_live IsSmallId (first_proof_id f net)) is.items in
    record {
      version = version;
      header = header;
      item_lines = map item_tokens d.items;
      free_lines = [];
      lines = tokens_by_text 1 (canonical_proof d)
          ∙ header_line version items (flat_map item_text d.items) (omega (arith, is.few_items))
          ∙ ap (λ lines. header ∷ lines) (items_lines d.items small ∙ sym (append-nil (map item_tokens d.items)));
      header_spelled = record {
        items_token = decimal items;
        words = refl;
        items_number =
            natural_is_read items (omega (arith, is.few_items));
      };
      items_spelled = items_spell d.items small;
      allowed = is;
    }
