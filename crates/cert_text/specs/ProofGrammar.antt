-- The grammar: which proof a text spells over a formula and a circuit, in this project's own
-- format; lines and deletions as in LRAT (L. Cruz-Filipe et al., "Efficient certified RAT
-- verification", 2017).
use Rattle.std.specs.Prelude.{◌≡◌, ℕ, ◌≤◌, pos, List, [], ◌∷◌, ◌++◌, length}
use Rattle.std.specs.List.{All, AllZip}
use Rattle.dq_lits.specs.Formula.{Dqbf}
use Rattle.dq_text.specs.Number.{number_of}
use Rattle.dq_text.specs.declared.numbers.Number.TheVariants.{Int}
use Rattle.circuit_plain.specs.Netlist.{Netlist}
use Rattle.cert_text.specs.CircuitProof.{is_proof_variable, first_proof_id}
use Rattle.cert_text.specs.Grammar.{Tokens, tokens_by_line, SpellsItem, IsSmallItem, AreItems}
use Rattle.cert_text.specs.Header.{max_count, proof_word}
use Rattle.cert_text.specs.Numbering.{numbered_from}
use Rattle.cert_text.specs.declared.circuit_proofs.Dqp.{Dqp}
use Rattle.cert_text.specs.declared.versions.Version.{Version}

-- `dqp`, or `dqp2` in version 2, and how many items there are
pub record SpellsProofHeader (tokens : Tokens) (version : Version) (items : ℕ) : Type 0 where
  pub items_token : List ℕ
  pub words : tokens ≡ proof_word version ∷ items_token ∷ []
  pub items_number : number_of items_token ≡ Int (pos items)

-- what a text can hold over a formula and a circuit: items that are numbered behind the negated
-- matrix
pub record IsDqpOf (f : Dqbf) (net : Netlist) (d : Dqp) : Type 0 where
  pub few_items : length d.items ≤ max_count
  pub items : AreItems (is_proof_variable f net) (numbered_from (first_proof_id f net)) d.items
  pub small : All IsSmallItem d.items

-- the header, a line for each item, and then free text
pub record SpellsProof (text : List ℕ) (f : Dqbf) (net : Netlist) (d : Dqp) : Type 0 where
  pub version : Version
  pub header : Tokens
  pub item_lines : List Tokens
  pub free_lines : List Tokens
  pub lines : tokens_by_line text ≡ header ∷ (item_lines ++ free_lines)
  pub header_spelled : SpellsProofHeader header version (length d.items)
  pub items_spelled : AllZip (SpellsItem version) item_lines d.items
  pub allowed : IsDqpOf f net d
