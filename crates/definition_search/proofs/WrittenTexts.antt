-- Blocks that are written one after the other.
use Rattle.std.proofs.Common.{◌≡◌, ◌+◌, ◌≤◌, ℕ, List, [], ◌∷◌, ◌++◌, length, slice_get, take, Some, sym, ◌∙◌, ap, subst, arith}
use Rattle.std.specs.List.{flat_map}
use Rattle.std.proofs.lemmas.List.{append_assoc, append-nil, length-map, take_all, take_more}
use Rattle.std.proofs.lemmas.Option.{get_or_from_slice_get, slice_get_within}
use Rattle.dq_lits.specs.Formula.{Dqbf}
use Rattle.dq_formula.specs.Prefix.{existential_variables}
use Rattle.cert_text.specs.CanonicalDefinitions.{block_text, definitions_header_text, definitions_text}
use Rattle.cert_text.specs.DefinitionBlocks.{DefinitionBlock}
use Rattle.definition_order.proofs.Declared.{variable}
use Rattle.definition_search.specs.Texts.{AreRightBlocks, IsTextOfDefinitions}
use Rattle.definition_search.proofs.RightBlocks.{block_more}

-- the blocks of the first existentials were written
pub record IsWritten (f : Dqbf) (place : ℕ) (text : List ℕ) : Type 0 where
  pub blocks : List DefinitionBlock
  pub right : AreRightBlocks f (take place (existential_variables f)) blocks
  pub written : text ≡ definitions_text f blocks

flat_map_more : (f : Dqbf) (blocks : List DefinitionBlock) (block : DefinitionBlock) →
    flat_map (block_text f) (blocks ++ block ∷ []) ≡ flat_map (block_text f) blocks ++ block_text f block
flat_map_more f [] block = append-nil (block_text f block)
flat_map_more f (b ∷ blocks) block = ap (λ t. block_text f b ++ t) (flat_map_more f blocks block)
    ∙ sym (append_assoc (block_text f b) (flat_map (block_text f) blocks) (block_text f block))

pub one_written : (f : Dqbf) (place y : ℕ) (text new : List ℕ) (block : DefinitionBlock) → IsWritten f place text →
    slice_get (existential_variables f) place ≡ Some y → AreRightBlocks f (y ∷ []) (block ∷ []) →
    new ≡ text ++ block_text f block → IsWritten f (place + 1) new
one_written f place y text new block before at right is =
    let vs = existential_variables f in
    let within = slice_get_within vs place y at in
    let more = take_more vs place y within ∙ ap (λ v. take place vs ++ v ∷ []) (get_or_from_slice_get vs place y y at) in
    record {
      blocks = before.blocks ++ block ∷ [];
      right = subst (λ ys. AreRightBlocks f ys (before.blocks ++ block ∷ [])) (sym more)
          (block_more f (take place vs) y before.blocks block before.right right);
      written = is ∙ ap (λ t. t ++ block_text f block) before.written
          ∙ append_assoc (definitions_header_text (length f.existentials)) (flat_map (block_text f) before.blocks)
          (block_text f block)
          ∙ ap (λ t. definitions_header_text (length f.existentials) ++ t) (sym (flat_map_more f before.blocks block));
    }

pub all_written : (f : Dqbf) (place : ℕ) (text : List ℕ) → length f.existentials ≤ place → IsWritten f place text →
    IsTextOfDefinitions f text
all_written f place text past before =
    let many = length-map f.existentials variable in
    record {
      blocks = before.blocks;
      right = subst (λ ys. AreRightBlocks f ys before.blocks)
          (take_all place (existential_variables f) (omega (arith, past, many))) before.right;
      written = before.written;
    }
