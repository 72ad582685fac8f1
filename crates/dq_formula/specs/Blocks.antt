-- How clauses lie in blocks: each within one block, behind the one before it or at the beginning of
-- the next block.
use Rattle.std.specs.Prelude.{◌≡◌, ℕ, ◌+◌, ◌-◌, ◌==◌, ◌≤◌, ◌<◌, ◌^◌, ◌⊎◌, List, [], ◌∷◌, ◌++◌, length, take, drop, map, slice_index_or, vec_capacity, if◌then◌else◌}
use Rattle.dq_lits.specs.Literal.{Literal}
use Rattle.dq_formula.specs.declared.blocks.Place.{Place}
use Rattle.dq_formula.specs.declared.blocks.Blocks.{Blocks}

abbrev pub block_at : List (List Literal) → ℕ → List Literal
block_at blocks b = slice_index_or blocks b []

-- where the clause at a place in this block ends, by the places of the clauses behind it: where the
-- next one begins, else at the block's end
abbrev pub end_of : List Literal → Place → List Place → ℕ
end_of block p [] = length block
end_of block p (next ∷ later) = if next.block == p.block then next.start else length block

abbrev pub clause_in : List Literal → Place → List Place → List Literal
clause_in block p later = take (end_of block p later - p.start) (drop p.start block)

-- the clauses at these places
abbrev pub clauses_at : List (List Literal) → List Place → List (List Literal)
clauses_at blocks [] = []
clauses_at blocks (p ∷ later) =
    clause_in (block_at blocks p.block) p later ∷ clauses_at blocks later

-- a place behind one in a block
pub record IsNext (blocks : List (List Literal)) (block start : ℕ) (p : Place) : Type 0 where
  pub block_exists : p.block < length blocks
  pub start_exists : p.start ≤ length (block_at blocks p.block)
  pub ordered : ((p.block ≡ block) × (start ≤ p.start)) ⊎ ((p.block ≡ block + 1) × (p.start ≡ 0))

-- The places stand in order, from one in a block on. Behind the last one's block there may be one
-- more, which is empty.
abbrev pub ArePlaces : List (List Literal) → ℕ → ℕ → List Place → Type 0
ArePlaces blocks block start [] =
    (length blocks ≤ block + 1)
    ⊎ ((length blocks ≡ block + 2) × (block_at blocks (block + 1) ≡ []))
ArePlaces blocks block start (p ∷ later) =
    IsNext blocks block start p × ArePlaces blocks p.block p.start later

-- all blocks; the last one is being filled
abbrev pub blocks_of : Blocks → List (List Literal)
blocks_of b = map (λ block. block.items) b.full.items ++ b.current.items ∷ []

abbrev pub clauses_of : Blocks → List (List Literal)
clauses_of b = clauses_at (blocks_of b) b.places.items

abbrev pub AreArranged : Blocks → Type 0
AreArranged b = ArePlaces (blocks_of b) 0 0 b.places.items

-- there is room for so many clauses with so many literals in all, of which so many may stand before
-- the last clause
pub record HasRoom (b : Blocks) (clauses size before : ℕ) : Type 0 where
  pub places : length b.places.items + clauses ≤ vec_capacity b.places
  pub literals : length b.current.items + size ≤ vec_capacity b.current
  pub starts : length b.current.items + before < 2 ^ 32

-- these clauses, with so many literals in all, were put behind the others, into room that there was
pub record ArePut (old new : Blocks) (added : List (List Literal)) (size : ℕ) : Type 0 where
  pub clauses : clauses_of new ≡ clauses_of old ++ added
  pub arranged : AreArranged new
  pub room : (more most before : ℕ)
      → HasRoom old (length added + more) (size + most) (size + before) → HasRoom new more most before
