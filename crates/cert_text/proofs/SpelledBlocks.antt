-- Lines as the grammar of definitions spells them, in parts.
use Rattle.std.proofs.Common.{◌≡◌, List, [], ◌∷◌, ◌++◌, ap, append_assoc, arith}
use Rattle.std.specs.List.{AllZip}
use Rattle.cert_text.specs.DefinitionGrammar.{Line, SpellsLine}
use Rattle.cert_text.specs.Grammar.{Tokens}

-- the tokens of lines that spell these, and of those behind them
pub record AreSpelled (wanted : List Line) (behind all : List Tokens) : Type 0 where
  pub spelled : List Tokens
  pub each : AllZip SpellsLine spelled wanted
  pub are : all ≡ spelled ++ behind

pub both_each : (front back : List Line) (first rest : List Tokens) → AllZip SpellsLine first front →
    AllZip SpellsLine rest back → AllZip SpellsLine (first ++ rest) (front ++ back)
both_each [] back [] rest left right = right
both_each [] back (t ∷ first) rest left right = absurd left
both_each (line ∷ front) back [] rest left right = absurd left
both_each (line ∷ front) back (t ∷ first) rest left right = (left.0, both_each front back first rest left.1 right)

-- lines, and those behind them
pub joined : (front back : List Line) (behind middle all : List Tokens) → AreSpelled front middle all →
    AreSpelled back behind middle → AreSpelled (front ++ back) behind all
joined front back behind middle all first later = search (arith, both_each, append_assoc)

-- the lines of the front, and those behind it
pub record HasFront (front others : List Line) (behind all : List Tokens) : Type 0 where
  pub first : List Tokens
  pub each : AllZip SpellsLine first front
  pub rest : List Tokens
  pub later : AllZip SpellsLine rest others
  pub are : all ≡ first ++ (rest ++ behind)

record IsCut (front back : List Line) (spelled : List Tokens) : Type 0 where
  first : List Tokens
  rest : List Tokens
  are : spelled ≡ first ++ rest
  front_are : AllZip SpellsLine first front
  back_are : AllZip SpellsLine rest back

cut_lines : (front back : List Line) (spelled : List Tokens) → AllZip SpellsLine spelled (front ++ back) →
    IsCut front back spelled
cut_lines [] back spelled each = search arith
cut_lines (line ∷ front) back [] each = absurd each
cut_lines (line ∷ front) back (t ∷ ts) each =
    let c = cut_lines front back ts each.1 in
    record {
      first = t ∷ c.first;
      rest = c.rest;
      are = ap (λ xs. t ∷ xs) c.are;
      front_are = (each.0, c.front_are);
      back_are = c.back_are;
    }

pub front_of : (front others : List Line) (behind all : List Tokens) → AreSpelled (front ++ others) behind all →
    HasFront front others behind all
front_of front others behind all given = search (arith, cut_lines, append_assoc)
