-- Tables of new names.
use Rattle.std.proofs.Common.{◌≡◌, ℕ, suc, ◌+◌, ◌<◌, true, List, [], ◌∷◌, ◌++◌, length, take, get_or, Option, None, Some, IsSome, is_some, refl, sym, ◌∙◌, ap, arith}
use Rattle.std.specs.List.{cons_option, slice_index}
use Rattle.std.specs.Option.{option_map}
use Rattle.std.proofs.Math.Seq.{take-suc}
use Rattle.std.proofs.lemmas.List.Elements.{filter_map-append}
use Rattle.number_tables.specs.Numbers.{has_number, place_of}
use Rattle.number_tables.proofs.NumberPlaces.{placed}
use Rattle.dq_lits.specs.Literal.{Literal}
use Rattle.cert_export.specs.Names.{NameTable, renaming}
use Rattle.cert_export.specs.Renaming.{Renaming, renamed_literal, renamed_clause}

pub has_name : (t : NameTable) (v : ℕ) → has_number t.variables v ≡ true → IsSome (renaming t v)
has_name t v there = by_option (place_of t.variables v) (placed t.variables v ∙ there) where
  by_option : (o : Option ℕ) → is_some o ≡ true → IsSome (option_map (slice_index t.names) o)
  by_option None h = cc
  by_option (Some p) h = refl

-- one literal more
pub literal_more : (r : Renaming) (lits : List Literal) (i : ℕ) (l : Literal) (o : Option Literal) → i < length lits →
    l ≡ get_or lits i l → o ≡ renamed_literal r l →
    renamed_clause r (take (i + 1) lits) ≡ renamed_clause r (take i lits) ++ cons_option o []
literal_more r lits i l o below l_is o_is =
    ap (renamed_clause r) (ap (λ n. take n lits) (let s : i + 1 ≡ suc i = omega arith in s) ∙ take-suc lits i l below)
    ∙ filter_map-append (renamed_literal r) (take i lits) (get_or lits i l ∷ [])
    ∙ ap (λ p. renamed_clause r (take i lits) ++ cons_option p []) (ap (renamed_literal r) (sym l_is) ∙ sym o_is)
