-- Instances have one group where their clauses are of one frame.
use Rattle.std.proofs.Common.{◌≡◌, ℕ, inl, inr, List, ◌∷◌, sym, ◌∙◌, arith}
use Rattle.std.specs.List.{Contains}
use Rattle.dq_lits.specs.Literal.{Literal, negative}
use Rattle.hint_log.specs.Entries.{Entry, Given}
use Rattle.hint_log.specs.ProductiveSession.{frame_of}
use Rattle.hint_log.specs.declared.origins.Origin.TheVariants.{Instance}
use Rattle.hint_log.proofs.NamedEntries.{each_one}
use Rattle.dq_session.specs.Databases.{DatabaseState, frames_of, IsInFrame, IsDatabaseEntry, IsDatabase}
use Rattle.dq_session.specs.Grouped.{InstancesAreGrouped}
use Rattle.log_laws.proofs.Kept.{in_one_group}

module _ (b : DatabaseState) (es : List Entry) (database : IsDatabase b es) where
  pub frame_group : (k j group : ℕ) (rest : List Literal) → Contains es (Given (Instance k j) (negative group ∷ rest)) →
      IsInFrame b (frame_of (frames_of b) j) (negative group ∷ rest)
  frame_group k j group rest has =
      (each_one (IsDatabaseEntry b) es (Given (Instance k j) (negative group ∷ rest)) database.givens has).1.in_frame

  same_frame : (F G group group' : ℕ) (rest rest' : List Literal) → IsInFrame b F (negative group ∷ rest) →
      IsInFrame b G (negative group' ∷ rest') → group ≡ group' → F ≡ G
  same_frame F G group group' rest rest' (inl (zero_is, inside)) (inl (zero_is', inside')) same = zero_is ∙ sym zero_is'
  same_frame F G group group' rest rest' (inl (zero_is, inside)) (inr (g, has, inside')) same =
      search (arith, in_one_group)
  same_frame F G group group' rest rest' (inr (g, has, inside)) (inl (zero_is, inside')) same =
      search (arith, in_one_group)
  same_frame F G group group' rest rest' (inr (g, has, inside)) (inr (h, has', inside')) same =
      search (arith, in_one_group)

  same_group : (F G group group' : ℕ) (rest rest' : List Literal) → IsInFrame b F (negative group ∷ rest) →
      IsInFrame b G (negative group' ∷ rest') → F ≡ G → group ≡ group'
  same_group F G group group' rest rest' (inl (zero_is, inside)) (inl (zero_is', inside')) same =
      search (arith, in_one_group)
  same_group F G group group' rest rest' (inl (zero_is, inside)) (inr (g, has, inside')) same = search arith
  same_group F G group group' rest rest' (inr (g, has, inside)) (inl (zero_is, inside')) same = search arith
  same_group F G group group' rest rest' (inr (g, has, inside)) (inr (h, has', inside')) same =
      search (arith, in_one_group)

pub instances_grouped : InstancesAreGrouped
instances_grouped b es database k j k' j' group group' rest rest' has has' =
    search (
      arith,
      (frame_group b es database k j group rest has),
      (frame_group b es database k' j' group' rest' has'),
      (same_frame b es database),
      (same_group b es database),
    )
