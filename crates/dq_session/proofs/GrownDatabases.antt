-- What was given stays right where a database gets further clauses, groups and rows.
use Rattle.std.proofs.Common.{◌≡◌, ℕ, ◌≤◌, ◌⊎◌, inl, inr, List, [], ◌∷◌, Option, Some, None, sym, subst, arith}
use Rattle.dq_lits.specs.Literal.{Literal}
use Rattle.dq_lits.specs.Formula.{Dqbf}
use Rattle.hint_log.specs.Conditions.{AreNamed, MayFollow}
use Rattle.hint_log.specs.Entries.{Entry, Given, name_of}
use Rattle.hint_log.specs.Growth.{Each}
use Rattle.hint_log.specs.Live.{with_matrix}
use Rattle.hint_log.specs.Naming.{numbered_from_one}
use Rattle.hint_log.specs.Origins.{IsOriginsClause}
use Rattle.hint_log.specs.ProductiveSession.{frame_of}
use Rattle.hint_log.specs.declared.origins.Origin.{Origin}
use Rattle.hint_log.specs.declared.origins.Origin.TheVariants.{Instance}
use Rattle.hint_log.proofs.NamedEntries.{unnamed_before}
use Rattle.log_laws.specs.Engines.{IsInGroup}
use Rattle.oracle.specs.declared.groups.Group.{Group}
use Rattle.expansion.specs.Table.{TableState}
use Rattle.dq_session.specs.Databases.{DatabaseState, all_of, frames_of, number_at, given_at, HasGroup, number_of, IsInFrame, IsFrameInstance, IsInNoFrame, IsDatabaseEntry}
use Rattle.dq_session.specs.declared.live.Live.{Live}
use Rattle.dq_session.specs.declared.live.OpenFrame.{OpenFrame}
use Rattle.log_laws.proofs.Kept.{in_unnamed}

-- an instance is right by every matrix that has its clause under the same number
pub instance_by : (f : Dqbf) (matrix : List (List Literal)) (earlier : List Entry) (k j : ℕ) (c : List Literal)
    → ((clause : List Literal) → numbered_from_one f.matrix j ≡ Some clause →
    numbered_from_one matrix j ≡ Some clause)
    → IsOriginsClause f earlier (Instance k j) c → IsOriginsClause (with_matrix f matrix) earlier (Instance k j) c
instance_by f matrix earlier k j c same o = search arith

module _ (b : DatabaseState) (table : TableState) (added : List (List Literal)) (frames given : List ℕ)
    (groups : List (Option Group)) (open_frames : List OpenFrame) (live : List Live) where
  abbrev pub after : DatabaseState
  after = record {
    file = b.file;
    table = table;
    added = added;
    frames = frames;
    given = given;
    groups = groups;
    open_frames = open_frames;
    live = live;
  }

  -- clauses keep their numbers and frames, and have more instances; groups stay
  pub record IsGrown : Type 0 where
    pub table_group : table.group ≡ b.table.group
    pub clauses : (j : ℕ) (c : List Literal) → numbered_from_one (all_of b).matrix j ≡ Some c →
        numbered_from_one (all_of after).matrix j ≡ Some c
    pub same_frames : (j : ℕ) (c : List Literal) → numbered_from_one (all_of b).matrix j ≡ Some c →
        frame_of (frames_of after) j ≡ frame_of (frames_of b) j
    pub more_given : (place : ℕ) (c : List Literal) → numbered_from_one (all_of b).matrix (number_at b place) ≡ Some c
        → given_at b place ≤ given_at after place
    pub kept_groups : (frame : ℕ) (g : Group) → HasGroup b frame g → HasGroup after frame g

  -- a group that is there now was there, or has no name yet
  abbrev pub AreNewGroups : List Entry → Type 0
  AreNewGroups es =
      (frame : ℕ) (g : Group) → HasGroup after frame g →
      HasGroup b frame g ⊎ (name_of es (number_of g) ≡ None)

  module _ (grown : IsGrown) where
    in_frame : (frame : ℕ) (c : List Literal) → IsInFrame b frame c → IsInFrame after frame c
    in_frame frame c (inl (zero_is, inside)) =
        inl (zero_is, subst (λ g. IsInGroup g c) (sym grown.table_group) inside)
    in_frame frame c (inr (g, has, inside)) = inr (g, grown.kept_groups frame g has, inside)

    instance_kept : (earlier : List Entry) (k j : ℕ) (c : List Literal) → IsFrameInstance b earlier k j c →
        IsFrameInstance after earlier k j c
    instance_kept earlier k j c h = search (arith, instance_by)

    module _ (Q : List Entry → Entry → Type 0)
        (no_frame : (earlier : List Entry) (origin : Origin) (c : List Literal) → Q earlier (Given origin c) →
        IsInNoFrame b c → IsInNoFrame after c) where
      entry_by : (earlier : List Entry) (e : Entry) → Q earlier e → IsDatabaseEntry b earlier e → IsDatabaseEntry after earlier e
      entry_by earlier (Given (Instance k j) c) q h = instance_kept earlier k j c h
      entry_by earlier (Given e c) q h = no_frame earlier e c q h
      entry_by earlier _ q h = tt

      entries_by : (es : List Entry) → Each Q es → Each (IsDatabaseEntry b) es → Each (IsDatabaseEntry after) es
      entries_by [] q h = tt
      entries_by (e ∷ es) q h = (entry_by es e q.0 h.0, entries_by es q.1 h.1)

    -- with the groups that there were
    pub entries_same : ((frame : ℕ) (g : Group) → HasGroup after frame g → HasGroup b frame g) → (es : List Entry) →
        Each (IsDatabaseEntry b) es → Each (IsDatabaseEntry after) es
    entries_same old es h = entries_by (λ earlier e. Unit {0})
        (λ earlier origin c q none frame g has inside. none frame g (old frame g has) inside) es (nothing es) h
      where
        nothing : (xs : List Entry) → Each (λ earlier e. Unit {0}) xs
        nothing [] = tt
        nothing (x ∷ xs) = (tt, nothing xs)

    no_frame : (earlier : List Entry) (c : List Literal) → AreNewGroups earlier → AreNamed earlier c → IsInNoFrame b c →
        IsInNoFrame after c
    no_frame earlier c new named none frame g has inside = by (new frame g has)
      where
        by : HasGroup b frame g ⊎ (name_of earlier (number_of g) ≡ None) → ⊥
        by (inl old) = none frame g old inside
        by (inr unnamed) = in_unnamed earlier (number_of g) c named unnamed inside

    abbrev May : List Entry → Entry → Type 0
    May earlier e = AreNewGroups earlier × MayFollow earlier e

    may_each : (es : List Entry) → AreNewGroups es → Each MayFollow es → Each May es
    may_each [] new logged = tt
    may_each (e ∷ es) new logged = search (arith, (may_each es), (unnamed_before e es))

    -- with further ones
    pub entries_kept : (es : List Entry) → AreNewGroups es → Each MayFollow es → Each (IsDatabaseEntry b) es →
        Each (IsDatabaseEntry after) es
    entries_kept es new logged h = entries_by May (λ earlier origin c q none. no_frame earlier c q.0 q.1 none) es
        (may_each es new logged) h
