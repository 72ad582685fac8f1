-- A store of copies stands where clauses are numbered behind all others.
use Rattle.std.proofs.Common.{◌≡◌, ℕ, zero, suc, ◌<◌, List, [], ◌∷◌, ◌++◌, length, slice_index_or, Some, refl, arith}
use Rattle.std.proofs.lemmas.Option.{slice_get_within}
use Rattle.list_laws.proofs.Elements.{kept_there}
use Rattle.dq_lits.specs.Literal.{Literal}
use Rattle.dq_lits.specs.Formula.{Dqbf}
use Rattle.hint_log.specs.Entries.{Entry, Named, Given}
use Rattle.hint_log.specs.Growth.{Each}
use Rattle.hint_log.specs.Live.{with_matrix}
use Rattle.hint_log.specs.Naming.{numbered_from_one}
use Rattle.hint_log.specs.ProductiveSession.{frame_of}
use Rattle.hint_log.specs.declared.names.Name.{Name}
use Rattle.hint_log.specs.declared.names.Name.TheVariants.{Copy as CopyOf}
use Rattle.hint_log.specs.declared.origins.Origin.TheVariants.{Copy, Link}
use Rattle.definability.specs.Leaving.{ClausesLeaveStores}
use Rattle.definability.specs.Store.{StoreState, store_of, IsStoredName, IsStoredCopy, IsStoredLink, IsStoreEntry, IsGivenThere, IsStore}

append_index : (xs ys : List ℕ) (k : ℕ) → k < length xs → slice_index_or (xs ++ ys) k 0 ≡ slice_index_or xs k 0
append_index [] ys k below = absurd (omega (arith, below))
append_index (x ∷ xs) ys zero below = refl
append_index (x ∷ xs) ys (suc k) below = append_index xs ys k (omega (arith, below))

module _ (all : Dqbf) (numbered : List ℕ) (s : StoreState) (more : List (List Literal)) (frames : List ℕ)
    (many : length numbered ≡ length all.matrix) where
  abbrev all' : Dqbf
  all' = with_matrix all (all.matrix ++ more)

  clause_there : (j : ℕ) (c : List Literal) → numbered_from_one all.matrix j ≡ Some c →
      numbered_from_one all'.matrix j ≡ Some c
  clause_there zero c is = cc
  clause_there (suc i) c is = kept_there all.matrix more i c is

  same_frame : (j : ℕ) (c : List Literal) → numbered_from_one all.matrix j ≡ Some c →
      frame_of numbered j ≡ frame_of (numbered ++ frames) j
  same_frame zero c is = cc
  same_frame (suc i) c is = search (arith, slice_get_within, append_index)

  name_there : (n : Name) → IsStoredName all s n → IsStoredName all' s n
  name_there (CopyOf side x) h = h
  name_there _ h = tt

  copy_there : (earlier : List Entry) (side j : ℕ) (c : List Literal) → IsStoredCopy all numbered s earlier side j c →
      IsStoredCopy all' (numbered ++ frames) s earlier side j c
  copy_there earlier side j c h = search (arith, clause_there, same_frame)

  link_there : (earlier : List Entry) (x i : ℕ) (c : List Literal) → IsStoredLink all s earlier x i c →
      IsStoredLink all' s earlier x i c
  link_there earlier x i c h = search arith

  entry_there : (earlier : List Entry) (e : Entry) → IsStoreEntry all numbered s earlier e →
      IsStoreEntry all' (numbered ++ frames) s earlier e
  entry_there earlier (Named v n) h = name_there n h
  entry_there earlier (Given (Copy side j) c) h = copy_there earlier side j c h
  entry_there earlier (Given (Link x i) c) h = link_there earlier x i c h
  entry_there earlier (Given _ c) h = h
  entry_there earlier _ h = tt

  entries_there : (es : List Entry) → Each (IsStoreEntry all numbered s) es →
      Each (IsStoreEntry all' (numbered ++ frames) s) es
  entries_there [] h = tt
  entries_there (e ∷ es) h = (entry_there es e h.0, entries_there es h.1)

  given_there : (es : List Entry) (side j : ℕ) → IsGivenThere all numbered s es side j →
      IsGivenThere all' (numbered ++ frames) s es side j
  given_there es side j h = search (arith, clause_there, same_frame)

  pub store_there : (es : List Entry) → IsStore all numbered s es → IsStore all' (numbered ++ frames) s es
  store_there es h = record {
    places = search arith;
    whole = h.whole;
    parts = record { copies = h.parts.copies; equations = h.parts.equations };
    groups = h.groups;
    givens = λ side j one has. given_there es side j (h.givens side j one has);
    own = entries_there es h.own;
    active = h.active;
  }

pub clauses_left : ClausesLeaveStores
clauses_left all numbered p entries more frames many store =
    store_there all numbered (store_of p) more frames many entries store
