-- The numbers that the last beginning names, in what is kept.
use Rattle.std.proofs.Common.{◌≡◌, ℕ, List, [], ◌∷◌, ◌++◌, take, refl, arith}
use Rattle.std.proofs.lemmas.List.{reverse-append}
use Rattle.dq_lits.specs.Literal.{Literal}
use Rattle.hint_log.specs.declared.kinds.EntryKind.{EntryKind}
use Rattle.hint_log.specs.declared.kinds.EntryKind.TheVariants.{Naming, Clause, Failure, Beginning}
use Rattle.hint_log.specs.declared.kinds.ClauseKind.{ClauseKind}
use Rattle.hint_log.specs.declared.kinds.ClauseKind.TheVariants.{OfGate}
use Rattle.hint_log.specs.declared.kinds.KeptRound.{KeptRound}
use Rattle.hint_log.specs.declared.names.Name.{Name}
use Rattle.hint_log.specs.Entries.{Entry}
use Rattle.hint_log.specs.Kept.{KeptClause, entry_by, interleaved, AreInterleaved, newest_of, kept_lives}
use Rattle.hint_log.specs.Live.{last_live}

live_by : (k : ClauseKind) (ls : List Literal) (ns : List ℕ) (es : List Entry) →
    last_live (entry_by k ls ns ∷ es) ≡ last_live es
live_by OfGate ls ns es = refl
live_by _ ls ns es = refl

pub newest_is_last : (ks : List EntryKind) (ns : List (ℕ × Name)) (cs : List KeptClause) (rs : List KeptRound)
    (vs : List (List ℕ)) → AreInterleaved ks ns cs rs vs
    → last_live (interleaved ks ns cs rs vs) ≡ newest_of vs
newest_is_last [] [] [] [] [] h = refl
newest_is_last [] [] [] [] (v ∷ vs) h = absurd h
newest_is_last [] [] [] (r ∷ rs) vs h = absurd h
newest_is_last [] [] (c ∷ cs) rs vs h = absurd h
newest_is_last [] (n ∷ ns) cs rs vs h = absurd h
newest_is_last (Naming ∷ ks) [] cs rs vs h = absurd h
newest_is_last (Naming ∷ ks) ((v, name) ∷ ns) cs rs vs h = newest_is_last ks ns cs rs vs h
newest_is_last (Clause ∷ ks) ns [] rs vs h = absurd h
newest_is_last (Clause ∷ ks) ns (c ∷ cs) rs vs h = search (arith, live_by, (newest_is_last ks ns cs rs vs h))
newest_is_last (Failure ∷ ks) ns cs [] vs h = absurd h
newest_is_last (Failure ∷ ks) ns cs (r ∷ rs) vs h = newest_is_last ks ns cs rs vs h
newest_is_last (Beginning ∷ ks) ns cs rs [] h = absurd h
newest_is_last (Beginning ∷ ks) ns cs rs (v ∷ vs) h = refl

-- a beginning more
pub live_more : (stays : ℕ) (more last counts more_counts : List ℕ) (added more_added : List (List ℕ)) →
    last ≡ newest_of (kept_lives counts added)
    → more_counts ≡ counts ++ stays ∷ [] → more_added ≡ added ++ more ∷ [] →
    kept_lives more_counts more_added ≡ (take stays last ++ more) ∷ kept_lives counts added
live_more stays more last counts more_counts added more_added last_is counts_is added_is =
    search (arith, reverse-append)
