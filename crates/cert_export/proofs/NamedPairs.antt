-- Variables of instances get their pairs' numbers.
use Rattle.std.proofs.Common.{◌≡◌, ℕ, ◌+◌, ◌*◌, ◌≤◌, ◌<◌, ◌⊎◌, inl, inr, true, Bool, List, [], take, get_or, length, Option, None, Some, IsSome, refl, sym, ◌∙◌, ap, subst, arith}
use Rattle.std.specs.List.{All}
use Rattle.std.specs.Option.{option_map}
use Rattle.std.proofs.lemmas.List.{take_all, take_more}
use Rattle.std.proofs.lemmas.List.Elements.{All-nil, All-push}
use Rattle.dq_lits.specs.Literal.{Literal, variable_of}
use Rattle.dq_lits.specs.Formula.{Dqbf}
use Rattle.cert_text.specs.Pairs.{is_pair_number}
use Rattle.hint_log.specs.Entries.{Entry, Given, has_id, numbered, name_of}
use Rattle.hint_log.specs.declared.origins.Origin.{Origin}
use Rattle.hint_log.specs.Naming.{rows_of}
use Rattle.hint_log.specs.declared.names.Name.TheVariants.{Pair}
use Rattle.refutation_checker.specs.Refutation.{normal_number}
use Rattle.cert_export.specs.Expansion.{rows_among, pair_of, pair_renaming}
use Rattle.cert_export.specs.Exported.{normal_names, IsPairNaming}
use Rattle.cert_export.specs.Pairing.{IsPairAt, IsNameAt, HasNameAt, ArePairNames, ArePairsNamed, IsPairNamed}
use Rattle.cert_export.specs.Renaming.{Renaming, IsPartOf, IsRenamingOf}
use Rattle.cert_export.proofs.GivenNames.{named_as, named_still, right_with, GivenNamed, one_given, all_given}

module _ (f : Dqbf) (entries : List Entry) (rounds : List ℕ) where
  abbrev rows : List (List Bool)
  rows = rows_among entries rounds

  abbrev target : Renaming
  target = pair_renaming f entries rounds

  abbrev pairs : Renaming → Renaming
  pairs r = normal_names f rows r

  -- more names, more pairs' numbers
  pub kept_pairs : (old new : Renaming) → IsPartOf old new → IsPartOf (pairs old) (pairs new)
  kept_pairs old new kept v x h = search arith

  -- one variable more has its number
  pub pair_right : (old new : Renaming) (v x : ℕ) → ArePairNames f entries rounds old →
      target v ≡ Some (normal_number f rows x) → is_pair_number f (length rows) x ≡ true →
      ((w n : ℕ) → new w ≡ Some n → (old w ≡ Some n) ⊎ ((w ≡ v) × (n ≡ x))) → ArePairNames f entries rounds new
  pair_right old new v x names is pair only = record {
    right = right_with target (pairs old) (pairs new) v (normal_number f rows x) is names.right only_pairs;
    pairs = search arith;
  } where
    only_pairs : (w n : ℕ) → pairs new w ≡ Some n → (pairs old w ≡ Some n) ⊎ ((w ≡ v) × (n ≡ normal_number f rows x))
    only_pairs w n h = by_option (new w) refl h where
      by_option : (o : Option ℕ) → new w ≡ o → option_map (normal_number f rows) o ≡ Some n →
          (pairs old w ≡ Some n) ⊎ ((w ≡ v) × (n ≡ normal_number f rows x))
      by_option None e k = cc
      by_option (Some y) e k =
          let is_n : normal_number f rows y ≡ n = cc in
          elim (only w y e) [
            | inl before ↦ inl (ap (option_map (normal_number f rows)) before ∙ k)
            | inr here ↦ inr (here.0, sym is_n ∙ ap (normal_number f rows) here.1)
          ]

  pub pair_named : (r : Renaming) (l : Literal) → ArePairNames f entries rounds r → IsSome (r (variable_of l)) →
      IsPairNamed f entries rounds r l
  pair_named r l names there = search (arith, named_as)

  -- names of all instances
  pub naming_of : (ids : List ℕ) (r : Renaming) → ArePairNames f entries rounds r →
      IsRenamingOf target entries ids (pairs r) → IsPairNaming f entries rounds ids r
  naming_of ids r names are = record { names = are; pairs = names.pairs }

  -- a pair's name gives its number under the row at a place
  pub pair_at : (place v k y : ℕ) → name_of entries v ≡ Some (Pair k y) → HasNameAt f entries rounds place v →
      IsPairAt f (rows_of entries) rows place k y
  pair_at place v k y is known = subst (IsNameAt f (rows_of entries) rows place) is known

  pub target_at : (place v k y : ℕ) → name_of entries v ≡ Some (Pair k y) → HasNameAt f entries rounds place v →
      target v ≡ Some (normal_number f rows (place * f.variables + y))
  target_at place v k y is known = ap (pair_of f (rows_of entries) rows) is ∙ (pair_at place v k y is known).number

  -- the pairs of the first so many literals
  pub record PairsSoFar (old new : Renaming) (done : List Literal) : Type 0 where
    pub kept : IsPartOf old new
    pub names : ArePairNames f entries rounds new
    pub named : All (IsPairNamed f entries rounds new) done

  pub no_pair : (r : Renaming) (done : List Literal) → done ≡ [] → ArePairNames f entries rounds r →
      PairsSoFar r r done
  no_pair r done is names = search (arith, All-nil)

  pub one_pair : (old mid new : Renaming) (lits : List Literal) (i : ℕ) (l : Literal) →
      PairsSoFar old mid (take i lits) → IsPartOf mid new → ArePairNames f entries rounds new →
      IsPairNamed f entries rounds new l → i < length lits → l ≡ get_or lits i l →
      PairsSoFar old new (take (i + 1) lits)
  one_pair old mid new lits i l so_far kept names here below l_is =
      let P = IsPairNamed f entries rounds new in
      record {
        kept = λ v x h. kept v x (so_far.kept v x h);
        names = names;
        named = subst (All P) (sym (take_more lits i l below))
            (All-push P (take i lits) (get_or lits i l) (λ k d less. named_still target (pairs mid) (pairs new)
            (get_or (take i lits) k d) (kept_pairs mid new kept) names.right (so_far.named k d less))
            (subst P l_is here));
      }

  pub all_pairs : (old new : Renaming) (lits : List Literal) (i : ℕ) → length lits ≤ i →
      PairsSoFar old new (take i lits) → ArePairsNamed f entries rounds new lits
  all_pairs old new lits i past so_far = record {
    names = so_far.names;
    named = subst (All (IsPairNamed f entries rounds new)) (take_all i lits past) so_far.named;
  }

  -- and of the first so many ids
  pub record GivenPairs (r : Renaming) (done : List ℕ) : Type 0 where
    pub names : ArePairNames f entries rounds r
    pub given : GivenNamed target entries (pairs r) done

  pub one_instance : (old new : Renaming) (ids : List ℕ) (i id : ℕ) → GivenPairs old (take i ids) → IsPartOf old new →
      ArePairNames f entries rounds new → i < length ids → id ≡ get_or ids i id →
      ((origin : Origin) (c : List Literal) → numbered has_id entries id ≡ Some (Given origin c) →
      All (IsPairNamed f entries rounds new) c) →
      GivenPairs new (take (i + 1) ids)
  one_instance old new ids i id so_far kept names below id_is here = search (arith, one_given, kept_pairs)

  pub all_instances : (r : Renaming) (ids : List ℕ) (i : ℕ) → length ids ≤ i → GivenPairs r (take i ids) →
      IsPairNaming f entries rounds ids r
  all_instances r ids i past so_far = search (arith, naming_of, all_given)
