-- Names that were read, one after the other.
use Rattle.std.proofs.Common.{◌≡◌, ℕ, ◌+◌, List, [], ◌∷◌, ◌++◌, take, get_or, slice_get, Some, sym, ◌∙◌, ap, arith}
use Rattle.std.proofs.lemmas.List.{take_more}
use Rattle.std.proofs.lemmas.Option.{get_or_from_slice_get, slice_get_within}
use Rattle.hint_log.specs.Entries.{Entry, names_of}
use Rattle.hint_log.specs.declared.names.Name.{Name}
use Rattle.definition_export.specs.TermOrder.{with_term, with_terms, HasRead}
use Rattle.definition_export.specs.declared.terms.TermOrder.{TermOrder}
use Rattle.definition_export.proofs.OrderedTerms.{with_terms_snoc}

-- the names up to a place were read
pub record IsReadTo (order : TermOrder) (entries : List Entry) (place : ℕ) : Type 0 where
  pub at : order.read ≡ place
  pub read : HasRead order entries

-- one name more
pub one_read : (old new : TermOrder) (entries : List Entry) (place : ℕ) (named : ℕ × Name) → IsReadTo old entries place →
    slice_get (names_of entries) place ≡ Some named → new.terms ≡ with_term old.terms named → new.read ≡ place + 1 →
    IsReadTo new entries (place + 1)
one_read old new entries place named so_far at terms read =
    let names = names_of entries in
    let below = slice_get_within names place named at in
    let is : get_or names place named ≡ named = get_or_from_slice_get names place named named at in
    let more : take (place + 1) names ≡ take place names ++ named ∷ [] =
    take_more names place named below ∙ ap (λ n. take place names ++ n ∷ []) is in
    record {
      at = read;
      read = record {
        within = omega (arith, read, below);
        terms = terms ∙ ap (λ ts. with_term ts named) (so_far.read.terms ∙ ap (λ n. with_terms [] (take n names))
            so_far.at)
            ∙ sym (ap (λ n. with_terms [] (take n names)) read ∙ ap (with_terms []) more
            ∙ with_terms_snoc [] (take place names) named);
      };
    }
