-- Steps on clauses in blocks: a new block, a clause more.
use Rattle.std.proofs.Common.{◌≡◌, ◌≢◌, ℕ, ◌+◌, ◌≤◌, false, true≢false, eqb, List, [], ◌∷◌, ◌++◌, length, map, refl, ap, sym, ◌∙◌, arith, vec_capacity, append_assoc, length-append}
use Rattle.std.proofs.lemmas.List.{map_push, length_push}
use Rattle.std.proofs.lemmas.Bool.{eq-eqb}
use Rattle.dq_lits.specs.Literal.{Literal}
use Rattle.dq_formula.specs.declared.blocks.Place.{Place}
use Rattle.dq_formula.specs.declared.blocks.Blocks.{Blocks}
use Rattle.dq_formula.specs.Blocks.{blocks_of, clauses_of, AreArranged, ArePut}
use Rattle.dq_formula.proofs.ClauseBlocks.{IsNew, clauses_at-put, ArePlaces-put, stands_first, clauses_at-open, ArePlaces-open}

-- the blocks before the last
abbrev pub before : Blocks → List (List Literal)
before b = map (λ block. block.items) b.full.items

pub record IsOpened (old new : Blocks) : Type 0 where
  pub places : new.places ≡ old.places
  pub full : new.full.items ≡ old.full.items ++ old.current ∷ []
  pub current : new.current.items ≡ []
  pub some : old.current.items ≢ []

opened_blocks : (old new : Blocks) → IsOpened old new → blocks_of new ≡ blocks_of old ++ [] ∷ []
opened_blocks old new is = rw (is.full, is.current, map_push (λ block. block.items) old.full.items old.current) refl

pub opened_clauses : (old new : Blocks) → IsOpened old new → AreArranged old → clauses_of new ≡ clauses_of old
opened_clauses old new is arranged = search (arith, opened_blocks, clauses_at-open)

pub opened_arranged : (old new : Blocks) → IsOpened old new → AreArranged old → AreArranged new
opened_arranged old new is arranged = search (arith, length-append, opened_blocks, ArePlaces-open)

pub record IsPut (old new : Blocks) (clause : List Literal) (place : Place) : Type 0 where
  pub full : new.full ≡ old.full
  pub places : new.places.items ≡ old.places.items ++ place ∷ []
  pub current : new.current.items ≡ old.current.items ++ clause
  pub at : IsNew (before old) old.current.items place
  pub places_room : vec_capacity old.places ≤ vec_capacity new.places
  pub literals_room : vec_capacity old.current ≤ vec_capacity new.current

pub are_put : (old new : Blocks) (clause : List Literal) (place : Place) → IsPut old new clause place →
    AreArranged old → ArePut old new (clause ∷ []) (length clause)
are_put old new clause place is arranged =
    search (arith, clauses_at-put, ArePlaces-put, stands_first, length_push, length-append)

pub some-left : (n : ℕ) (items : List Literal) → n ≡ length items → eqb n 0 ≡ false → items ≢ []
some-left n items same e none = true≢false (sym (eq-eqb n 0 (same ∙ ap length none)) ∙ e)

-- one list of clauses behind another, and into more room
pub put_both : (a b c : Blocks) (xs ys : List (List Literal)) (s t : ℕ) → ArePut a b xs s → ArePut b c ys t →
    ArePut a c (xs ++ ys) (s + t)
put_both a b c xs ys s t first second = record {
  clauses = second.clauses ∙ ap (λ cs. cs ++ ys) first.clauses ∙ append_assoc (clauses_of a) xs ys;
  arranged = second.arranged;
  room = λ more most before had. second.room more most before
      (first.room (length ys + more) (t + most) (t + before) (record {
        places = omega (arith, had.places, length-append xs ys);
        literals = omega (arith, had.literals);
        starts = omega (arith, had.starts);
      }));
}

pub put_less : (a b : Blocks) (xs : List (List Literal)) (s t : ℕ) → s ≤ t → ArePut a b xs s → ArePut a b xs t
put_less a b xs s t le put = record {
  clauses = put.clauses;
  arranged = put.arranged;
  room = λ more most before had. put.room more most before (record {
    places = had.places;
    literals = omega (arith, had.literals, le);
    starts = omega (arith, had.starts, le);
  });
}
