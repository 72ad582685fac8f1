-- What an engine adds for a formula's prefix, without its clauses, it adds for the formula.
use Rattle.std.proofs.Common.{◌≡◌, ℕ, zero, suc, true, List, [], ◌∷◌, length, replicate, Some, refl, sym, ◌∙◌, ap, arith}
use Rattle.std.specs.Option.{option_map}
use Rattle.dq_lits.specs.Literal.{Literal, variable_of}
use Rattle.dq_lits.specs.Formula.{Dqbf, IsWellFormed}
use Rattle.hint_log.specs.Deciding.{DecidesNothing, IsFaultLeaf}
use Rattle.hint_log.specs.Entries.{Entry, Named, Given, Learned, Answer, ProofLog}
use Rattle.hint_log.specs.Growth.{EachOf, Grew}
use Rattle.hint_log.specs.Naming.{numbered_from_one}
use Rattle.hint_log.specs.Origins.{IsRestOf, IsOriginsClause, matrix_literal}
use Rattle.hint_log.specs.ProductiveLog.{IsRightlyNamed}
use Rattle.hint_log.specs.declared.names.Name.{Name}
use Rattle.hint_log.specs.declared.names.Name.TheVariants.{Input}
use Rattle.hint_log.specs.declared.origins.Leaf.{Leaf}
use Rattle.hint_log.specs.declared.origins.Origin.{Origin}
use Rattle.hint_log.specs.declared.origins.Origin.TheVariants.{Fault, Copy, Link, TermGate, Differ}
use Rattle.log_laws.specs.Engines.{copies, origin_engine, IsAddedBy}
use Rattle.definability.specs.Leaving.{ClausesLeaveStores}
use Rattle.definability.specs.Store.{IsCopyStore}
use Rattle.definability.specs.declared.definability.Definability.{Definability}

pub prefix_formed : (f : Dqbf) → IsWellFormed f → IsWellFormed (record f { matrix = [] })
prefix_formed f formed = search arith

no_clause : (j : ℕ) (c : List Literal) → numbered_from_one {X = List Literal} [] j ≡ Some c → ⊥
no_clause zero c is = cc
no_clause (suc j) c is = cc

no_literal : (f : Dqbf) (j i v : ℕ) → option_map variable_of (matrix_literal (record f { matrix = [] }) j i) ≡ Some v → ⊥
no_literal f zero i v is = cc
no_literal f (suc j) i v is = cc

module _ (f : Dqbf) where
  abbrev bare : Dqbf
  bare = record f { matrix = [] }

  named_rightly : (n : Name) → IsRightlyNamed bare n → IsRightlyNamed f n
  named_rightly (Input x) is = is
  named_rightly _ is = tt

  rest_there : (es : List Entry) (group : ℕ) (origin : Origin) (rest : List Literal) →
      origin_engine origin ≡ copies → IsRestOf bare es group origin rest → IsRestOf f es group origin rest
  rest_there es group (Copy side j) rest own is = absurd (no_clause j is.1.clause is.1.clause_is)
  rest_there es group (Link v i) rest own is = is
  rest_there es group (TermGate v i) rest own is = is
  rest_there es group (Differ y leaf part) rest own is = search arith
  rest_there es group _ rest own is = cc

  no_fault : (origin : Origin) (j i : ℕ) (leaf : Leaf) → origin_engine origin ≡ copies → origin ≡ Fault j i leaf → ⊥
  no_fault origin j i leaf own is = let other = sym (ap origin_engine is) ∙ own in cc

  clause_there : (es : List Entry) (origin : Origin) (c : List Literal) → origin_engine origin ≡ copies →
      IsOriginsClause bare es origin c → IsOriginsClause f es origin c
  clause_there es origin c own is = search (arith, rest_there, no_fault)

  no_leaf : (es : List Entry) (hints : List ℕ) (y : _) (leaf : Leaf) → IsFaultLeaf bare es hints y leaf → ⊥
  no_leaf es hints y leaf is = no_literal f is.j is.i y.variable is.own

  nothing_there : (es : List Entry) (c : List Literal) (hints : List ℕ) →
      DecidesNothing bare es (Answer c hints) → DecidesNothing f es (Answer c hints)
  nothing_there es c hints nothing = search (arith, no_leaf)

  each_there : (group : ℕ) (start more old : List Entry) → EachOf (IsAddedBy bare copies group true start) more old →
      EachOf (IsAddedBy f copies group true start) more old
  each_there group start [] old each = tt
  each_there group start (Named v n ∷ more) old each =
      search (arith, named_rightly, (each_there group start more old each.1))
  each_there group start (Given origin c ∷ more) old each =
      search (arith, clause_there, (each_there group start more old each.1))
  each_there group start (Learned c hints ∷ more) old each = (tt, each_there group start more old each.1)
  each_there group start (Answer c hints ∷ more) old each = search (arith, (each_there group start more old each.1))
  each_there group start (_ ∷ more) old each = absurd each.0

  pub added_there : (group : ℕ) (old new : ProofLog) → Grew (IsAddedBy bare copies group true old.entries) old new →
      Grew (IsAddedBy f copies group true old.entries) old new
  added_there group old new grew = search (arith, each_there)

  -- and all its clauses are to come
  pub store_there : ClausesLeaveStores → (p : Definability) (es : List Entry) → IsCopyStore bare [] p es →
      IsCopyStore f (replicate (length f.matrix) 0) p es
  store_there law p es store = law bare [] p es f.matrix (replicate (length f.matrix) 0) refl store
