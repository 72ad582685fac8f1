use Rattle.std.proofs.Common.{◌≡◌, ◌-◌, ◌==◌, ℕ, List, Some, slice_get, length, Contains, sym, ◌∙◌, ap, arith}
use Rattle.std.proofs.lemmas.Bool.{false≢true}
use Rattle.std.proofs.lemmas.Option.{slice_get_within, get_or_from_slice_get}
use Rattle.dq_lits.proofs.Truth.{same_literal-sound}
use Rattle.cdcl_core.proofs.VisitedClauses.{read_watch}
use Rattle.cdcl_core.proofs.clauses.is_noted.Goals as goal

last_stands : (xs : List ℕ) (x : ℕ) → Some x ≡ slice_get xs (length xs - 1) → Contains xs x
last_stands xs x is = search (arith, slice_get_within, get_or_from_slice_get)

pub overflow_sub-id : goal.overflow_sub-id
overflow_sub-id c = (c.requires c.in-Some.id.now (last_stands c.args.short.now c.in-Some.id.now c.in-Some.ensures.value)).0

pub index-requires : goal.index-requires
index-requires c =
    let r = c.requires c.in-Some.id.now (last_stands c.args.short.now c.in-Some.id.now c.in-Some.ensures.value) in
    let low = r.0 in
    let high = r.1 in
    omega (arith, low, high)

pub returns-then-not-is_empty : goal.returns-then-not-is_empty
returns-then-not-is_empty c = λ e.
    let id = c.in-Some.id.now in
    let stands = last_stands c.args.short.now id c.in-Some.ensures.value in
    let r = c.requires id stands in
    let low = r.0 in
    let high = r.1 in (
      λ n. false≢true (sym c.if-not-is_empty.true ∙ c.is_empty.ensures ∙ ap (λ xs. length xs == 0) n),
      (
        id,
        stands,
        sym (read_watch c.args.first.now.literals.items (id - 1) c.index.result.now (omega (arith, low, high)) c.index.ensures)
            ∙ same_literal-sound c.index.result.now c.args.l (sym c.eq.ensures ∙ e),
      ),
    )
