use Rattle.std.proofs.Common.{◌∙◌, refl, sym, ap, subst, arith, None}
use Rattle.std.proofs.lemmas.List.{length-set}
use Rattle.dq_lits.specs.Literal.{opposite}
use Rattle.dq_lits.specs.Derivation.{holds}
use Rattle.learning_trail.specs.Steps.{literals_of}
use Rattle.cdcl_core.specs.declared.watches.Watches.{Watches}
use Rattle.cdcl_core.specs.Chains.{has, place_of, with_open}
use Rattle.cdcl_core.specs.Visits.{IsVisited, IsListVisited}
use Rattle.cdcl_core.proofs.GuardedClauses.{among_grown}
use Rattle.cdcl_core.proofs.LinkedLists.{has_first, open_fits, taken_none}
use Rattle.cdcl_core.proofs.VisitedClauses.{first_left, has_open, visiting_first, visiting_end, visiting_next, visiting_conflict, fewer_left}
use Rattle.cdcl_core.proofs.propagation.visit_list.Goals as goal

pub returns-then-not-has_list : goal.returns-then-not-has_list
returns-then-not-has_list c =
    let a = c.args in
    let w = a.these.now in
    visiting_end a.arena.now.clauses a.trail.now a.trail.now w w a.others.now a.l 0
    (visiting_first a.arena.now.clauses a.trail.now w w a.others.now a.l 0 c.requires.visitable
    (taken_none w a.l (c.if-not-has_list.ensures.none refl) c.requires.linked) refl refl) refl

pub visits-init : goal.visits-init
visits-init c = search (arith, visiting_first, length-set)

pub close-requires-clause-fits : goal.close-requires-clause-fits
close-requires-clause-fits c = search (arith, open_fits)

pub returns-then-at-eq0 : goal.returns-then-at-eq0
returns-then-at-eq0 c =
    let a = c.args in
    subst (λ (w : Watches). IsListVisited a.arena.now.clauses a.trail.now c.visits.trail a.these.now w a.others.now a.l
    None) (sym c.close.ensures)
    (visiting_end a.arena.now.clauses a.trail.now c.visits.trail a.these.now (with_open c.visits.these c.visits.list)
    a.others.now a.l c.visits.at c.visits.invariant.visiting c.if-at-eq0.true)

pub visit-requires-clause-is_id : goal.visit-requires-clause-is_id
visit-requires-clause-is_id c =
    let p = c.visits.invariant.visiting in
    let f = first_left (with_open c.visits.these c.visits.list) c.visits.at p.rest p.linked c.if-at-eq0.false in
    let high = f.is_id in
    omega (arith, high, p.linked.links.count, p.visitable.count)

pub visit-requires-clause-watched : goal.visit-requires-clause-watched
visit-requires-clause-watched c =
    let p = c.visits.invariant.visiting in
    let f = first_left (with_open c.visits.these c.visits.list) c.visits.at p.rest p.linked c.if-at-eq0.false in
    p.watched c.visits.at (ap (λ xs. has xs c.visits.at) f.is ∙ has_first c.visits.at f.later)
    ∙ sym c.visits.invariant.literal

pub visit-requires-clause-false_now : goal.visit-requires-clause-false_now
visit-requires-clause-false_now c =
    among_grown c.args.trail.now.steps c.visits.trail.steps c.visits.invariant.visiting.grown
    (opposite c.visits.list.literal)
    (ap (λ k. holds (literals_of c.args.trail.now.steps) (opposite k)) c.visits.invariant.literal ∙ c.requires.false_now)

pub returns-in-None : goal.returns-in-None
returns-in-None c =
    let a = c.args in
    let p = c.visits.invariant.visiting in
    let now = with_open c.visits.these c.visits.list in
    let new = with_open c.visit.new.these c.visit.new.list in
    let f = first_left now c.visits.at p.rest p.linked c.if-at-eq0.false in
    let visited = subst (λ k. IsVisited a.arena.now.clauses c.visits.trail c.visit.new.trail now new a.others.now k
    c.visits.at c.visit.result) c.visits.invariant.literal c.visit.ensures.visited in
    visiting_conflict a.arena.now.clauses a.trail.now c.visits.trail c.visit.new.trail a.these.now now new a.others.now a.l
    c.visits.at c.visit.result p f visited c.requires.false_now c.put_all_back.new.these c.in-None.is
    c.put_all_back.ensures.linked c.put_all_back.ensures.literals
    (c.put_all_back.ensures.lists
    ∙ sym (length-set c.visit.new.these.heads.items (place_of c.visit.new.list.literal) c.visit.new.list.first))

pub visits-preserved : goal.visits-preserved
visits-preserved c =
    let a = c.args in
    let p = c.visits.invariant.visiting in
    let now = with_open c.visits.these c.visits.list in
    let new = with_open c.visit.new.these c.visit.new.list in
    let f = first_left now c.visits.at p.rest p.linked c.if-at-eq0.false in
    let visited = subst (λ k. IsVisited a.arena.now.clauses c.visits.trail c.visit.new.trail now new a.others.now k
    c.visits.at c.visit.result) c.visits.invariant.literal c.visit.ensures.visited in
    record {
      visiting = visiting_next a.arena.now.clauses a.trail.now c.visits.trail c.visit.new.trail a.these.now now new
          a.others.now a.l c.visits.at c.visit.result p f visited c.requires.false_now c.in-Some.next c.in-Some.is;
      literal = c.visit.ensures.literal ∙ c.visits.invariant.literal;
      list = has_open c.visit.new.these c.visit.new.list a.l (omega (
        arith,
        c.visits.invariant.list,
        visited.lists,
        length-set c.visits.these.heads.items (place_of c.visits.list.literal) c.visits.list.first,
      ));
    }

pub visits-smaller : goal.visits-smaller
visits-smaller c =
    let a = c.args in
    let p = c.visits.invariant.visiting in
    let now = with_open c.visits.these c.visits.list in
    let new = with_open c.visit.new.these c.visit.new.list in
    let f = first_left now c.visits.at p.rest p.linked c.if-at-eq0.false in
    let visited = subst (λ k. IsVisited a.arena.now.clauses c.visits.trail c.visit.new.trail now new a.others.now k
    c.visits.at c.visit.result) c.visits.invariant.literal c.visit.ensures.visited in
    fewer_left a.arena.now.clauses a.trail.now c.visits.trail c.visit.new.trail a.these.now now new a.others.now a.l
    c.visits.at c.visit.result p f visited c.requires.false_now c.in-Some.next c.in-Some.is
