use Rattle.std.proofs.Common.{List, refl, sym, ◌∙◌, ap, get_or, arith}
use Rattle.std.proofs.lemmas.List.Sorted.{IsNonDecreasingBy-from_sort, Contains-permutation}
use Rattle.dq_lits.specs.Literal.{variable_of}
use Rattle.learning_trail.specs.declared.notes.Mark.{Mark}
use Rattle.learning_trail.specs.declared.notes.Mark.TheVariants.{Clear}
use Rattle.learning_trail.specs.Marks.{marked}
use Rattle.learning_trail.specs.Noting.{Noted, is_marked}
use Rattle.learning_trail.proofs.TouchedMarks.{mark_shown}
use Rattle.learning_trail.proofs.notes.Notes.list_places.Goals as goal

pub returns-clause-sorted : goal.returns-clause-sorted
returns-clause-sorted c = search (arith, IsNonDecreasingBy-from_sort)

pub returns-clause-covered : goal.returns-clause-covered
returns-clause-covered c = λ at l h on.
    let inside = c.self.inside in
    let v = variable_of l in
    let here = sym (mark_shown inside.marks.items v) ∙ ap (λ (n : Noted). marked n.marks v) c.self.view_is ∙ on in
    Contains-permutation c.list.new.places.items c.sort_unstable.new.self.items at c.sort_unstable.ensures.permutation
    (c.in_ok-list.ensures at v l h refl (ap (λ (ms : List Mark). is_marked (get_or ms v Clear)) c.deref.ensures.value
    ∙ here))
