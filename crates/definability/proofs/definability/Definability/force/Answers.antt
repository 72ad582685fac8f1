use Rattle.std.proofs.Common.{◌≡◌, ◌<◌, false, length, Ok, sym, ◌∙◌, ap, subst, arith}
use Rattle.std.specs.List.{All}
use Rattle.dq_lits.specs.Derivation.{is_tautology}
use Rattle.dq_lits.specs.Literal.{variable_of}
use Rattle.dq_formula.specs.Prefix.{existential_variables}
use Rattle.hint_log.specs.Entries.{name_of}
use Rattle.definability.specs.Dividing.{AreBits, AreTold, values_at}
use Rattle.definability.specs.Ruling.{AreFirstCopies, IsLiteralName}
use Rattle.definability.proofs.SearchAnswers.{existential_declared, copies_told, flags_told}
use Rattle.definability.proofs.MetConditions.{existential_has_copies}
use Rattle.definition_order.proofs.Declared.{some_existential}
use Rattle.definability.proofs.ForcedBits.{seen_within, copies_asked, apart_asked, names_shown, rule_shown, loose_shown}
use Rattle.definability.proofs.definability.Definability.force.Goals as goal

pub copied_variable-requires-clause-bound : goal.copied_variable-requires-clause-bound
copied_variable-requires-clause-bound g c = existential_declared c.args.f.now c.args.y c.requires.existential

pub row_copies-requires-clause-row : goal.row_copies-requires-clause-row
row_copies-requires-clause-row g c =
    let f = c.args.f.now in
    let n = length c.args.row.now in
    some_existential f c.args.y (All (λ p. p < n) c.deref.result.now) c.requires.existential (λ e found.
    subst (All (λ p. p < n)) (sym c.deref.ensures.value) (seen_within f e.sees c.args.self.now.copied.items c.in_ok-places.places.items n
    (c.in_ok-places.ensures e found) c.requires.row))

pub row_copies-requires-clause-copies : goal.row_copies-requires-clause-copies
row_copies-requires-clause-copies g c =
    let f = c.args.f.now in
    let lits = c.args.self.now.first.universals.items in
    some_existential f c.args.y (All (λ p. p < length lits) c.deref.result.now) c.requires.existential (λ e found.
    subst (All (λ p. p < length lits)) (sym c.deref.ensures.value)
    (seen_within f e.sees c.args.self.now.copied.items c.in_ok-places.places.items (length lits)
    (c.in_ok-places.ensures e found) c.requires.definability.first.universals.long))

pub search_first-requires-clause-copies : goal.search_first-requires-clause-copies
search_first-requires-clause-copies g c =
    let f = c.args.f.now in
    let p = c.args.self.now in
    let es = c.args.log.now.entries in
    some_existential f c.args.y (AreFirstCopies es c.deref-2.result.now) c.requires.existential (λ e found.
    copies_asked f c.every_formula_is_lawful.ensures c.args.y e found p c.args.row.now c.args.bit
    c.in_ok-places.places.items c.deref.result.now c.copied_variable.result c.signed-own.result
    c.deref-2.result.now (c.in_ok-places.ensures e found) c.deref.ensures.value c.signed-own.ensures
    (c.deref-2.ensures.value ∙ c.in_ok-asked.ensures) es c.requires.definability
    (c.copied_variable.ensures es 1 p.copied.items c.requires.definability.first.universals
    c.requires.definability.first.existentials (existential_has_copies f c.every_formula_is_lawful.ensures p.copied.items
    c.args.y c.requires.definability.as_many_flags c.requires.existential)))

pub search_first-requires-clause-apart : goal.search_first-requires-clause-apart
search_first-requires-clause-apart g c =
    let f = c.args.f.now in
    let p = c.args.self.now in
    let es = c.args.log.now.entries in
    some_existential f c.args.y (is_tautology c.deref-2.result.now ≡ false) c.requires.existential (λ e found.
    apart_asked f c.every_formula_is_lawful.ensures c.args.y e found p c.args.row.now c.args.bit
    c.in_ok-places.places.items c.deref.result.now c.copied_variable.result c.signed-own.result
    c.deref-2.result.now (c.in_ok-places.ensures e found) c.deref.ensures.value c.signed-own.ensures
    (c.deref-2.ensures.value ∙ c.in_ok-asked.ensures) es c.requires.definability
    (c.copied_variable.ensures es 1 p.copied.items c.requires.definability.first.universals
    c.requires.definability.first.existentials (existential_has_copies f c.every_formula_is_lawful.ensures p.copied.items
    c.args.y c.requires.definability.as_many_flags c.requires.existential)))

pub cube-requires-clause-id : goal.cube-requires-clause-id
cube-requires-clause-id g c = (c.search_first.ensures.unsat c.in-Unsat.id (c.in_ok-id.was ∙ ap Ok c.in-Unsat.is)).is_id

pub cube-requires-clause-names : goal.cube-requires-clause-names
cube-requires-clause-names g c = λ clause is.
    let f = c.args.f.now in
    let p = c.args.self.now in
    let es = c.search_first.new.log.entries in
    let definability = c.search_first.ensures.searched.copied in
    some_existential f c.args.y (All (λ l. IsLiteralName (name_of es (variable_of l))) clause) c.requires.existential
    (λ e found.
    names_shown f c.every_formula_is_lawful.ensures c.args.y e found p c.args.row.now c.args.bit
    c.in_ok-places.places.items c.deref.result.now c.copied_variable.result c.signed-own.result
    c.deref-2.result.now (c.in_ok-places.ensures e found) c.deref.ensures.value c.signed-own.ensures
    (c.deref-2.ensures.value ∙ c.in_ok-asked.ensures) es definability
    (c.copied_variable.ensures es 1 p.copied.items definability.first.universals definability.first.existentials
    (existential_has_copies f c.every_formula_is_lawful.ensures p.copied.items c.args.y definability.as_many_flags
    c.requires.existential)) c.in-Unsat.id
    (c.search_first.ensures.unsat c.in-Unsat.id (c.in_ok-id.was ∙ ap Ok c.in-Unsat.is)) clause is)

pub returns-in-Unsat-clause-forced : goal.returns-in-Unsat-clause-forced
returns-in-Unsat-clause-forced g c = λ e found.
    let f = c.args.f.now in
    let p = c.args.self.now in
    let es = c.search_first.new.log.entries in
    let definability = c.search_first.ensures.searched.copied in
    rule_shown f c.every_formula_is_lawful.ensures c.args.y e found p c.args.row.now c.args.bit
    c.in_ok-places.places.items c.deref.result.now c.copied_variable.result c.signed-own.result
    c.deref-2.result.now (c.in_ok-places.ensures e found) c.deref.ensures.value c.signed-own.ensures
    (c.deref-2.ensures.value ∙ c.in_ok-asked.ensures) es definability
    (c.copied_variable.ensures es 1 p.copied.items definability.first.universals definability.first.existentials
    (existential_has_copies f c.every_formula_is_lawful.ensures p.copied.items c.args.y definability.as_many_flags
    c.requires.existential)) c.in-Unsat.id
    (c.search_first.ensures.unsat c.in-Unsat.id (c.in_ok-id.was ∙ ap Ok c.in-Unsat.is))
    c.in_ok-cube-in-Unsat.cube c.in_ok-cube-in-Unsat.ensures

pub row_of_copies-requires-clause-made : goal.row_of_copies-requires-clause-made
row_of_copies-requires-clause-made g c =
    let lits = c.args.self.now.first.universals.items in
    let has = g.O.Oracle.HasVariable c.search_first.new.oracle in
    let flags = c.args.self.now.copied.items in
    subst (λ fs. AreTold has fs c.deref-in-Sat.result.now) (sym c.deref-in-Sat-2.ensures.value)
    (subst (AreTold has flags) (sym c.deref-in-Sat.ensures.value)
    (flags_told c.search_first.new.log.entries 1 flags c.args.f.now.universals lits has
    c.search_first.ensures.searched.copied.first.universals
    (λ v named. g.met.O.Oracle.made c.search_first.new.oracle c.search_first.new.log v
    c.search_first.ensures.fit named)))

pub row_of_copies-requires-clause-long : goal.row_of_copies-requires-clause-long
row_of_copies-requires-clause-long g c = search arith

pub row_of_values-requires-clause-made : goal.row_of_values-requires-clause-made
row_of_values-requires-clause-made g c =
    let lits = c.args.self.now.first.existentials.items in
    let has = g.O.Oracle.HasVariable c.search_first.new.oracle in
    subst (All (λ l. has (variable_of l))) (sym c.deref-in-Sat-3.ensures.value)
    (copies_told c.search_first.new.log.entries 1 (existential_variables c.args.f.now) lits has
    c.search_first.ensures.searched.copied.first.existentials
    (λ v named. g.met.O.Oracle.made c.search_first.new.oracle c.search_first.new.log v
    c.search_first.ensures.fit named))

pub returns-clause-forced : goal.returns-clause-forced
returns-clause-forced g c = λ e found.
    let f = c.args.f.now in
    let p = c.args.self.now in
    let es = c.search_first.new.log.entries in
    let definability = c.search_first.ensures.searched.copied in
    let values = g.O.Oracle.values c.search_first.new.oracle in
    let logged = (g.met.O.Oracle.searched c.search_first.new.oracle c.search_first.new.log
    c.search_first.ensures.fit).logged in
    loose_shown f c.every_formula_is_lawful.ensures c.args.y e found p c.args.row.now c.args.bit
    c.in_ok-places.places.items c.deref.result.now c.copied_variable.result c.signed-own.result
    c.deref-2.result.now (c.in_ok-places.ensures e found) c.deref.ensures.value c.signed-own.ensures
    (c.deref-2.ensures.value ∙ c.in_ok-asked.ensures) es definability
    (c.copied_variable.ensures es 1 p.copied.items definability.first.universals definability.first.existentials
    (existential_has_copies f c.every_formula_is_lawful.ensures p.copied.items c.args.y definability.as_many_flags
    c.requires.existential)) c.requires.formula
    (λ v w name a b. c.names_are_unique.ensures es v w name logged a b) values
    (c.search_first.ensures.sat (c.in_ok-id.was ∙ ap Ok c.in-Sat.is)) c.in_ok-row-in-Sat.row
    c.in_ok-values-in-Sat.values
    (subst (λ fs. AreBits values fs c.args.row.now p.first.universals.items c.in_ok-row-in-Sat.row)
    c.deref-in-Sat-2.ensures.value
    (subst (λ ls. AreBits values c.deref-in-Sat-2.result.now c.args.row.now ls c.in_ok-row-in-Sat.row)
    c.deref-in-Sat.ensures.value c.in_ok-row-in-Sat.ensures))
    (c.in_ok-values-in-Sat.ensures ∙ ap (values_at values) c.deref-in-Sat-3.ensures.value)
