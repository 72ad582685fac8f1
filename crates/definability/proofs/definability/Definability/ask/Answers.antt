use Rattle.std.proofs.Common.{◌∙◌, Ok, sym, ap, arith}
use Rattle.dq_formula.specs.Prefix.{existential_variables}
use Rattle.definability.proofs.FreePairs.{apart_pair}
use Rattle.definability.proofs.SearchAnswers.{copies_told, flags_told}
use Rattle.definability.proofs.definability.Definability.ask.Goals as goal

pub pair-requires-clause-first_universals : goal.pair-requires-clause-first_universals
pair-requires-clause-first_universals g c =
    search (
      arith,
      (flags_told c.search.new.log.entries 1 c.args.self.now.copied.items c.args.question.now.f.now.universals c.args.self.now.first.universals.items (g.O.Oracle.HasVariable c.search.new.oracle) c.search.ensures.searched.copied.first.universals),
    )

pub pair-requires-clause-first_long : goal.pair-requires-clause-first_long
pair-requires-clause-first_long g c = c.requires.others ∙ sym c.requires.definability.first.universals.long

pub pair-requires-clause-first_existentials : goal.pair-requires-clause-first_existentials
pair-requires-clause-first_existentials g c =
    copies_told c.search.new.log.entries 1 (existential_variables c.args.question.now.f.now)
    c.args.self.now.first.existentials.items (g.O.Oracle.HasVariable c.search.new.oracle)
    c.search.ensures.searched.copied.first.existentials (λ v named. g.met.O.Oracle.made c.search.new.oracle
    c.search.new.log v
    c.search.ensures.fit named)

pub pair-requires-clause-second_universals : goal.pair-requires-clause-second_universals
pair-requires-clause-second_universals g c =
    search (
      arith,
      (flags_told c.search.new.log.entries 2 c.args.self.now.copied.items c.args.question.now.f.now.universals c.args.self.now.second.universals.items (g.O.Oracle.HasVariable c.search.new.oracle) c.search.ensures.searched.copied.second.universals),
    )

pub pair-requires-clause-second_long : goal.pair-requires-clause-second_long
pair-requires-clause-second_long g c = c.requires.others ∙ sym c.requires.definability.second.universals.long

pub pair-requires-clause-second_existentials : goal.pair-requires-clause-second_existentials
pair-requires-clause-second_existentials g c =
    copies_told c.search.new.log.entries 2 (existential_variables c.args.question.now.f.now)
    c.args.self.now.second.existentials.items (g.O.Oracle.HasVariable c.search.new.oracle)
    c.search.ensures.searched.copied.second.existentials (λ v named. g.met.O.Oracle.made c.search.new.oracle
    c.search.new.log v
    c.search.ensures.fit named)

pub returns-clause-answer : goal.returns-clause-answer
returns-clause-answer g c =
    let question = c.args.question.now in
    let es = c.search.new.log.entries in
    let definability = c.search.ensures.searched.copied in
    let logged = (g.met.O.Oracle.searched c.search.new.oracle c.search.new.log c.search.ensures.fit).logged in
    apart_pair question.f.now question.places.now question.y question.conditions.now c.args.self.now
    question.others.now c.in_ok-asked.asked
    es (g.O.Oracle.values c.search.new.oracle) c.in_ok-pair-in-Sat.pair
    c.requires.formula (λ v w name a b. c.names_are_unique.ensures es v w name logged a b) definability c.requires.posed
    (c.in_ok-asked.ensures es definability)
    (c.search.ensures.sat (c.in_ok-id.was ∙ ap Ok c.in-Sat.is)) c.in_ok-pair-in-Sat.ensures
