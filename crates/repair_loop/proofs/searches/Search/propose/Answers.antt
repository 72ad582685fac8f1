use Rattle.std.proofs.Common.{◌≡◌, ◌∙◌, true, refl, sym, ap, subst, length, arith}
use Rattle.candidate_functions.specs.Candidates.{AgreeAtPairs, AreDefinitions, AreGuesses}
use Rattle.aig_graph.specs.Outputs.{outputs_of}
use Rattle.expansion.specs.Table.{TableState, point_bits}
use Rattle.known_functions.proofs.Defined.{known_stays}
use Rattle.repair_loop.specs.Searching.{AreBuilt}
use Rattle.repair_loop.proofs.Turned.{left_search}
use Rattle.repair_loop.proofs.searches.Search.propose.Goals as goal

pub force-requires-clause-may : goal.force-requires-clause-may
force-requires-clause-may g c on = search arith

pub force-requires-clause-model : goal.force-requires-clause-model
force-requires-clause-model g c = search arith

pub returns-in_err-force-clause-left : goal.returns-in_err-force-clause-left
returns-in_err-force-clause-left g c checker before =
    let s = c.args.self.now in
    (c.questions_leave_searches.ensures s.f.now c.args.database.now checker s.definability.now s.may_ask c.args.log.now c.force.new.log
    c.force.ensures.left.grew c.force.ensures.left.copied before.here.way).0

pub returns-in_err-outputs-clause-left : goal.returns-in_err-outputs-clause-left
returns-in_err-outputs-clause-left g c checker before =
    let s = c.args.self.now in
    (c.questions_leave_searches.ensures s.f.now c.args.database.now checker s.definability.now s.may_ask c.args.log.now c.force.new.log
    c.force.ensures.left.grew c.force.ensures.left.copied before.here.way).0

pub returns-clause-left : goal.returns-clause-left
returns-clause-left g c checker before =
    let s = c.args.self.now in
    (c.questions_leave_searches.ensures s.f.now c.args.database.now checker s.definability.now s.may_ask c.args.log.now c.force.new.log
    c.force.ensures.left.grew c.force.ensures.left.copied before.here.way).0

pub build-requires-clause-inputs : goal.build-requires-clause-inputs
build-requires-clause-inputs g c = c.requires.search.1.inputs

pub returns-clause-proposed : goal.returns-clause-proposed
returns-clause-proposed g c checker outputs before e =
    let s = c.args.self.now in
    let f = s.f.now in
    let forced = c.force.ensures.left in
    let left = c.questions_leave_searches.ensures f c.args.database.now checker s.definability.now s.may_ask c.args.log.now c.force.new.log
    forced.grew forced.copied before.here.way in
    let next = left_search f c.args.graph.now c.build.new.graph c.args.database.now c.args.database.now checker checker s.definability.now s.may_ask
    true c.args.log.now c.force.new.log refl left.0 left.1 (left.0.rows ∙ before.here.rows)
    c.build.ensures.extends.inputs before in
    let built = c.in_ok-outputs.ensures in
    let same : c.in_ok-outputs.outputs ≡ outputs = cc in
    let definitions = c.force.new.definitions in
    record {
      search = next;
      known = known_stays f definitions.ranks.items c.args.graph.now c.build.new.graph definitions.nodes.items
          definitions.rules.items definitions.guesses.items c.build.ensures.extends (record {
            one_each = ap length forced.nodes ∙ c.requires.known.one_each;
            defined = subst (λ rs. AreDefinitions f rs c.args.graph.now definitions.nodes.items) (sym forced.ranks)
                (subst (AreDefinitions f c.args.known.now.definitions.ranks.items c.args.graph.now) (sym forced.nodes)
                c.requires.known.defined);
            forced = forced.forced;
            guessed = subst (AreGuesses f c.args.graph.now) (sym forced.guesses) c.requires.known.guessed;
          });
      candidates = subst (AreBuilt f c.build.new.graph c.args.database.now.table.rows) same (record {
        one_each = built.one_each;
        are_nodes = built.nodes;
        reads = built.reads;
        candidates = record {
          points = point_bits c.args.points.now;
          are_points = c.requires.model.are_points;
          agree = subst (λ (t : TableState). AgreeAtPairs f t.rows (point_bits c.args.points.now)
              (outputs_of f c.build.new.graph c.in_ok-outputs.outputs)) c.table-2.ensures built.at_pairs;
        };
      });
    }

pub build-requires-clause-definitions : goal.build-requires-clause-definitions
build-requires-clause-definitions g c =
    let f = c.args.self.now.f.now in
    let forced = c.force.ensures.left in
    subst (λ rs. AreDefinitions f rs c.args.graph.now c.deref-3.result.now)
    (sym forced.ranks ∙ sym c.deref-2.ensures.value)
    (subst (AreDefinitions f c.args.known.now.definitions.ranks.items c.args.graph.now)
    (sym forced.nodes ∙ sym c.deref-3.ensures.value) c.requires.known.defined)

pub build-requires-clause-guesses : goal.build-requires-clause-guesses
build-requires-clause-guesses g c =
    subst (AreGuesses c.args.self.now.f.now c.args.graph.now) (sym c.force.ensures.left.guesses
    ∙ sym c.deref-4.ensures.value) c.requires.known.guessed
