use Rattle.std.proofs.Common.{◌∙◌, refl, true, arith}
use Rattle.list_laws.proofs.Results.{on_err}
use Rattle.repair_loop.proofs.LogGrowth.{log_then}
use Rattle.repair_loop.proofs.Stops.{by_lemma}
use Rattle.repair_loop.proofs.Turned.{ended_by, left_search}
use Rattle.repair_loop.proofs.searches.Search.run_on.Goals as goal

pub find_known-requires-clause-may : goal.find_known-requires-clause-may
find_known-requires-clause-may g c = search arith

pub returns-in_err-known-clause-inputs : goal.returns-in_err-known-clause-inputs
returns-in_err-known-clause-inputs g c = c.find_known.ensures.asked.extends.inputs

pub returns-in_err-known-clause-ended : goal.returns-in_err-known-clause-ended
returns-in_err-known-clause-ended g c =
    let s = c.args.self.now in
    let asked = c.find_known.ensures.asked in
    let left = c.questions_leave_searches.ensures s.f.now c.args.database.now c.args.checker.now s.definability.now s.may_ask c.args.log.now
    c.find_known.new.log asked.grew (λ on. asked.may.definability) c.requires.search.here.way in
    ended_by s.f.now c.args.database.now c.args.database.now c.args.checker.now c.args.checker.now s.definability.now s.may_ask c.args.log.now
    c.find_known.new.log left.0.went

pub returns-in_err-known-clause-way : goal.returns-in_err-known-clause-way
returns-in_err-known-clause-way g c other =
    let s = c.args.self.now in
    let asked = c.find_known.ensures.asked in
    let left = c.questions_leave_searches.ensures s.f.now c.args.database.now c.args.checker.now s.definability.now s.may_ask c.args.log.now
    c.find_known.new.log asked.grew (λ on. asked.may.definability) c.requires.search.here.way in
    left.0.went.way

pub returns-in_err-known-clause-rows : goal.returns-in_err-known-clause-rows
returns-in_err-known-clause-rows g c other =
    let s = c.args.self.now in
    let asked = c.find_known.ensures.asked in
    let left = c.questions_leave_searches.ensures s.f.now c.args.database.now c.args.checker.now s.definability.now s.may_ask c.args.log.now
    c.find_known.new.log asked.grew (λ on. asked.may.definability) c.requires.search.here.way in
    left.0.rows ∙ c.requires.search.here.rows

pub returns-in_err-known-clause-stopped : goal.returns-in_err-known-clause-stopped
returns-in_err-known-clause-stopped g c =
    let s = c.args.self.now in
    let asked = c.find_known.ensures.asked in
    let left = c.questions_leave_searches.ensures s.f.now c.args.database.now c.args.checker.now s.definability.now s.may_ask c.args.log.now
    c.find_known.new.log asked.grew (λ on. asked.may.definability) c.requires.search.here.way in
    record {
      undecided = on_err _ (left.0.undecided refl c.requires.search.here.undecided);
      limit = search (arith, by_lemma);
      rows = λ is. left.0.rows ∙ c.requires.search.here.rows;
    }

pub all_rounds-requires-clause-search : goal.all_rounds-requires-clause-search
all_rounds-requires-clause-search g c =
    let s = c.args.self.now in
    let asked = c.find_known.ensures.asked in
    let left = c.questions_leave_searches.ensures s.f.now c.args.database.now c.args.checker.now s.definability.now s.may_ask c.args.log.now
    c.find_known.new.log asked.grew (λ on. asked.may.definability) c.requires.search.here.way in
    left_search s.f.now c.args.graph.now c.find_known.new.graph c.args.database.now c.args.database.now c.args.checker.now
    c.args.checker.now s.definability.now s.may_ask true c.args.log.now c.find_known.new.log refl left.0 left.1
    (left.0.rows ∙ c.requires.search.here.rows) c.find_known.ensures.asked.extends.inputs c.requires.search

pub returns-clause-inputs : goal.returns-clause-inputs
returns-clause-inputs g c = c.all_rounds.ensures.inputs ∙ c.find_known.ensures.asked.extends.inputs

pub returns-clause-ended : goal.returns-clause-ended
returns-clause-ended g c =
    let s = c.args.self.now in
    let asked = c.find_known.ensures.asked in
    let left = c.questions_leave_searches.ensures s.f.now c.args.database.now c.args.checker.now s.definability.now s.may_ask c.args.log.now
    c.find_known.new.log asked.grew (λ on. asked.may.definability) c.requires.search.here.way in
    let ended = c.all_rounds.ensures.ended in
    record {
      kept = ended.kept;
      new_faults = ended.new_faults;
      database = ended.database;
      grew = log_then c.args.log.now c.find_known.new.log c.all_rounds.new.log left.0.went.grew ended.grew;
    }
