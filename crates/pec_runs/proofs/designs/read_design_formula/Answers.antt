use Rattle.std.proofs.Common.{ℕ, List, subst}
use Rattle.dq_io.specs.State.{state_of}
use Rattle.pec_runs.specs.TextFiles.{IsReadBehind}
use Rattle.pec_runs.proofs.TwoFiles.{read-both}
use Rattle.pec_runs.proofs.designs.read_design_formula.Goals as goal

pub returns-clause-read : goal.returns-clause-read
returns-clause-read g c =
    let before = state_of g.F.Files c.args.files.now in
    let mid = state_of g.F.Files c.read_text.new.files in
    let now = state_of g.F.Files c.read_behind.new.files in
    let read = c.in_ok-spec.ensures in
    read-both before mid now c.args.spec.now c.args.imp.now c.in_ok-spec.spec.items c.read_behind.result
    (record {
      held = read.held;
      reliable = read.still_reliable;
      picked = read.read.1;
      unfaulted = read.unfaulted (λ none. none);
    })
    read.read.0
    (subst (λ (text : List ℕ). IsReadBehind mid now text c.args.imp.now c.read_behind.result) c.deref.ensures.value
    c.read_behind.ensures.read)
