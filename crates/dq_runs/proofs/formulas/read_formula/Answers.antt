use Rattle.dq_io.specs.State.{state_of}
use Rattle.dqdimacs_reader.specs.Pieces.{StandsFor}
use Rattle.dq_runs.proofs.ReadFormulas.{whole_was_fed, read_of}
use Rattle.dq_runs.proofs.formulas.read_formula.Goals as goal

pub returns-in-Ok-feed_all-clause-read : goal.returns-in-Ok-feed_all-clause-read
returns-in-Ok-feed_all-clause-read g c =
    let files = c.args.files.now in
    let now = c.feed_all.new.files in
    let name = c.args.name.now in
    let whole = whole_was_fed (StandsFor c.new-reader.result) (StandsFor c.feed_all.new.to) (g.F.Files.held files name)
    (g.F.Files.given now) c.feed_all.result
    c.feed_all.ensures.fed c.new-reader.ensures c.in-Ok-feed_all.field-0 c.in-Ok-feed_all.is
    (λ absent. let failed = c.feed_all.ensures.absent absent in let read = c.in-Ok-feed_all.is in cc)
    (λ long. let told = c.in-Ok-feed_all.ensures.too_long.1 long in cc) in
    read_of (state_of g.F.Files files) (state_of g.F.Files now) name c.formula_of.result whole.text whole.read
    (c.formula_of.ensures whole.text whole.stands) c.in-Ok-feed_all.ensures.picked
