use Rattle.std.proofs.Common.{[]}
use Rattle.dqdimacs_reader.proofs.reader.read.Goals as goal

pub returns-clause-exact : goal.returns-clause-exact
returns-clause-exact c = c.end.ensures.exact c.args.bytes.now (c.feed.ensures.stands [] c.new-reader.ensures)

pub returns-clause-spelled : goal.returns-clause-spelled
returns-clause-spelled c = c.end.ensures.spelled c.args.bytes.now (c.feed.ensures.stands [] c.new-reader.ensures)

pub returns-clause-well_formed : goal.returns-clause-well_formed
returns-clause-well_formed c = c.end.ensures.well_formed c.args.bytes.now (c.feed.ensures.stands [] c.new-reader.ensures)

pub returns-clause-distinct : goal.returns-clause-distinct
returns-clause-distinct c = c.end.ensures.distinct c.args.bytes.now (c.feed.ensures.stands [] c.new-reader.ensures)
