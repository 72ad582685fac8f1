use Rattle.repair_loop.proofs.searches.Search.first_known.Goals as goal

pub returns-in-Constants-clause-known : goal.returns-in-Constants-clause-known
returns-in-Constants-clause-known c = c.known_constants.ensures _
