use Rattle.definability.proofs.definability.Definability.follow.Goals as goal

pub sides_of-requires : goal.sides_of-requires
sides_of-requires g c = c.requires.standing.2.live.from_one
