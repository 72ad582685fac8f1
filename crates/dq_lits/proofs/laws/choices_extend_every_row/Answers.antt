use Rattle.dq_lits.proofs.Followers.{follower, follower_keeps_universals, follower_follows}
use Rattle.dq_lits.proofs.laws.choices_extend_every_row.Goals as goal

pub returns : goal.returns
returns c f choice m lawful =
    (follower f choice m, follower_keeps_universals f lawful choice m, follower_follows f lawful choice m)
