use Rattle.rup_core.proofs.AssignedLiterals.{told_only}
use Rattle.rup_core.proofs.trails.Trail.clear.Goals as goal

pub unassign-requires : goal.unassign-requires
unassign-requires c =
    rw (c.deref_mut.ensures.value, c.deref.ensures.value) (told_only c.self.inside.near.items
    c.self.inside.literals.items c.self.invariant.told)
