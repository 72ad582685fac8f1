use Rattle.learning_trail.proofs.notes.Notes.unmark.Goals as goal

pub invariant_of-self : goal.invariant_of-self
invariant_of-self c = c.take_mark.ensures.touched c.self.inside.touched.items c.self.invariant
