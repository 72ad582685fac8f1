use Rattle.std.proofs.Common.{length, sym, ◌∙◌, ap}
use Rattle.dq_lits.proofs.Packed.{length-unpacked}
use Rattle.dq_lits.proofs.rows.Row.len.Goals as goal

pub returns : goal.returns
returns c = sym (length-unpacked c.self.inside.len c.self.inside.words.items) ∙ ap length c.self.view_is
