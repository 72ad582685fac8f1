use Rattle.std.proofs.Common.{◌==◌, ◌∙◌, ap}
use Rattle.std.specs.List.{position_or_len}
use Rattle.definability.specs.Copies.{is_copied_at}
use Rattle.definability.proofs.definability.Definability.has_copies.Goals as goal

pub returns : goal.returns
returns c =
    c.is_copied.ensures ∙ ap (λ fs. is_copied_at fs c.place_of.result) c.deref.ensures.value
    ∙ ap (is_copied_at c.args.self.now.copied.items) (c.place_of.ensures.place
    ∙ ap (λ v. position_or_len (λ u. u == v) c.args.f.now.universals) c.var.ensures.value)
