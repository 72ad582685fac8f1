use Rattle.std.proofs.Common.{◌≡◌, ◌<◌, length, slice_get, ap, sym, ◌∙◌, refl, arith}
use Rattle.std.proofs.lemmas.Option.{slice_get_read}
use Rattle.std.specs.Map.{values_of}
use Rattle.dq_formula.proofs.ExistentialColumns.{values, as_long}
use Rattle.dq_formula.proofs.existentials.Existentials.set_at.Goals as goal

pub index-requires : goal.index-requires
index-requires c =
    let e = c.self.inside in
    let long = as_long e.variables e.sets.items c.self.invariant in
    let there : c.args.place < length c.args.self.now = c.requires in
    let same = ap length (sym c.self.view_is) in
    omega (arith, long, there, same, c.self.invariant)

pub returns : goal.returns
returns c =
    let e = c.self.inside in
    let column : values_of c.args.self.now ≡ e.sets.items = ap values_of (sym c.self.view_is)
    ∙ values e.variables e.sets.items c.self.invariant in
    let long = as_long e.variables e.sets.items c.self.invariant in
    let there : c.args.place < length c.args.self.now = c.requires in
    let same = ap length (sym c.self.view_is) in
    ap (λ vs. slice_get vs c.args.place) column
    ∙ slice_get_read e.sets.items (length e.sets.items) c.args.place c.index.result.now refl
    (omega (arith, long, there, same, c.self.invariant)) c.index.ensures
