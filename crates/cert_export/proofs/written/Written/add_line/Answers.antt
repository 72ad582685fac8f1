use Rattle.std.proofs.Common.{◌<◌, ◌∙◌, ℕ, All, map, length, slice_get, sym, subst}
use Rattle.dq_lits.specs.Literal.{opposite}
use Rattle.cert_export.specs.Written.{WrittenLines, place_in}
use Rattle.cert_export.proofs.Allowed.{cut_all}
use Rattle.cert_export.proofs.written.Written.add_line.Goals as goal

pub numbers_at-requires : goal.numbers_at-requires
numbers_at-requires c =
    let numbers = c.self.inside.numbers.items in
    let P : ℕ → Type 0 = λ p. p < length numbers in
    let before : All P (map (place_in c.args.ids.now) c.args.line.hints.now) =
    subst (λ (w : WrittenLines). All (λ p. p < length w.numbers)
    (map (place_in c.args.ids.now) c.args.line.hints.now)) (sym c.self.view_is) c.requires.earlier in
    let all = cut_all P (slice_get c.self.inside.clauses) (map (place_in c.args.ids.now) c.args.line.hints.now)
    (map opposite c.args.line.lits.now) before in
    let there : All P c.deref-2.result.now = subst (All P) (sym
    (c.deref-2.ensures.value ∙ c.in_ok-places.ensures)) all in
    subst (λ ns. All (λ p. p < length ns) c.deref-2.result.now) (sym c.deref.ensures.value) there
