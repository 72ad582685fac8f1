use Rattle.std.proofs.Common.{◌≡◌, ◌∙◌, ◌+◌, take, length, slice_index, ap, sym, subst, arith}
use Rattle.std.proofs.lemmas.List.{get_or_default}
use Rattle.std.proofs.lemmas.List.Elements.{Contains-get_or}
use Rattle.list_laws.proofs.Results.{on_ok}
use Rattle.cert_export.specs.Names.{renaming}
use Rattle.cert_export.specs.Written.{WrittenLines, IsWritten}
use Rattle.cert_export.specs.Lines.{derived_ids, line_number}
use Rattle.cert_export.proofs.WrittenLines.{hints_there, places_before, line_consistent, written_line}
use Rattle.cert_export.proofs.written.Written.add.Goals as goal

pub add_line-requires-clause-there : goal.add_line-requires-clause-there
add_line-requires-clause-there g c = search (arith, hints_there, get_or_default)

pub add_line-requires-clause-earlier : goal.add_line-requires-clause-earlier
add_line-requires-clause-earlier g c =
    let ids = c.args.source.now.ids.now in
    let i = c.args.place in
    let id = slice_index ids i in
    let hints = c.hints.result.now in
    places_before (renaming c.args.source.now.names.now) (g.B.Ground.ids c.args.source.now.base.now)
    (g.B.Ground.Knows c.args.source.now.base.now) c.args.source.now.log.now.entries ids c.requires.can i id
    c.requires.place
    (get_or_default ids i 0 id c.requires.place) c.args.self.now
    (line_number c.args.source.now.last (derived_ids c.args.source.now.log.now.entries ids)) c.requires.so_far hints
    c.hints.ensures.value
    (λ k d b. (c.hints.ensures.earlier _ (Contains-get_or hints k d b)).1)

pub add_line-requires-clause-consistent : goal.add_line-requires-clause-consistent
add_line-requires-clause-consistent g c =
    let ids = c.args.source.now.ids.now in
    let i = c.args.place in
    let id = slice_index ids i in
    line_consistent (renaming c.args.source.now.names.now) (g.B.Ground.ids c.args.source.now.base.now)
    (g.B.Ground.Knows c.args.source.now.base.now) c.args.source.now.log.now.entries ids c.requires.can i id
    c.requires.place
    (get_or_default ids i 0 id c.requires.place) c.deref-in-None.result.now c.clause.result.now c.hints.result.now
    (c.origin.ensures ∙ c.in-None.is) c.clause.ensures c.hints.ensures.value
    (c.deref-in-None.ensures.value ∙ c.in_ok-clause.ensures)

pub returns : goal.returns
returns g c =
    let ids = c.args.source.now.ids.now in
    let i = c.args.place in
    let id = slice_index ids i in
    let entries = c.args.source.now.log.now.entries in
    let hints = c.hints.result.now in
    let clause = c.deref-in-None.result.now in
    let r = renaming c.args.source.now.names.now in
    let base_id = g.B.Ground.ids c.args.source.now.base.now in
    let number = c.args.source.now.last + c.len.result + 1 in
    let steps : c.len.result ≡ length c.args.self.now.steps =
    c.len.ensures.value ∙ ap (λ (w : WrittenLines). length w.steps) c.self.view_is in
    on_ok c.add_line.result (λ is. subst (IsWritten r base_id entries
    (line_number c.args.source.now.last (derived_ids entries ids)) (take (i + 1) ids)) (sym is)
    (written_line r base_id (g.B.Ground.Knows c.args.source.now.base.now) entries ids c.requires.can i id
    c.requires.place (get_or_default ids i 0 id c.requires.place) c.args.self.now c.args.source.now.last
    c.requires.so_far
    clause c.clause.result.now hints number (c.origin.ensures ∙ c.in-None.is) c.clause.ensures c.hints.ensures.value
    (λ k d b. (c.hints.ensures.earlier _ (Contains-get_or hints k d b)).1)
    (c.deref-in-None.ensures.value ∙ c.in_ok-clause.ensures) (ap (λ n. c.args.source.now.last + n + 1) steps)))
    c.add_line.ensures
