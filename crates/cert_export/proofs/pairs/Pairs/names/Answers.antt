use Rattle.std.proofs.Common.{◌+◌, sym, ap, subst, slice_index, is_some, take, arith}
use Rattle.std.proofs.lemmas.List.{get_or_default}
use Rattle.cert_export.specs.Expansion.{rows_among, pair_renaming}
use Rattle.cert_export.specs.Exported.{normal_names}
use Rattle.cert_export.specs.Names.{renaming, NameTable}
use Rattle.cert_export.proofs.GivenNames.{given_here, none_here, known_clause}
use Rattle.cert_export.proofs.NamedPairs.{GivenPairs, one_instance, all_instances}
use Rattle.cert_export.proofs.pairs.Pairs.names.Goals.{in-Some+in_ok-name_instance, in_default}
use Rattle.cert_export.proofs.pairs.Pairs.names.Goals as goal

pub name_instance-requires-clause-known : goal.name_instance-requires-clause-known
name_instance-requires-clause-known c = search (arith, known_clause, get_or_default)

pub loop-id-preserved : goal.loop-id-preserved
loop-id-preserved c =
    let f = c.args.self.now.f.now in
    let entries = c.args.self.now.log.now.entries in
    let rounds = c.args.self.now.rounds.now in
    let target = pair_renaming f entries rounds in
    let ids = c.args.ids.now in
    let i = c.loop-id.id-index in
    let id = slice_index ids i in
    let old = renaming c.loop-id.names in
    let P : NameTable → Type 0 = λ t. GivenPairs f entries rounds (renaming t) (take (i + 1) ids) in
    let is = get_or_default ids i 0 id c.loop-id-test.true in
    elim c.match-origin.branch [
      | in-Some+in_ok-name_instance w ↦ (
          let new = renaming w.name_instance.new.names in
          subst P (sym w.names-is) (one_instance f entries rounds old new ids i id c.loop-id.invariant
          w.in_ok-name_instance.ensures.kept w.in_ok-name_instance.ensures.named.names c.loop-id-test.true is
          (given_here target entries (normal_names f (rows_among entries rounds) new) id w.clause.result.now
          w.clause.ensures w.in_ok-name_instance.ensures.named.named)))
      | in_default w ↦
          subst P (sym w.names-is) (one_instance f entries rounds old old ids i id c.loop-id.invariant
          (λ v x h. h) c.loop-id.invariant.names c.loop-id-test.true is
          (none_here target entries (normal_names f (rows_among entries rounds) old) id
          (ap is_some w.in_default.ensures)))
    ]

pub returns : goal.returns
returns c = all_instances c.args.self.now.f.now c.args.self.now.log.now.entries c.args.self.now.rounds.now
    (renaming c.loop-id.names) c.args.ids.now c.loop-id.id-index c.loop-id-test.false c.loop-id.invariant
