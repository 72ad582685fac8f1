use Rattle.std.proofs.Common.{◌≡◌, ◌∙◌, ◌+◌, ◌*◌, length, ap, sym, Some, arith}
use Rattle.dq_lits.specs.Literal.{variable_of}
use Rattle.cert_text.specs.Pairs.{is_pair_number}
use Rattle.hint_log.specs.Entries.{name_of}
use Rattle.hint_log.specs.declared.names.Name.TheVariants.{Pair}
use Rattle.refutation_checker.specs.Refutation.{normal_number}
use Rattle.cert_export.specs.Expansion.{rows_among, pair_renaming}
use Rattle.cert_export.specs.Names.{renaming}
use Rattle.cert_export.specs.Pairing.{ArePairNames}
use Rattle.cert_export.proofs.NamedPairs.{pair_at, target_at, pair_right, pair_named}
use Rattle.cert_export.proofs.pairs.Pairs.name_pair.Goals as goal

right_here : (c : goal.In_ok-insert) →
    ArePairNames c.args.self.now.f.now c.args.self.now.log.now.entries c.args.self.now.rounds.now
    (renaming c.insert.new.self)
right_here c =
    let f = c.args.self.now.f.now in
    let entries = c.args.self.now.log.now.entries in
    let rounds = c.args.self.now.rounds.now in
    let rows = rows_among entries rounds in
    let place = c.args.place in
    let v = variable_of c.args.l.now in
    let k = c.in-Pair.round in
    let y = c.in-Pair.existential in
    let named : name_of entries v ≡ Some (Pair k y) = ap (name_of entries) (sym c.var.ensures.value) ∙ c.name.ensures
    ∙ ap Some c.in-Pair.is in
    let known = c.requires.known in
    pair_right f entries rounds (renaming c.args.names.now) (renaming c.insert.new.self) c.var-in-Pair.result
    (place * c.vars.result + y) c.requires.right
    (ap (pair_renaming f entries rounds) c.var-in-Pair.ensures.value
    ∙ target_at f entries rounds place v k y named known
    ∙ ap (λ n. Some (normal_number f rows (place * n + y))) (sym c.vars.ensures.value))
    (ap (λ n. is_pair_number f (length rows) (place * n + y)) c.vars.ensures.value
    ∙ (pair_at f entries rounds place v k y named known).is_pair)
    c.in_ok-insert.ensures.only

pub returns-in_ok-insert-clause-right : goal.returns-in_ok-insert-clause-right
returns-in_ok-insert-clause-right c = right_here c

pub returns-in_ok-insert-clause-named : goal.returns-in_ok-insert-clause-named
returns-in_ok-insert-clause-named c = search (arith, pair_named, right_here)
