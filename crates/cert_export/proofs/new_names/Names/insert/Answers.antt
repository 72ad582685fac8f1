use Rattle.std.proofs.Common.{◌∙◌, ◌==◌, refl, eq-eqb, arith}
use Rattle.std.proofs.lemmas.Bool.{or_right}
use Rattle.number_tables.specs.Numbers.{has_number}
use Rattle.cert_export.proofs.NewNames.{has_name}
use Rattle.cert_export.proofs.new_names.Names.insert.Goals as goal

pub returns-then-contains-clause-there : goal.returns-then-contains-clause-there
returns-then-contains-clause-there c = search (arith, has_name)

pub returns-clause-there : goal.returns-clause-there
returns-clause-there c =
    let v = c.args.variable in
    has_name (record { variables = c.insert.new.self; names = c.push.new.self.items }) v
    (c.in_ok-insert.ensures.there v ∙ or_right (has_number c.self.inside.variables v) (v == v) (eq-eqb v v refl))
