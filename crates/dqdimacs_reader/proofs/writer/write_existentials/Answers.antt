use Rattle.std.proofs.Common.{arith}
use Rattle.dq_formula.specs.Prefix.{unseeing}
use Rattle.dqdimacs_reader.specs.Canonical.{existential_text}
use Rattle.dqdimacs_reader.proofs.ExistentialPlaces.{existential_at, named_in, is_of, one_more}
use Rattle.dq_formula.proofs.Places.{existential_below}
use Rattle.dqdimacs_reader.proofs.writer.write_existentials.Goals as goal

pub write_existential-requires : goal.write_existential-requires
write_existential-requires c = search (arith, named_in)

pub loop-i-preserved : goal.loop-i-preserved
loop-i-preserved c =
    let f = c.args.f.now in
    let i = c.loop-i.i in
    let vars = c.existentials-existentials.result.now in
    let named = named_in f vars i c.every_formula_is_lawful.ensures.named c.existentials-existentials.ensures
    c.loop-i-test.true in
    let is = is_of f vars i c.existentials-existentials.ensures c.loop-i-test.true in
    let grown = c.in_ok-write_existential.ensures (existential_at f i) named is in
    one_more (existential_text f.universals) f.existentials i
    (unseeing 0) c.loop-i.text.items c.write_existential.new.text.items
    _ (existential_below f vars i c.existentials-existentials.ensures c.loop-i-test.true) grown c.loop-i.invariant
