use Rattle.std.proofs.Common.{arith}
use Rattle.skolem_checker.specs.MappingReading.{mapping_in}
use Rattle.skolem_checker.proofs.BenchLaws.{input_keys, output_keys, literal_table}
use Rattle.skolem_checker.proofs.tables.literal_table.Goals as goal

pub write_at-requires-clause-in_range : goal.write_at-requires-clause-in_range
write_at-requires-clause-in_range c =
    rw c.deref.ensures.value (λ k d below.
    omega (
      arith,
      input_keys c.args.f.now c.args.circuit.now (mapping_in c.args.mapped.now) c.every_formula_is_lawful.ensures.prefix
          c.requires k d below,
      c.in_ok-literals.ensures,
      c.vars.ensures.value,
    ))

pub write_at-requires-2-clause-in_range : goal.write_at-requires-2-clause-in_range
write_at-requires-2-clause-in_range c =
    rw c.deref-3.ensures.value (λ k d below.
    omega (
      arith,
      output_keys c.args.f.now c.args.circuit.now (mapping_in c.args.mapped.now)
          c.every_formula_is_lawful.ensures.prefix c.requires k d below,
      c.in_ok-literals.ensures,
      c.vars.ensures.value,
      c.write_at.ensures.same_length,
    ))

pub returns : goal.returns
returns c =
    literal_table c.args.f.now c.args.circuit.now (mapping_in c.args.mapped.now) c.in_ok-inputs.inputs.items
    c.write_at.new.table.items c.write_at-2.new.table.items
    c.every_formula_is_lawful.ensures.prefix c.requires
    (omega (
      arith,
      c.in_ok-literals.ensures,
      c.vars.ensures.value,
      c.write_at.ensures.same_length,
      c.write_at-2.ensures.same_length,
    ))
    c.in_ok-inputs.ensures
    (rw c.deref.ensures.value at (rw c.deref-2.ensures.value at c.write_at.ensures.written))
    (rw c.deref-3.ensures.value at (rw c.outputs.ensures at c.write_at-2.ensures.written))
    (rw c.deref-3.ensures.value at c.write_at-2.ensures.elsewhere)
