use Rattle.std.proofs.Common.{arith}
use Rattle.skolem_checker.specs.MappingReading.{mapping_in}
use Rattle.skolem_checker.proofs.BenchLaws.{output_keys}
use Rattle.skolem_checker.proofs.tables.place_table.Goals as goal

pub write_at-requires-clause-in_range : goal.write_at-requires-clause-in_range
write_at-requires-clause-in_range c =
    rw c.deref.ensures.value (λ k d below.
    omega (
      arith,
      output_keys c.args.f.now c.args.circuit.now (mapping_in c.args.mapped.now)
          c.every_formula_is_lawful.ensures.prefix c.requires k d below,
      c.in_ok-places.ensures,
      c.vars.ensures.value,
    ))
