use Rattle.std.proofs.Common.{◌≡◌, ◌+◌, length, ◌∙◌, subst}
use Rattle.circuit_plain.specs.Netlist.{Netlist, IsNetlist}
use Rattle.circuit_plain.specs.Order.{IsOrder}
use Rattle.skolem_checker.specs.Reads.{HasWords}
use Rattle.skolem_checker.specs.MappingReading.{mapping_in}
use Rattle.skolem_checker.specs.Renaming.{copy_or}
use Rattle.skolem_checker.specs.Tables.{IsLiteralTable, IsMapping}
use Rattle.skolem_checker.proofs.OntoLaws.{IsMapped, mapped}
use Rattle.skolem_checker.proofs.OriginalLaws.{mapping_copied, complete_copied}
use Rattle.skolem_checker.proofs.bench.Bench.new.Goals as goal

pub ordered-requires : goal.ordered-requires
ordered-requires c =
    complete_copied c.args.a.now.circuit c.copy_or-tested.result.now c.renumbered.ensures.kept c.requires.complete
    (c.copy_or-tested.ensures ∙ c.in_ok-copy.ensures.copy)

pub literal_table-requires : goal.literal_table-requires
literal_table-requires c =
    mapping_copied c.args.f.now c.args.a.now.circuit c.copy_or-tested.result.now
    (mapping_in c.in_ok-mapped.mapped) (c.copy_or-tested.ensures ∙ c.in_ok-copy.ensures.copy)
    (subst (IsMapped c.args.f.now c.args.a.now.circuit) c.in_ok-mapped.ensures
    (mapped c.args.f.now c.args.a.now.circuit c.args.a.now.symbols c.requires.well_formed.prefix))

pub place_table-requires : goal.place_table-requires
place_table-requires c =
    mapping_copied c.args.f.now c.args.a.now.circuit c.copy_or-tested.result.now
    (mapping_in c.in_ok-mapped.mapped) (c.copy_or-tested.ensures ∙ c.in_ok-copy.ensures.copy)
    (subst (IsMapped c.args.f.now c.args.a.now.circuit) c.in_ok-mapped.ensures
    (mapped c.args.f.now c.args.a.now.circuit c.args.a.now.symbols c.requires.well_formed.prefix))

pub invariant_of-result : goal.invariant_of-result
invariant_of-result c =
    let is_mapping : IsMapping c.args.f.now c.args.a.now.circuit (mapping_in c.in_ok-mapped.mapped) =
    subst (IsMapped c.args.f.now c.args.a.now.circuit) c.in_ok-mapped.ensures
    (mapped c.args.f.now c.args.a.now.circuit c.args.a.now.symbols c.requires.well_formed.prefix) in
    let same = c.copy_or-tested.ensures in
    record {
      formed = c.requires.well_formed;
      complete = c.requires.complete;
      kept = c.renumbered.ensures.kept;
      mapped = is_mapping;
      copied = c.in_ok-copy.ensures.copy;
      copy_kept = subst IsNetlist same c.row_block.ensures.kept;
      ordered = subst (λ net. IsOrder net c.in_ok-order.order) same c.in_ok-order.ensures;
      tables = record {
        mapped = mapping_copied c.args.f.now c.args.a.now.circuit
            (copy_or c.in_ok-copy.copy c.args.a.now.circuit)
            (mapping_in c.in_ok-mapped.mapped) c.in_ok-copy.ensures.copy is_mapping;
        by_literal = subst (λ net. IsLiteralTable c.args.f.now net (mapping_in c.in_ok-mapped.mapped)
            c.in_ok-literals.literals.items) same c.in_ok-literals.ensures;
        by_place = c.in_ok-places.ensures;
      };
      by_input_is = rw c.deref.ensures.value at c.in_ok-universal_places.ensures;
      has_words = subst (λ net. HasWords net c.args.f.now c.in_ok-words.words) same c.in_ok-words.ensures;
      a_value_a_variable = λ few. subst (λ (net : Netlist). length c.in_ok-values.values ≡ net.max_var + 1) same
          (c.in_ok-values.ensures.ok few);
    }
