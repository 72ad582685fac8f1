use Rattle.std.proofs.Common.{◌∙◌, ap}
use Rattle.hint_log.specs.Entries.{ProofLog}
use Rattle.definability.specs.Copies.{group_variable}
use Rattle.definition_proofs.proofs.GivenDifferences.{group_grew, group_alone, group_leaves, undiffered_still}
use Rattle.definition_proofs.proofs.differing.Difference.give.Goals as goal

pub give_parts-requires-clause-none : goal.give_parts-requires-clause-none
give_parts-requires-clause-none g c =
    undiffered_still c.args.self.now.existential (group_variable c.in_ok-group.group) c.args.log.now.entries
    c.group.new.log.entries (ap (λ (l : ProofLog). l.entries) c.in_ok-group.ensures.ok) c.requires.none

pub returns-in_err-give_parts-clause-grew : goal.returns-in_err-give_parts-clause-grew
returns-in_err-give_parts-clause-grew g c =
    group_grew (group_variable c.in_ok-group.group) c.args.self.now c.args.log.now c.group.new.log c.give_parts.new.log
    (g.met.O.Oracle.searched c.args.oracle.now c.args.log.now c.requires.fit).logged c.in_ok-group.ensures.unnamed
    c.in_ok-group.ensures.ok c.give_parts.ensures.differing

pub returns-clause-grew : goal.returns-clause-grew
returns-clause-grew g c =
    group_grew (group_variable c.in_ok-group.group) c.args.self.now c.args.log.now c.group.new.log c.give_parts.new.log
    (g.met.O.Oracle.searched c.args.oracle.now c.args.log.now c.requires.fit).logged c.in_ok-group.ensures.unnamed
    c.in_ok-group.ensures.ok c.give_parts.ensures.differing

pub returns-clause-given : goal.returns-clause-given
returns-clause-given g c = record {
  made = record {
    positive = c.in_ok-group.ensures.made.positive;
    named = c.give_parts.ensures.differing.names (group_variable c.in_ok-group.group) ∙ c.in_ok-group.ensures.made.named;
  };
  given = c.in_ok-give_parts.ensures.given;
  alone = group_alone (group_variable c.in_ok-group.group) c.args.self.now c.args.log.now c.group.new.log
      c.give_parts.new.log (g.met.O.Oracle.searched c.args.oracle.now c.args.log.now c.requires.fit).logged
      c.in_ok-group.ensures.unnamed c.in_ok-group.ensures.ok c.give_parts.ensures.differing;
  leaves = group_leaves (group_variable c.in_ok-group.group) c.args.self.now c.args.log.now c.group.new.log
      c.give_parts.new.log (g.met.O.Oracle.searched c.args.oracle.now c.args.log.now c.requires.fit).logged
      c.in_ok-group.ensures.unnamed c.in_ok-group.ensures.ok c.give_parts.ensures.differing;
}
