use Rattle.std.proofs.Common.{ap}
use Rattle.std.specs.BTreeMap.{is_at}
use Rattle.std.specs.Map.{lookup}
use Rattle.hint_log.specs.Entries.{ProofLog}
use Rattle.definability.specs.Copies.{group_variable}
use Rattle.definability.proofs.GivenClauses.{group_anew}
use Rattle.definition_proofs.specs.Terms.{by_both}
use Rattle.definition_proofs.proofs.DeclaredSides.{no_sides}
use Rattle.definition_proofs.proofs.KnownTerms.{no_gates, beside_group}
use Rattle.definition_proofs.proofs.terms.Terms.new.Goals as goal

pub returns-clause-made : goal.returns-clause-made
returns-clause-made g c =
    no_gates (record { alloc = c.args.alloc; group = c.in_ok-group.group; literals = c.new.result })
    c.args.log.now.entries c.group.new.log.entries
    (g.met.O.Oracle.searched c.args.oracle.now c.args.log.now c.requires.fit).logged c.requires.none
    c.in_ok-group.ensures.unnamed c.in_ok-group.ensures.made (ap (λ (l : ProofLog). l.entries) c.in_ok-group.ensures.ok)
    (λ q. ap (lookup (is_at (by_both q))) c.new.ensures.empty)

pub returns-clause-beside : goal.returns-clause-beside
returns-clause-beside g c = λ f p definability whole few.
    let is = ap (λ (l : ProofLog). l.entries) c.in_ok-group.ensures.ok in
    beside_group f p (record { alloc = c.args.alloc; group = c.in_ok-group.group; literals = c.new.result })
    c.args.log.now.entries c.group.new.log.entries c.in_ok-group.ensures.unnamed is (returns-clause-made g c) definability whole
    few
    (no_sides f c.args.log.now.entries c.group.new.log.entries (group_variable c.in_ok-group.group) c.requires.none is)

pub returns-clause-grew : goal.returns-clause-grew
returns-clause-grew g c = λ f group.
    group_anew f c.args.log.now c.group.new.log (group_variable c.in_ok-group.group) c.in_ok-group.ensures.unnamed
    c.in_ok-group.ensures.ok group c.args.log.now.entries (λ v none. none)
