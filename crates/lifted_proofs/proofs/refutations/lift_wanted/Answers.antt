use Rattle.std.proofs.Common.{◌*◌, length, refl, arith}
use Rattle.cert_text.specs.Pairs.{is_pair_number}
use Rattle.cert_text.specs.Scan.{first_id}
use Rattle.proof_deletions.proofs.NumberedLines.{from_one}
use Rattle.lifted_proofs.proofs.LiftedRefutations.{wanted-ids, wanted-goals, lifted-allowed, lifted-refutes}
use Rattle.lifted_proofs.proofs.refutations.lift_wanted.Goals as goal

pub planned-requires-clause-ids : goal.planned-requires-clause-ids
planned-requires-clause-ids c =
    wanted-ids c.args.table.now c.args.d.now (length c.args.d.now.rows * length c.args.sources.now)
    c.args.sources.now c.args.wanted.now c.items.result.now c.requires.refutes c.requires.wanted
    refl c.items.ensures

pub planned-requires-clause-goals : goal.planned-requires-clause-goals
planned-requires-clause-goals c =
    wanted-goals c.args.table.now c.args.d.now (length c.args.d.now.rows * length c.args.sources.now)
    c.args.sources.now c.args.wanted.now c.items.result.now c.requires.right c.requires.refutes
    c.requires.sources c.requires.wanted
    refl c.items.ensures

pub of_lines-requires : goal.of_lines-requires
of_lines-requires c =
    let f = c.args.table.now.formula.now in
    let rows = c.in_ok-plan.plan.rows in
    from_one (is_pair_number f (length rows)) (first_id f (length rows)) c.in_ok-steps.steps (omega arith)
    c.in_ok-steps.ensures.lifted.allowed

pub returns-clause-allowed : goal.returns-clause-allowed
returns-clause-allowed c =
    lifted-allowed c.args.table.now c.in_ok-plan.plan c.in_ok-steps.steps
    (record { rows = c.in_ok-plan.plan.rows; items = c.of_lines.result }) c.in_ok-plan.ensures.whole.plan.plan
    c.in_ok-steps.ensures.lifted c.in_ok-steps.ensures.few refl c.of_lines.ensures

pub returns-clause-refutes : goal.returns-clause-refutes
returns-clause-refutes c = search (arith, lifted-refutes)

pub returns-clause-lines : goal.returns-clause-lines
returns-clause-lines c = search arith
