use Rattle.verdict_texts.proofs.AcceptedRefutations.{refutations_accepted}
use Rattle.verdict_texts.proofs.laws.refutations_are_accepted.Goals as goal

pub returns : goal.returns
returns c = refutations_accepted c.canonical_text_spells.ensures.reads_back
    c.deletions_change_no_fault.ensures c.deletions_are_allowed.ensures c.changed_lines_delete_alike.ensures
