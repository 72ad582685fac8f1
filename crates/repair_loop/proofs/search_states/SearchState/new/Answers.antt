use Rattle.std.proofs.Common.{ℕ, None, ◌≡◌, ◌∙◌, refl, ap, subst, arith, length}
use Rattle.std.specs.List.{Contains}
use Rattle.std.proofs.lemmas.List.Elements.{All-contains}
use Rattle.hint_log.specs.Entries.{name_of}
use Rattle.definability.specs.Copies.{groups_of}
use Rattle.definability.specs.Store.{copy_groups}
use Rattle.repair_loop.proofs.FirstSearchStates.{FirstLaws, first_has_none, first_no_faults, first_ready, mid_plain, mid_undecided, mid_none, mid_no_circuits, end_plain, end_undecided, end_none}
use Rattle.repair_loop.proofs.WholeSearches.{productive}
use Rattle.repair_loop.proofs.search_states.SearchState.new.Goals as goal

pub first_copies-requires-clause-none : goal.first_copies-requires-clause-none
first_copies-requires-clause-none g c = search (arith, first_has_none)

pub first_copies-requires-clause-few : goal.first_copies-requires-clause-few
first_copies-requires-clause-few g c =
    let (b, first) = c.requires.database in
    let none = ap length (first_no_faults c.args.f.now b c.args.log.now.entries first) in
    omega (arith, none)

pub returns-in_err-definability-clause-limit_same : goal.returns-in_err-definability-clause-limit_same
returns-in_err-definability-clause-limit_same g c = (c.first_copies.ensures.grew 0).limit

pub returns-in_err-definability-clause-productive : goal.returns-in_err-definability-clause-productive
returns-in_err-definability-clause-productive g c =
    let laws : FirstLaws = search arith in
    let f = c.args.f.now in
    let (b, first) = c.requires.database in
    productive f c.first_copies.new.log.entries (mid_plain laws f b c.args.log.now c.first_copies.new.log first c.first_copies.ensures.grew)
    (g.met.O.Oracle.searched c.first_copies.new.oracle c.first_copies.new.log c.first_copies.ensures.fit)

pub returns-in_err-definability-clause-undecided : goal.returns-in_err-definability-clause-undecided
returns-in_err-definability-clause-undecided g c = search (arith, mid_undecided)

pub returns-in_err-definability-clause-none : goal.returns-in_err-definability-clause-none
returns-in_err-definability-clause-none g c = search (arith, mid_none)

pub new-requires-clause-none : goal.new-requires-clause-none
new-requires-clause-none g c = search (arith, mid_no_circuits)

pub returns-in_err-checker-clause-limit_same : goal.returns-in_err-checker-clause-limit_same
returns-in_err-checker-clause-limit_same g c = (c.new.ensures.grew 0).limit ∙ (c.first_copies.ensures.grew 0).limit

pub returns-in_err-checker-clause-productive : goal.returns-in_err-checker-clause-productive
returns-in_err-checker-clause-productive g c =
    let laws : FirstLaws = search arith in
    let f = c.args.f.now in
    let (b, first) = c.requires.database in
    productive f c.new.new.log.entries (end_plain laws f c.args.log.now c.first_copies.new.log c.new.new.log
    c.new.ensures.grew (mid_plain laws f b c.args.log.now c.first_copies.new.log first c.first_copies.ensures.grew))
    (g.met.O.Oracle.searched c.new.new.oracle c.new.new.log c.new.ensures.fit)

pub returns-in_err-checker-clause-undecided : goal.returns-in_err-checker-clause-undecided
returns-in_err-checker-clause-undecided g c =
    let laws : FirstLaws = search arith in
    let f = c.args.f.now in
    let (b, first) = c.requires.database in
    end_undecided laws f c.args.log.now c.first_copies.new.log c.new.new.log c.new.ensures.grew
    (mid_undecided laws f b c.args.log.now c.first_copies.new.log first c.first_copies.ensures.grew)

pub returns-in_err-checker-clause-none : goal.returns-in_err-checker-clause-none
returns-in_err-checker-clause-none g c =
    let laws : FirstLaws = search arith in
    let f = c.args.f.now in
    let (b, first) = c.requires.database in
    end_none laws f c.args.log.now c.first_copies.new.log c.new.new.log c.new.ensures.grew
    (mid_none laws f b c.args.log.now c.first_copies.new.log first c.first_copies.ensures.grew)

pub returns-clause-limit_same : goal.returns-clause-limit_same
returns-clause-limit_same g c = (c.new.ensures.grew 0).limit ∙ (c.first_copies.ensures.grew 0).limit

pub returns-clause-productive : goal.returns-clause-productive
returns-clause-productive g c =
    let laws : FirstLaws = search arith in
    let f = c.args.f.now in
    let (b, first) = c.requires.database in
    productive f c.new.new.log.entries (end_plain laws f c.args.log.now c.first_copies.new.log c.new.new.log
    c.new.ensures.grew (mid_plain laws f b c.args.log.now c.first_copies.new.log first c.first_copies.ensures.grew))
    (g.met.O.Oracle.searched c.new.new.oracle c.new.new.log c.new.ensures.fit)

pub returns-clause-undecided : goal.returns-clause-undecided
returns-clause-undecided g c =
    let laws : FirstLaws = search arith in
    let f = c.args.f.now in
    let (b, first) = c.requires.database in
    end_undecided laws f c.args.log.now c.first_copies.new.log c.new.new.log c.new.ensures.grew
    (mid_undecided laws f b c.args.log.now c.first_copies.new.log first c.first_copies.ensures.grew)

pub returns-clause-none : goal.returns-clause-none
returns-clause-none g c =
    let laws : FirstLaws = search arith in
    let f = c.args.f.now in
    let (b, first) = c.requires.database in
    end_none laws f c.args.log.now c.first_copies.new.log c.new.new.log c.new.ensures.grew
    (mid_none laws f b c.args.log.now c.first_copies.new.log first c.first_copies.ensures.grew)

pub returns-clause-ready : goal.returns-clause-ready
returns-clause-ready g c b graph first inputs =
    let laws : FirstLaws = record {
      rest = c.engines_leave_the_rest.ensures;
      sessions = c.engines_leave_sessions.ensures;
      plain = c.plain_logs_are_sessions.ensures;
      databases = c.engines_leave_databases.ensures;
      stores = c.engines_leave_stores.ensures;
      grouped = c.search_states_are_grouped.ensures;
    } in
    let f = c.args.f.now in
    let p = c.in_ok-definability.ensures in
    let k = c.in_ok-checker.ensures in
    let new_groups : (n : ℕ) → Contains (copy_groups c.in_ok-definability.definability) n → name_of c.args.log.now.entries n ≡ None =
    λ n has. All-contains (λ m. name_of c.args.log.now.entries m ≡ None) (groups_of c.in_ok-definability.definability) n p.fresh
    (subst (λ gs. Contains gs n) p.all_active has) in
    first_ready laws f b c.args.log.now c.first_copies.new.log c.new.new.log first c.in_ok-definability.definability c.in_ok-checker.checker
    c.first_copies.ensures.grew p.store new_groups c.new.ensures.grew k.made k.fresh c.new.ensures.faults
    (g.met.O.Oracle.searched c.new.new.oracle c.new.new.log c.new.ensures.fit) _ refl refl c.new-2.ensures.items
    graph inputs
