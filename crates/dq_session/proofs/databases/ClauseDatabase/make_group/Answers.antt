use Rattle.std.proofs.Common.{◌≡◌, slice_get, Some, None, sym, ◌∙◌, ap, subst}
use Rattle.dq_session.specs.Databases.{DatabaseState}
use Rattle.dq_session.specs.Changing.{with_group}
use Rattle.dq_session.specs.Giving.{IsGiving}
use Rattle.dq_session.proofs.DatabasesGiving.{giving_group, free_at}
use Rattle.dq_session.proofs.MadeGroups.{set_here}
use Rattle.dq_session.proofs.databases.ClauseDatabase.make_group.Goals as goal

pub returns-clause-giving : goal.returns-clause-giving
returns-clause-giving g c =
    let b = c.args.self.now in
    let log = c.args.log.now in
    let h = c.in_ok-group.group in
    subst (λ (x : DatabaseState). IsGiving b log (with_group x c.args.frame h) c.group.new.log) (sym c.self.view_is)
    (giving_group b c.args.frame h log c.group.new.log c.requires.database c.requires.few
    (g.met.O.Oracle.searched c.args.oracle.now log c.requires.fit).logged c.requires.from_one
    (free_at b c.self.inside.groups.items (ap (λ (x : DatabaseState). x.groups) c.self.view_is) c.args.frame
    c.requires.frame c.index.result.now c.index.ensures (sym c.is_some.ensures ∙ c.if-is_some.false))
    c.in_ok-group.ensures.made.positive c.in_ok-group.ensures.unnamed c.in_ok-group.ensures.ok)

pub returns-clause-group : goal.returns-clause-group
returns-clause-group g c =
    let b = c.args.self.now in
    let h = c.in_ok-group.group in
    let groups_are = ap (λ (x : DatabaseState). x.groups) c.self.view_is in
    let free = free_at b c.self.inside.groups.items groups_are c.args.frame c.requires.frame c.index.result.now
    c.index.ensures (sym c.is_some.ensures ∙ c.if-is_some.false) in (
      h,
      set_here c.self.inside.groups.items c.args.frame None (Some h)
          (subst (λ gs. slice_get gs c.args.frame ≡ Some None) (sym groups_are) free),
    )
