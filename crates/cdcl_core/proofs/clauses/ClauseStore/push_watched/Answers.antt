use Rattle.std.proofs.Common.{◌≡◌, ◌+◌, ◌≤◌, ◌∷◌, ◌++◌, [], length, sym, ap, arith, subst, length-append, All, Contains}
use Rattle.cdcl_core.specs.Chains.{place_of}
use Rattle.cdcl_core.specs.Watching.{IsNoted}
use Rattle.cdcl_core.specs.Storage.{Stored, HasLists}
use Rattle.cdcl_core.proofs.AddedClauses.{watched_more, listed_clause, short_more, list_of}
use Rattle.cdcl_core.proofs.clauses.ClauseStore.push_watched.Goals as goal

pub invariant_of-self : goal.invariant_of-self
invariant_of-self c =
    let s = c.self.inside in
    let inv = c.self.invariant in
    let held = s.arena.clauses in
    let lits = c.args.lits.now in
    let k = c.args.watched.first in
    let l = c.args.watched.second in
    let a = s.first.literals.items in
    let b = s.second.literals.items in
    let first = c.add_watch.new.watches in
    let second = c.add_watch-2.new.watches in
    let clauses : c.push.new.self.clauses ≡ held ++ lits ∷ [] = c.push.ensures in
    let fits : HasLists _ lits = subst (λ (v : Stored). HasLists v lits) (sym c.self.view_is) c.requires.lists in
    let lists : length first.heads.items ≡ length s.first.heads.items = c.add_watch.ensures.lists in
    let lists' : length second.heads.items ≡ length s.second.heads.items = c.add_watch-2.ensures.lists in
    let on_first : All (λ m. place_of m + 1 ≤ length first.heads.items) lits = λ j d lt. let r =
    (fits.all j d lt).first in omega (arith, r, lists) in
    let on_second : All (λ m. place_of m + 1 ≤ length second.heads.items) lits = λ j d lt. let r =
    (fits.all j d lt).second in omega (arith, r, lists') in
    let long = length-append held (lits ∷ []) in
    record {
      linked = c.add_watch.ensures.linked;
      second_linked = c.add_watch-2.ensures.linked;
      watched = rw (clauses, c.add_watch.ensures.literals, c.add_watch-2.ensures.literals)
          (watched_more held a b lits k l inv.watched inv.count inv.second_count c.requires.watched);
      count = omega (
        arith,
        ap length clauses,
        ap length c.add_watch.ensures.literals,
        length-append a (k ∷ []),
        long,
        inv.count,
      );
      second_count = omega (
        arith,
        ap length clauses,
        ap length c.add_watch-2.ensures.literals,
        length-append b (l ∷ []),
        long,
        inv.second_count,
      );
      listed = rw clauses (listed_clause held lits s.first first inv.listed (omega (arith, lists))
          (list_of (length first.heads.items) lits on_first));
      second_listed = rw clauses (listed_clause held lits s.second second inv.second_listed (omega (arith, lists'))
          (list_of (length second.heads.items) lits on_second));
      short = rw (clauses, c.add_watch.ensures.literals, c.add_watch-2.ensures.literals)
          (short_more held a b s.short.items c.note_short.new.short.items lits k l c.is_noted-noted.result c.len.result inv.short
          inv.count inv.second_count (omega (arith, c.len.ensures, ap length clauses, long)) (λ e. subst (λ xs. IsNoted a xs lits k)
          c.deref.ensures.value (c.is_noted-noted.ensures e)) c.note_short.ensures);
      spare = λ h. absurd (omega (arith, h));
    }

pub is_noted-noted-requires : goal.is_noted-noted-requires
is_noted-noted-requires c = λ x h.
    let inv = c.self.invariant in
    let r = inv.short.ids x (subst (λ xs. Contains xs x) c.deref.ensures.value h) in
    let low = r.0 in
    let high = r.1 in
    (low, omega (arith, high, inv.count))
