use Rattle.std.proofs.Common.{◌-◌, ◌≤◌, All, length, sym, subst}
use Rattle.row_pairs.specs.Pairs.{HasPlaces, HasRound, ArePairRounds}
use Rattle.row_pairs.proofs.PairRounds.{one_more, pushed_round, row_has}
use Rattle.row_pairs.proofs.rounds.RoundList.add.Goals as goal

pub key-requires : goal.key-requires
key-requires c = row_has c.args.table.now.rows (HasPlaces c.args.places.now)
    (c.args.round - 1) c.row-row.result.now c.requires.whole c.row-row.ensures

pub is_round_of-requires-clause-rounds : goal.is_round_of-requires-clause-rounds
is_round_of-requires-clause-rounds c =
    let rows = c.args.table.now.rows in
    subst (All (λ r. (1 ≤ r) × (r ≤ length rows))) (sym c.deref.ensures.value) c.requires.rounds.each

pub is_round_of-requires-clause-places : goal.is_round_of-requires-clause-places
is_round_of-requires-clause-places c = row_has c.args.table.now.rows (HasPlaces c.args.places.now)
    (c.args.round - 1) c.row-row.result.now c.requires.whole c.row-row.ensures

pub returns-then-is_round_of : goal.returns-then-is_round_of
returns-then-is_round_of c =
    let rows = c.args.table.now.rows in
    one_more rows c.args.places.now c.args.round c.args.self.now.rounds.items c.row-row.result.now c.requires.from_one
    c.row-row.ensures c.requires.rounds
    (subst (λ rs. HasRound rows c.args.places.now rs c.row-row.result.now) c.deref.ensures.value
    (c.is_round_of.ensures c.if-is_round_of.true))

pub returns : goal.returns
returns c =
    subst (ArePairRounds c.args.table.now.rows c.args.places.now c.args.round) (sym c.in_ok-push.ensures.items)
    (pushed_round c.args.table.now.rows c.args.places.now c.args.round c.args.self.now.rounds.items c.row-row.result.now
    c.requires.from_one c.requires.last c.row-row.ensures c.requires.rounds)
