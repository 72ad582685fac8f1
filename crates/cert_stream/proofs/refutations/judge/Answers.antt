use Rattle.cert_text.specs.Items.{item_seen}
use Rattle.cert_stream.proofs.JudgedItems.{first_put, item_judged_on, lawful_first, may_item}
use Rattle.cert_stream.proofs.refutations.judge.Goals as goal

pub item-requires : goal.item-requires
item-requires c =
    may_item c.args.lines.now (item_seen c.args.item) c.requires.item c.every_reader_is_lawful.ensures c.args.f.now
    c.rows-rows.result.now c.requires.formula c.rows-rows.ensures c.args.proving.now c.in-Some.proving c.in-Some.is
    c.requires.run

pub judge_first-requires-clause-item : goal.judge_first-requires-clause-item
judge_first-requires-clause-item c =
    lawful_first c.args.lines.now (item_seen c.args.item) c.requires.item c.every_reader_is_lawful.ensures c.args.f.now
    c.rows-rows.result.now c.requires.formula c.rows-rows.ensures c.args.proving.now c.in-None.is c.requires.run

pub returns-in-Some : goal.returns-in-Some
returns-in-Some c =
    item_judged_on c.args.lines.now (item_seen c.args.item) c.requires.item c.every_reader_is_lawful.ensures
    c.args.f.now c.rows-rows.result.now c.requires.formula c.rows-rows.ensures c.item.result c.args.proving.now
    c.in-Some.proving c.item.new.self c.in-Some.is c.item.ensures

pub returns-in-None : goal.returns-in-None
returns-in-None c =
    first_put c.args.lines.now (item_seen c.args.item) c.requires.item c.every_reader_is_lawful.ensures
    c.args.f.now c.rows-rows.result.now c.requires.formula c.rows-rows.ensures c.judge_first.result
    c.args.proving.now c.judge_first.new.proving c.in-None.is c.judge_first.ensures.some
    c.judge_first.ensures.judging
