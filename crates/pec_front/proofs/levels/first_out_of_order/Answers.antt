use Rattle.pec_front.specs.Steps.{level_in}
use Rattle.pec_front.proofs.RaisedLevels.{order-shown}
use Rattle.pec_front.proofs.levels.first_out_of_order.Goals as goal

pub returns : goal.returns
returns c =
    order-shown c.latest_shows_order.ensures c.args.circuit.now c.args.boxes.now (level_in c.raise_all.new.self)
    c.first_above.result c.raise_all.ensures.latest c.first_above.ensures
