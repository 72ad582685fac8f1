use Rattle.std.proofs.Common.{refl, sym, subst}
use Rattle.cert_judge.specs.StreamInside.{state_in}
use Rattle.cert_judge.specs.Streams.{StandsFor, StreamState}
use Rattle.cert_judge.proofs.Pieces.{fed}
use Rattle.cert_judge.proofs.streams.StreamFeed.feed.Goals as goal

pub returns-in-Ok-clause-stands : goal.returns-in-Ok-clause-stands
returns-in-Ok-clause-stands c text stands =
    let i = c.self.inside in
    let new : StreamState = record {
      formula = i.formula.now;
      unfinished = c.take_piece.new.unfinished.items;
      phase = c.take_piece.new.phase;
    } in
    fed (state_in i) new text c.args.piece.now refl c.in-Ok.ensures.gives
    (subst (λ (s : StreamState). StandsFor s text) (sym c.self.view_is) stands)
